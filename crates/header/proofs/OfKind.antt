-- A header is a kind of fixed fields. No contract cites this file.
use Prim.Native.Nat.{ℕ, ◌+◌, ◌≤◌}
use native.Mathlib.Omega.{arith}
use mathlib.Core.Path.{◌≡◌, refl, sym, ap, ◌∙◌}
use mathlib.Core.Bool.{Bool, true}
use mathlib.Core.List.{List, [], ◌∷◌, ◌++◌}
use lib.ListN.{length, get_or, take, drop}
use Rattle.octets.specs.Octets.{bit, if_set, Bytes, field, big_endian, number_if, presence}
use Rattle.octets.proofs.Laws.{take_head, field_split, length_field, bytes_take, bytes_drop, bytes_field, number_again}
use Rattle.kind.specs.Layout.{clear}
use Rattle.kind.specs.Kind.{Reads, Kind}
use Rattle.kind.specs.Demand3.{Demand3, PrefixFree}
use Rattle.kind.proofs.Demand3.{demand3, prefix_free}
use Rattle.kind.proofs.Fixed.{Follows, Fixed, fixed_by, accepted_whole, cut_length, kind_of, local_of}
use Rattle.kind.proofs.Laws.{end, Alike, alike_field, alike_bit}
use Rattle.header.specs.declared.Header.{Header}
use Rattle.header.specs.Header.{wire, layout, kept_bits, place, record_of, refused, found, read, reader}
use Rattle.header.proofs.Laws.{two_halves, first_field, byte_field, first_again}

-- whether the SEID is sent
abbrev sent : List ℕ → Bool
sent s = bit 0 (get_or s 0 0)

-- payloads that are alike have the same flags, version and fields
module _ (s t : List ℕ) (a : Alike kept_bits (end layout s) s t) where
  same_bit : (j : ℕ) → bit j (get_or kept_bits 0 0) ≡ true → bit j (get_or t 0 0) ≡ bit j (get_or s 0 0)
  same_bit j h = alike_bit j h a (omega arith)

  same_byte : (i : ℕ) → 1 ≤ i → i + 1 ≤ end layout s → get_or t i 0 ≡ get_or s i 0
  same_byte i h g = sym (first_field i t) ∙ ap (λ (l : List ℕ). get_or l 0 0) (alike_field a i 1 h g) ∙ first_field i s

  pub same_end : end layout t ≡ end layout s
  same_end = rw (same_bit 0 refl)

  pub same_record : record_of t ≡ record_of s
  unfolding record_of
  same_record =
      rw (
        same_bit 0 refl,
        same_bit 1 refl,
        same_bit 2 refl,
        same_bit 5 refl,
        same_bit 6 refl,
        same_bit 7 refl,
        same_byte 1 (omega arith) (omega arith),
        alike_field a 2 2 (omega arith) (omega arith),
        alike_field a 4 (if_set (sent s) 8) (omega arith) (omega (arith, two_halves (sent s))),
        alike_field a (place (sent s)) 3 (omega arith) (omega (arith, two_halves (sent s))),
        same_byte (place (sent s) + 3) (omega arith) (omega (arith, two_halves (sent s))),
      )

-- a whole payload, cut behind its fields
module _ (s : List ℕ) (b : Bytes s) (h : end layout s ≤ length s) where
  abbrev u : ℕ
  u = if_set (sent s) 8

  sum : end layout s ≡ 1 + (1 + (2 + (u + (3 + 1))))
  sum = omega (arith, two_halves (sent s))

  cut : take (end layout s) s ≡ get_or s 0 0 ∷ get_or s 1 0 ∷ (field s 2 2 ++ (field s 4 u ++ (field s (4 + u) 3 ++ (get_or s (4 + u + 3) 0 ∷ []))))
  cut =
      rw (
        sum,
        take_head (1 + (2 + (u + (3 + 1)))) s (omega arith),
        field_split 1 1 (2 + (u + (3 + 1))) s,
        field_split 2 2 (u + (3 + 1)) s,
        field_split 4 u (3 + 1) s,
        field_split (4 + u) 3 1 s,
        byte_field 1 s (omega arith),
        byte_field (4 + u + 3) s (omega (arith, sum)),
      )

  again_seid : number_if 8 (presence (sent s) (big_endian (field s 4 u))) ≡ field s 4 u
  again_seid = number_again (sent s) 8 (field s 4 u) (bytes_take u (drop 4 s) (bytes_drop 4 s b)) (omega arith) (length_field 4 u s (omega (arith, sum)))

  pub rewritten : wire (record_of s) ≡ clear kept_bits (take (end layout s) s)
  unfolding wire record_of clear
  rewritten =
      rw (
        cut,
        first_again (get_or s 0 0),
        bytes_field 2 2 s b (omega arith),
        again_seid,
        bytes_field (4 + u) 3 s b (omega (arith, sum)),
      )

-- the reader follows the layout
pub follows : Follows reader layout record_of
unfolding read found refused
follows = record { on_accepts = λ s n q. (rw q, rw q, rw q); on_refuses = λ s a q. rw q }

abbrev pub fixed : Fixed
fixed = fixed_by reader layout kept_bits record_of wire follows (λ s t a. refl) same_end same_record (λ s b e h. rewritten s b h)

-- ---- a header is a kind: demand 3 holds of it, and no written form is a proper beginning of another
abbrev pub kind : Kind
kind = kind_of fixed

pub demands : Demand3 kind
demands = demand3 kind

pub unlike : PrefixFree kind
unlike = prefix_free kind (local_of fixed)

-- the written form of a value that was read has 8 bytes, or 16 with the SEID
pub extent : {s : List ℕ} {v : Header} {n : ℕ} → Reads reader s v n → length (wire v) ≡ 8 + if_set (sent s) 8
extent {s} r =
    let w = accepted_whole fixed r in
    omega (arith, cut_length fixed r, w.ends, two_halves (sent s))
