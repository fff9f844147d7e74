-- F-TEID is a kind of fixed fields. No contract cites this file.
use Prim.Native.Nat.{ℕ, ◌≤◌}
use native.Mathlib.Omega.{arith}
use mathlib.Core.Path.{◌≡◌, refl, ap, ◌∙◌}
use mathlib.Core.Bool.{Bool, true, false}
use mathlib.Core.List.{List, [], ◌∷◌}
use lib.Dec.{lit<}
use lib.ListN.{length, get_or, take, drop}
use Rattle.octets.specs.Octets.{pick, bit, if_set, flag_byte, Bytes, field}
use Rattle.octets.proofs.Laws.{if_set_le_law, length_field, take_head, bytes_take, bytes_drop, number_again}
use Rattle.octets.proofs.Masks.{flags_low}
use Rattle.kind.specs.Layout.{clear}
use Rattle.kind.specs.Kind.{Reads, Kind}
use Rattle.kind.specs.Demand3.{Demand3, PrefixFree}
use Rattle.kind.proofs.Demand3.{demand3, prefix_free}
use Rattle.kind.proofs.Fixed.{Follows, Fixed, fixed_by, accepted_whole, cut_length, kind_of, local_of}
use Rattle.kind.proofs.Laws.{end, Alike, alike_field, alike_bit}
use Rattle.kind.proofs.Endpoint.{form_again}
use Rattle.f_teid.specs.Fteid.{Value, meaning, tail, wire, rule, layout, max_len, kept_bits, chosen_record, concrete_record, record_of, refused, found, read, reader}
use Rattle.f_teid.proofs.Laws.{end4, chosen_ends, concrete_ends}

-- payloads that are alike have the same four flags
module _ (s t : List ℕ) (a : Alike kept_bits (end layout s) s t) where
  same_bit : (j : ℕ) → bit j (get_or kept_bits 0 0) ≡ true → bit j (get_or t 0 0) ≡ bit j (get_or s 0 0)
  same_bit j h = alike_bit j h a (omega arith)

  pub same_rule : rule (get_or t 0 0) ≡ rule (get_or s 0 0)
  same_rule = rw (same_bit 2 refl, same_bit 3 refl)

  pub same_end : end layout t ≡ end layout s
  same_end = rw (same_bit 0 refl, same_bit 1 refl, same_bit 2 refl, same_bit 3 refl)

  same_chosen : bit 2 (get_or s 0 0) ≡ true → chosen_record t ≡ chosen_record s
  unfolding chosen_record
  same_chosen ch =
      let e = chosen_ends s ch in
      rw (
        same_bit 0 refl,
        same_bit 1 refl,
        same_bit 2 refl,
        same_bit 3 refl,
        alike_field a 1 (if_set (bit 3 (get_or s 0 0)) 1) (omega arith) (omega arith),
      )

  same_concrete : bit 2 (get_or s 0 0) ≡ false → concrete_record t ≡ concrete_record s
  unfolding concrete_record
  same_concrete ch =
      let e = concrete_ends s ch in
      rw (
        same_bit 0 refl,
        same_bit 1 refl,
        same_bit 2 refl,
        same_bit 3 refl,
        alike_field a 1 4 (omega arith) (omega arith),
        alike_field a 5 (if_set (bit 0 (get_or s 0 0)) 4) (omega arith) (omega arith),
        alike_field a (end4 s) (if_set (bit 1 (get_or s 0 0)) 16) (omega arith) (omega arith),
      )

  pub same_record : record_of t ≡ record_of s
  same_record = go (bit 2 (get_or s 0 0)) refl
    where
      go : (c : Bool) → bit 2 (get_or s 0 0) ≡ c → record_of t ≡ record_of s
      go true ch = rw (same_bit 2 refl, ch) (same_chosen ch)
      go false ch = rw (same_bit 2 refl, ch) (same_concrete ch)

-- The written form with CHID as it stands: of any payload that has its fields, what stands there, forbidden flags or not.
unfoldable pub flat : Value → List ℕ
flat v = flag_byte (v.v4 ∷ v.v6 ∷ v.ch ∷ v.chid ∷ []) ∷ tail v

module _ (s : List ℕ) (b : Bytes s) (h : end layout s ≤ length s) where
  flat_chosen : bit 2 (get_or s 0 0) ≡ true → flat (meaning (chosen_record s)) ≡ clear kept_bits (take (end layout s) s)
  unfolding flat tail meaning chosen_record clear
  flat_chosen ch =
      let f = get_or s 0 0 in
      let e = chosen_ends s ch in
      let u = if_set (bit 3 f) 1 in
      rw (
        flags_low 4 f,
        e,
        take_head u s (omega arith),
        ch,
        number_again (bit 3 f) 1 (field s 1 u) (bytes_take u (drop 1 s) (bytes_drop 1 s b)) (lit< tt) (length_field 1 u s (omega arith)),
      )

  flat_concrete : bit 2 (get_or s 0 0) ≡ false → flat (meaning (concrete_record s)) ≡ clear kept_bits (take (end layout s) s)
  unfolding flat tail meaning concrete_record clear
  flat_concrete ch =
      let f = get_or s 0 0 in
      let e = concrete_ends s ch in
      rw (e, ← form_again s 4 (bit 0 f) (bit 1 f) b (omega arith), flags_low 4 f, ch)

  pub flat_again : flat (meaning (record_of s)) ≡ clear kept_bits (take (end layout s) s)
  flat_again = go (bit 2 (get_or s 0 0)) refl
    where
      go : (c : Bool) → bit 2 (get_or s 0 0) ≡ c → flat (meaning (record_of s)) ≡ clear kept_bits (take (end layout s) s)
      go true ch = ap (λ (t : Bool). flat (meaning (pick t (chosen_record s) (concrete_record s)))) ch ∙ flat_chosen ch
      go false ch = ap (λ (t : Bool). flat (meaning (pick t (chosen_record s) (concrete_record s)))) ch ∙ flat_concrete ch

-- what is read has CHID only with CH, so that its written form is the flat one
pub lawful : (s : List ℕ) → rule (get_or s 0 0) ≡ 0 → wire (meaning (record_of s)) ≡ flat (meaning (record_of s))
unfolding wire flat meaning chosen_record concrete_record
lawful s e = go (bit 2 (get_or s 0 0)) (bit 3 (get_or s 0 0)) refl refl
  where
    go : (c i : Bool) → bit 2 (get_or s 0 0) ≡ c → bit 3 (get_or s 0 0) ≡ i → wire (meaning (record_of s)) ≡ flat (meaning (record_of s))
    go true i ch chid = simp ch
    go false false ch chid = simp (ch, chid)
    go false true ch chid = let z : ◌≡◌ {A = ℕ} 4 0 = unfold if_set in rw (ch, chid) at e in absurd (omega arith)

-- the reader follows the layout
pub follows : Follows reader layout (λ s. meaning (record_of s))
unfolding read found refused
follows = record { on_accepts = λ s n q. (rw q, rw q, rw q); on_refuses = λ s a q. rw q }

abbrev pub fixed : Fixed
fixed = fixed_by reader layout kept_bits (λ s. meaning (record_of s)) wire follows same_rule same_end (λ s t a. ap meaning (same_record s t a)) (λ s b e h. lawful s e ∙ flat_again s b h)

-- ---- F-TEID is a kind: demand 3 holds of it, and no written form is a proper beginning of another
abbrev pub kind : Kind
kind = kind_of fixed

pub demands : Demand3 kind
demands = demand3 kind

pub unlike : PrefixFree kind
unlike = prefix_free kind (local_of fixed)

-- the shortest and the longest written form of a value that was read
pub extent : {s : List ℕ} {v : Value} {n : ℕ} → Reads reader s v n → (layout.head ≤ length (wire v)) × (length (wire v) ≤ max_len)
extent {s} {v} r =
    let w = accepted_whole fixed r in
    let l : length (wire v) ≡ end layout s = cut_length fixed r ∙ w.ends in
    rw l (go (bit 2 (get_or s 0 0)) refl)
  where
    go : (c : Bool) → bit 2 (get_or s 0 0) ≡ c → (layout.head ≤ end layout s) × (end layout s ≤ max_len)
    go true ch = omega (arith, chosen_ends s ch, if_set_le_law (bit 3 (get_or s 0 0)) 1)
    go false ch = omega (arith, concrete_ends s ch, if_set_le_law (bit 0 (get_or s 0 0)) 4, if_set_le_law (bit 1 (get_or s 0 0)) 16)
