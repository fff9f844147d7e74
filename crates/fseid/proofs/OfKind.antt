-- F-SEID is a kind of fixed fields. No contract cites this file.
use Prim.Native.Nat.{ℕ, ◌+◌, ◌≤◌}
use native.Mathlib.Omega.{arith}
use mathlib.Core.Path.{◌≡◌, refl, ap}
use mathlib.Core.List.{List}
use lib.ListN.{length, get_or, take}
use Rattle.octets.specs.Octets.{bit, if_set, Bytes}
use Rattle.octets.proofs.Laws.{if_set_le_law}
use Rattle.octets.proofs.Masks.{flags_low}
use Rattle.kind.specs.Layout.{clear}
use Rattle.kind.specs.Kind.{Reads, Kind}
use Rattle.kind.specs.Demand3.{Demand3, PrefixFree}
use Rattle.kind.proofs.Demand3.{demand3, prefix_free}
use Rattle.kind.proofs.Fixed.{Follows, Fixed, fixed_by, accepted_whole, cut_length, kind_of, local_of}
use Rattle.kind.proofs.Laws.{end, Alike, alike_field, alike_bit}
use Rattle.kind.proofs.Endpoint.{form_again}
use Rattle.fseid.specs.Fseid.{Value, meaning, wire, layout, max_len, kept_bits, record_of, refused, found, read, reader}

-- where IPv4 ends
abbrev end4 : List ℕ → ℕ
end4 s = 9 + if_set (bit 1 (get_or s 0 0)) 4

-- payloads that are alike have the same two flags
module _ (s t : List ℕ) (a : Alike kept_bits (end layout s) s t) where
  same_v4 : bit 1 (get_or t 0 0) ≡ bit 1 (get_or s 0 0)
  same_v4 = alike_bit 1 refl a (omega arith)

  same_v6 : bit 0 (get_or t 0 0) ≡ bit 0 (get_or s 0 0)
  same_v6 = alike_bit 0 refl a (omega arith)

  pub same_end : end layout t ≡ end layout s
  same_end = rw (same_v4, same_v6)

  pub same_record : record_of t ≡ record_of s
  unfolding record_of
  same_record =
      rw (
        same_v4,
        same_v6,
        alike_field a 1 8 (omega arith) (omega arith),
        alike_field a 9 (if_set (bit 1 (get_or s 0 0)) 4) (omega arith) (omega arith),
        alike_field a (end4 s) (if_set (bit 0 (get_or s 0 0)) 16) (omega arith) (omega arith),
      )

pub rewritten : (s : List ℕ) → Bytes s → end layout s ≤ length s → wire (meaning (record_of s)) ≡ clear kept_bits (take (end layout s) s)
unfolding wire meaning record_of clear
rewritten s b h =
    let f = get_or s 0 0 in
    let sum : end layout s ≡ end4 s + if_set (bit 0 f) 16 = omega arith in
    rw (sum, ← form_again s 8 (bit 1 f) (bit 0 f) b (omega arith), flags_low 2 f)

-- the reader follows the layout
pub follows : Follows reader layout (λ s. meaning (record_of s))
unfolding read found refused
follows = record { on_accepts = λ s n q. (rw q, rw q, rw q); on_refuses = λ s a q. rw q }

abbrev pub fixed : Fixed
fixed = fixed_by reader layout kept_bits (λ s. meaning (record_of s)) wire follows (λ s t a. refl) same_end (λ s t a. ap meaning (same_record s t a)) (λ s b e h. rewritten s b h)

-- ---- F-SEID is a kind: demand 3 holds of it, and no written form is a proper beginning of another
abbrev pub kind : Kind
kind = kind_of fixed

pub demands : Demand3 kind
demands = demand3 kind

pub unlike : PrefixFree kind
unlike = prefix_free kind (local_of fixed)

-- the shortest and the longest written form of a value that was read
pub extent : {s : List ℕ} {v : Value} {n : ℕ} → Reads reader s v n → (layout.head ≤ length (wire v)) × (length (wire v) ≤ max_len)
extent {s} r =
    let w = accepted_whole fixed r in
    omega (arith, cut_length fixed r, w.ends, if_set_le_law (bit 1 (get_or s 0 0)) 4, if_set_le_law (bit 0 (get_or s 0 0)) 16)
