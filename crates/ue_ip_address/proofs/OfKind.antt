-- UE IP Address is a kind of fixed fields. No contract cites this file.
use Prim.Native.Nat.{ℕ, ◌+◌, ◌≤◌}
use native.Mathlib.Omega.{arith}
use mathlib.Core.Path.{◌≡◌, refl, sym, ap}
use mathlib.Core.Bool.{Bool, true, false, ◌&&◌, false≢true}
use mathlib.Core.List.{List, flatten, append-nil}
use lib.Dec.{lit<}
use lib.ListN.{length, get_or, take}
use Rattle.octets.specs.Octets.{bit, if_set, Bytes, field}
use Rattle.octets.proofs.Laws.{if_set_le_law, length_field, take_first, bytes_take, bytes_drop, address_written, number_written}
use Rattle.octets.proofs.Masks.{flags_low}
use Rattle.kind.specs.Layout.{clear}
use Rattle.kind.specs.Kind.{Reads, Kind}
use Rattle.kind.specs.Demand3.{Demand3, PrefixFree}
use Rattle.kind.proofs.Demand3.{demand3, prefix_free}
use Rattle.kind.proofs.Fixed.{Follows, Fixed, fixed_by, accepted_whole, cut_length, kind_of, local_of}
use Rattle.kind.proofs.Laws.{end, Alike, alike_field, alike_bit}
use Rattle.kind.proofs.Rows.{take_pieces}
use Rattle.ue_ip_address.specs.UeIpAddress.{Value, meaning, wire, broken_rule, layout, max_len, kept_bits, record_of, refused, found, read, reader}
use Rattle.ue_ip_address.proofs.Rules.{keeps2}

-- where the fields end
abbrev end4 : List ℕ → ℕ
end4 s = 1 + if_set (bit 1 (get_or s 0 0)) 4

abbrev end6 : List ℕ → ℕ
end6 s = end4 s + if_set (bit 0 (get_or s 0 0)) 16

abbrev end_bits : List ℕ → ℕ
end_bits s = end6 s + if_set (bit 3 (get_or s 0 0)) 1

-- payloads that are alike have the same seven flags
module _ (s t : List ℕ) (a : Alike kept_bits (end layout s) s t) where
  same_bit : (j : ℕ) → bit j (get_or kept_bits 0 0) ≡ true → bit j (get_or t 0 0) ≡ bit j (get_or s 0 0)
  same_bit j h = alike_bit j h a (omega arith)

  pub same_rule : broken_rule (get_or t 0 0) ≡ broken_rule (get_or s 0 0)
  unfolding broken_rule
  same_rule = rw (same_bit 0 refl, same_bit 1 refl, same_bit 3 refl, same_bit 4 refl, same_bit 5 refl, same_bit 6 refl)

  pub same_end : end layout t ≡ end layout s
  same_end = rw (same_bit 0 refl, same_bit 1 refl, same_bit 3 refl, same_bit 6 refl)

  pub same_record : record_of t ≡ record_of s
  unfolding record_of
  same_record =
      rw (
        same_bit 0 refl,
        same_bit 1 refl,
        same_bit 2 refl,
        same_bit 3 refl,
        same_bit 4 refl,
        same_bit 5 refl,
        same_bit 6 refl,
        alike_field a 1 (if_set (bit 1 (get_or s 0 0)) 4) (omega arith) (omega arith),
        alike_field a (end4 s) (if_set (bit 0 (get_or s 0 0)) 16) (omega arith) (omega arith),
        alike_field a (end6 s) (if_set (bit 3 (get_or s 0 0)) 1) (omega arith) (omega arith),
        alike_field a (end_bits s) (if_set (bit 6 (get_or s 0 0)) 1) (omega arith) (omega arith),
      )

pub rewritten : (s : List ℕ) → Bytes s → end layout s ≤ length s → wire (meaning (record_of s)) ≡ clear kept_bits (take (end layout s) s)
unfolding wire meaning record_of clear flatten
rewritten s b h =
    let f = get_or s 0 0 in
    let u4 = if_set (bit 1 f) 4 in
    let u6 = if_set (bit 0 f) 16 in
    let ub = if_set (bit 3 f) 1 in
    let up = if_set (bit 6 f) 1 in
    rw (
      take_pieces 1 (layout.fields f) s,
      take_first 0 s (omega arith),
      append-nil,
      flags_low 7 f,
      address_written (bit 1 f) (field s 1 u4) 4 (lit< tt) (length_field 1 u4 s (omega arith)),
      address_written (bit 0 f) (field s (end4 s) u6) 16 (lit< tt) (length_field (end4 s) u6 s (omega arith)),
      number_written (bit 3 f) 1 (field s (end6 s) ub) (bytes_take ub _ (bytes_drop (end6 s) s b)) (lit< tt) (length_field (end6 s) ub s (omega arith)) 1 (omega arith),
      number_written (bit 6 f) 1 (field s (end_bits s) up) (bytes_take up _ (bytes_drop (end_bits s) s b)) (lit< tt) (length_field (end_bits s) up s (omega arith)) 1 (omega arith),
    )

-- the reader follows the layout
pub follows : Follows reader layout (λ s. meaning (record_of s))
unfolding read found refused
follows = record { on_accepts = λ s n q. (rw q, rw q, rw q); on_refuses = λ s a q. rw q }

abbrev pub fixed : Fixed
fixed = fixed_by reader layout kept_bits (λ s. meaning (record_of s)) wire follows same_rule same_end (λ s t a. ap meaning (same_record s t a)) (λ s b e h. rewritten s b h)

-- ---- UE IP Address is a kind: demand 3 holds of it, and no written form is a proper beginning of another
abbrev pub kind : Kind
kind = kind_of fixed

pub demands : Demand3 kind
demands = demand3 kind

pub unlike : PrefixFree kind
unlike = prefix_free kind (local_of fixed)

-- by rule 2 at most one of the two single bytes is sent
one_byte : (b : ℕ) → broken_rule b ≡ 0 → if_set (bit 3 b) 1 + if_set (bit 6 b) 1 ≤ 1
unfolding if_set
one_byte b free = go (bit 3 b) (bit 6 b) (keeps2 b free)
  where
    go : (d p : Bool) → d && p ≡ false → if_set d 1 + if_set p 1 ≤ 1
    go true true e = absurd (false≢true (sym e))
    go true false e = omega arith
    go false p e = omega (arith, if_set_le_law p 1)

-- the shortest and the longest written form of a value that was read
pub extent : {s : List ℕ} {v : Value} {n : ℕ} → Reads reader s v n → (layout.head ≤ length (wire v)) × (length (wire v) ≤ max_len)
extent {s} r =
    let w = accepted_whole fixed r in
    let b = get_or s 0 0 in
    omega (
      arith,
      cut_length fixed r,
      w.ends,
      if_set_le_law (bit 1 b) 4,
      if_set_le_law (bit 0 b) 16,
      one_byte b w.free,
    )
