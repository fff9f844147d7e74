-- Outer Header Creation is a kind of fixed fields. No contract cites this file.
use Prim.Native.Nat.{ℕ, ◌+◌, ◌≤◌, ◌<◌}
use native.Mathlib.Omega.{arith}
use mathlib.Core.Path.{◌≡◌, refl, ap, ◌∙◌}
use mathlib.Core.Bool.{Bool, true}
use mathlib.Core.List.{List, [], ◌∷◌, flatten}
use lib.Bits.{bit_and, and_zero_r}
use lib.ListN.{length, get_or, take, drop}
use Rattle.std.specs.Prelude.{Option, None, Some, option_map, unwrap_or}
use Rattle.types.specs.declared.Teid.{Teid}
use Rattle.octets.specs.Octets.{bit, if_set, Bytes, field, big_endian_bytes, number_if, address_of, number_of, bytes_if}
use Rattle.octets.proofs.Laws.{if_set_le_law, length_field, bytes_take, bytes_drop, address_written, number_written}
use Rattle.octets.proofs.Masks.{flags_low}
use Rattle.kind.specs.Layout.{clear}
use Rattle.kind.specs.Kind.{Reads, Kind}
use Rattle.kind.specs.Demand3.{Demand3, PrefixFree}
use Rattle.kind.proofs.Demand3.{demand3, prefix_free}
use Rattle.kind.proofs.Fixed.{Follows, Fixed, fixed_by, accepted_whole, cut_length, kind_of, local_of}
use Rattle.kind.proofs.Laws.{total, end, Alike, alike_field, alike_bit}
use Rattle.kind.proofs.Rows.{pieces, take_pieces}
use Rattle.outer_header_creation.specs.declared.SentFields.{SentFields}
use Rattle.outer_header_creation.specs.OuterHeaderCreation.{Flags, Value, flags_of, asked, fields_of, meaning, sent_if, wire, layout, max_len, kept_bits, teid_of, record_with, record_of, refused, found, read, reader}
use Rattle.outer_header_creation.specs.Steps.{ends_of}
use Rattle.outer_header_creation.proofs.Laws.{ends, back_given, back_anyway}

-- the fields that a payload's flags ask for
abbrev sent : List ℕ → SentFields
sent s = asked (flags_of (get_or s 0 0))

-- payloads that are alike have the same flags
module _ (s t : List ℕ) (a : Alike kept_bits (end layout s) s t) where
  same_bit : (j : ℕ) → bit j (get_or kept_bits 0 0) ≡ true → bit j (get_or t 0 0) ≡ bit j (get_or s 0 0)
  same_bit j h = alike_bit j h a (omega arith)

  same_flags : flags_of (get_or t 0 0) ≡ flags_of (get_or s 0 0)
  same_flags =
      rw (
        same_bit 0 refl,
        same_bit 1 refl,
        same_bit 2 refl,
        same_bit 3 refl,
        same_bit 4 refl,
        same_bit 5 refl,
        same_bit 6 refl,
        same_bit 7 refl,
      )

  pub same_end : end layout t ≡ end layout s
  same_end = ap (λ (f : Flags). 2 + total (fields_of (asked f))) same_flags

  pub same_record : record_of t ≡ record_of s
  unfolding record_with ends_of
  same_record =
      ap (λ (f : Flags). record_with f t) same_flags
      ∙ rw (
        alike_field a 2 (if_set (sent s).teid 4) (omega arith) (omega arith),
        alike_field a (ends s).teid (if_set (sent s).ipv4 4) (omega arith) (omega arith),
        alike_field a (ends s).ipv4 (if_set (sent s).ipv6 16) (omega arith) (omega arith),
        alike_field a (ends s).ipv6 (if_set (sent s).port 2) (omega arith) (omega arith),
        alike_field a (ends s).port (if_set (sent s).ctag 3) (omega arith) (omega arith),
        alike_field a (ends s).ctag (if_set (sent s).stag 3) (omega arith) (omega arith),
      )

first_two : (s : List ℕ) → 2 ≤ length s → take 2 s ≡ get_or s 0 0 ∷ get_or s 1 0 ∷ []
first_two [] h = absurd (omega arith)
first_two (b ∷ []) h = absurd (omega arith)
first_two (b ∷ c ∷ s) h = refl

-- each field that is all there is written as it stood
module _ (s : List ℕ) (b : Bytes s) (f : Bool) (at w : ℕ) (h : at + if_set f w ≤ length s) where
  abbrev part : List ℕ
  part = field s at (if_set f w)

  long : length part ≡ if_set f w
  long = length_field at (if_set f w) s h

  each : Bytes part
  each = bytes_take (if_set f w) (drop at s) (bytes_drop at s b)

  again_address : 0 < w → sent_if f (bytes_if (address_of w part)) ≡ part
  again_address p = back_given f w part long _ (address_written f part w p long)

  again_anyway : (m : ℕ) → 0 < w → w ≤ m → sent_if f (big_endian_bytes w (unwrap_or (number_of m part) 0)) ≡ part
  again_anyway m p q = back_anyway f w part long (number_of m part) p (number_written f w part each p long m q)

  again_tag : 0 < w → w ≤ 4 → sent_if f (number_if w (number_of 4 part)) ≡ part
  again_tag p q = back_given f w part long _ (number_written f w part each p long 4 q)

-- the number of a TEID that was read
teid_number : (bs : List ℕ) → option_map (λ t. t.0) (teid_of bs) ≡ number_of 4 bs
teid_number bs = go (number_of 4 bs)
  where
    go : (o : Option ℕ) → option_map (λ t. t.0) (option_map {U = Teid} (λ x. record { 0 = x }) o) ≡ o
    go (Some x) = refl
    go None = refl

-- of the first two bytes the flags are kept and the spare byte is cleared
first_cleared : (x y : ℕ) (bs : List ℕ) → clear kept_bits (x ∷ y ∷ bs) ≡ bit_and x 0xFF ∷ 0 ∷ bs
unfolding clear
first_cleared x y bs = ap (λ (z : ℕ). bit_and x 0xFF ∷ z ∷ bs) (and_zero_r y)

pub rewritten : (s : List ℕ) → Bytes s → end layout s ≤ length s → wire (meaning (record_of s)) ≡ clear kept_bits (take (end layout s) s)
unfolding wire meaning record_with ends_of flatten
rewritten s b h =
    rw (
      take_pieces 2 (fields_of (sent s)) s,
      first_two s (omega arith),
      first_cleared (get_or s 0 0) (get_or s 1 0) (flatten (pieces 2 (fields_of (sent s)) s)),
      flags_low 8 (get_or s 0 0),
      teid_number (field s 2 (if_set (sent s).teid 4)),
      again_anyway s b (sent s).teid 2 4 (omega arith) 4 (omega arith) (omega arith),
      again_address s b (sent s).ipv4 (ends s).teid 4 (omega arith) (omega arith),
      again_address s b (sent s).ipv6 (ends s).ipv4 16 (omega arith) (omega arith),
      again_anyway s b (sent s).port (ends s).ipv6 2 (omega arith) 2 (omega arith) (omega arith),
      again_tag s b (sent s).ctag (ends s).port 3 (omega arith) (omega arith) (omega arith),
      again_tag s b (sent s).stag (ends s).ctag 3 (omega arith) (omega arith) (omega arith),
    )

-- the reader follows the layout
pub follows : Follows reader layout (λ s. meaning (record_of s))
unfolding read found refused
follows = record { on_accepts = λ s n q. (rw q, rw q, rw q); on_refuses = λ s a q. rw q }

abbrev pub fixed : Fixed
fixed = fixed_by reader layout kept_bits (λ s. meaning (record_of s)) wire follows (λ s t a. refl) same_end (λ s t a. ap meaning (same_record s t a)) (λ s b e h. rewritten s b h)

-- ---- Outer Header Creation is a kind: demand 3 holds of it, and no written form is a proper beginning of another
abbrev pub kind : Kind
kind = kind_of fixed

pub demands : Demand3 kind
demands = demand3 kind

pub unlike : PrefixFree kind
unlike = prefix_free kind (local_of fixed)

-- the shortest and the longest written form of a value that was read
pub extent : {s : List ℕ} {v : Value} {n : ℕ} → Reads reader s v n → (layout.head ≤ length (wire v)) × (length (wire v) ≤ max_len)
extent {s} r =
    let w = accepted_whole fixed r in
    omega (
      arith,
      cut_length fixed r,
      w.ends,
      if_set_le_law (sent s).teid 4,
      if_set_le_law (sent s).ipv4 4,
      if_set_le_law (sent s).ipv6 16,
      if_set_le_law (sent s).port 2,
      if_set_le_law (sent s).ctag 3,
      if_set_le_law (sent s).stag 3,
    )
