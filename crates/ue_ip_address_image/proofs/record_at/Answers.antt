-- `ue_ip_address_image::record_at` meets its contract: each field from its place.
use Prim.Native.Nat.{ℕ}
use mathlib.Core.Path.{◌≡◌}
use mathlib.Core.Bool.{Bool}
use mathlib.Core.List.{List}
use lib.ListN.{get_or}
use Rattle.std.specs.Prelude.{Option}
use Rattle.std.specs.Bool.{then_some}
use Rattle.octets.specs.Octets.{bit, if_set, field, address_of}
use Rattle.ue_ip_address_image.specs.UeIpAddressImage.{flags_at, given_at, bits_at, prefix_at, ipv4_at, ipv6_at, record_at}
use Rattle.ue_ip_address_image.proofs.record_at.Goals as goal

found : (m : List ℕ) (f g : ℕ) (b0 : Bool) (a4 : Option (List ℕ)) (b1 : Bool) (a6 : Option (List ℕ)) (x y : ℕ) (b2 b3 b4 b5 b6 b7 b8 b9 : Bool) (bits : Option ℕ) (b10 : Bool) (prefix : Option ℕ)
    → f ≡ get_or m flags_at 0
    → g ≡ get_or m given_at 0
    → b0 ≡ bit 0 g
    → a4 ≡ address_of 4 (field m ipv4_at (if_set b0 4))
    → b1 ≡ bit 1 g
    → a6 ≡ address_of 16 (field m ipv6_at (if_set b1 16))
    → x ≡ get_or m bits_at 0
    → y ≡ get_or m prefix_at 0
    → b2 ≡ bit 1 f
    → b3 ≡ bit 0 f
    → b4 ≡ bit 2 f
    → b5 ≡ bit 3 f
    → b6 ≡ bit 4 f
    → b7 ≡ bit 5 f
    → b8 ≡ bit 6 f
    → b9 ≡ bit 2 g
    → bits ≡ then_some b9 x
    → b10 ≡ bit 3 g
    → prefix ≡ then_some b10 y
    → record { v4 = b2; v6 = b3; source_destination = b4; ipv6_prefix_delegation = b5; choose_ipv4 = b6; choose_ipv6 = b7; ipv6_prefix_length_present = b8; ipv4_address = a4; ipv6_address = a6; ipv6_prefix_delegation_bits = bits; ipv6_prefix_length = prefix } ≡ record_at m
unfolding record_at
found m f g b0 a4 b1 a6 x y b2 b3 b4 b5 b6 b7 b8 b9 bits b10 prefix q0 q1 q2 q3 q4 q5 q6 q7 q8 q9 q10 q11 q12 q13 q14 q15 q16 q17 q18 =
    rw (q18, q17, q16, q15, q14, q13, q12, q11, q10, q9, q8, q7, q6, q5, q4, q3, q2, q1, q0)

pub returns : goal.returns
returns c = search found
