-- `f_teid_image::record_at` meets its contract: each field from its place.
use Prim.Native.Nat.{ℕ, ◌%◌}
use mathlib.Core.Path.{◌≡◌}
use mathlib.Core.Bool.{Bool}
use mathlib.Core.List.{List}
use lib.ListN.{get_or}
use Rattle.std.specs.Prelude.{Option}
use Rattle.octets.specs.Octets.{bit, if_set, field, address_of}
use Rattle.image.specs.Image.{number_at}
use Rattle.f_teid_image.specs.FteidImage.{flags_at, given_at, teid_at, choose_id_at, ipv4_at, ipv6_at, record_at}
use Rattle.f_teid_image.proofs.record_at.Goals as goal

found : (m : List ℕ) (f : ℕ) (g : ℕ) (x : ℕ) (b0 : Bool) (a4 : Option (List ℕ)) (b1 : Bool) (a6 : Option (List ℕ)) (b2 : Bool) (b3 : Bool) (b4 : Bool) (b5 : Bool) (y : ℕ)
    → f ≡ get_or m flags_at 0
    → g ≡ get_or m given_at 0
    → x ≡ number_at m teid_at
    → b0 ≡ bit 0 g
    → a4 ≡ address_of 4 (field m ipv4_at (if_set b0 4))
    → b1 ≡ bit 1 g
    → a6 ≡ address_of 16 (field m ipv6_at (if_set b1 16))
    → b2 ≡ bit 0 f
    → b3 ≡ bit 1 f
    → b4 ≡ bit 2 f
    → b5 ≡ bit 3 f
    → y ≡ get_or m choose_id_at 0
    → record { v4 = b2; v6 = b3; ch = b4; chid = b5; teid = record { 0 = x % 4294967296 }; ipv4_address = a4; ipv6_address = a6; choose_id = y } ≡ record_at m
unfolding record_at
found m f g x b0 a4 b1 a6 b2 b3 b4 b5 y q0 q1 q2 q3 q4 q5 q6 q7 q8 q9 q10 q11 =
    rw (q11, q10, q9, q8, q7, q6, q5, q4, q3, q2, q1, q0)

pub returns : goal.returns
returns c = search found
