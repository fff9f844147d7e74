-- What `read` says at each return of a reader, from the tests and the calls on the way to it. No contract cites this file.
use Prim.Native.Nat.{ℕ, ◌+◌, ◌≤◌, ◌<◌}
use native.Mathlib.Omega.{arith}
use mathlib.Core.Path.{◌≡◌, refl, ap}
use mathlib.Core.Bool.{Bool}
use mathlib.Core.List.{List}
use Rattle.std.specs.Prelude.{Option}
use lib.Dec.{leb}
use lib.ListN.{length, get_or}
use Rattle.answer.specs.declared.Answer.TheVariants.{Done, Short, InputTooLong}
use Rattle.answer.specs.declared.Read.{Read}
use Rattle.octets.specs.Octets.{pick, bit, if_set, field, big_endian, address_of}
use Rattle.octets.proofs.Laws.{number_field}
use Rattle.kind.proofs.Cases.{stop_long, stop_head, stop_field, all_there, width_if_set_law}
use Rattle.fseid.specs.declared.Fseid.{Fseid}
use Rattle.fseid.specs.Fseid.{layout, read, found, refused, record_of}

module _ (s : List ℕ) where
  pub too_long : (r : Read Fseid) → 65535 < length s → r ≡ refused (InputTooLong (length s)) → r ≡ read s
  unfolding read found
  too_long r = stop_long found layout s r

  pub no_head : (r : Read Fseid) → length s ≤ 65535 → length s < 9 → r ≡ refused (Short 0 9 (length s)) → r ≡ read s
  unfolding read found
  no_head r = stop_head found layout s r

  module _ (f : length s ≤ 65535) (v4 : Bool) (u4 : ℕ) (d4 : v4 ≡ bit 1 (get_or s 0 0)) (e4 : u4 ≡ if_set v4 4) where
    w4 : u4 ≡ if_set (bit 1 (get_or s 0 0)) 4
    w4 = width_if_set_law s 1 4 v4 u4 d4 e4

    pub no_ipv4 : (r : Read Fseid) → 9 ≤ length s → length s < 9 + u4 → r ≡ refused (Short 1 (9 + u4) (length s)) → r ≡ read s
    unfolding read found
    no_ipv4 r = stop_field found layout s r f refl 0 1 _ 4 _ 9 (9 + u4) refl refl (ap (λ (u : ℕ). 9 + u) w4)

    module _ (v6 : Bool) (u6 : ℕ) (d6 : v6 ≡ bit 0 (get_or s 0 0)) (e6 : u6 ≡ if_set v6 16) where
      w6 : u6 ≡ if_set (bit 0 (get_or s 0 0)) 16
      w6 = width_if_set_law s 0 16 v6 u6 d6 e6

      pub no_ipv6 : (r : Read Fseid) → 9 + u4 ≤ length s → length s < 9 + u4 + u6 → r ≡ refused (Short 2 (9 + u4 + u6) (length s)) → r ≡ read s
      unfolding read found
      no_ipv6 r = stop_field found layout s r f refl 1 2 _ 16 _ (9 + u4) (9 + u4 + u6) refl (omega (arith, w4)) (ap (λ (u : ℕ). 9 + u4 + u) w6)

      -- with all the fields; n4 and n6 are the widths of the addresses as a reader states them
      pub whole : (x n4 n6 : ℕ) (a4 a6 : Option (List ℕ)) → 9 + u4 + u6 ≤ length s
          → x ≡ pick (leb (length (field s 1 8)) 8) (big_endian (field s 1 8)) 0
          → a4 ≡ address_of 4 (field s 9 n4)
          → n4 ≡ if_set v4 4
          → a6 ≡ address_of 16 (field s (9 + u4) n6)
          → n6 ≡ if_set v6 16
          → record { answer = Done; used = 9 + u4 + u6; «record» = record { v4 = v4; v6 = v6; seid = record { 0 = x }; ipv4_address = a4; ipv6_address = a6 } } ≡ read s
      unfolding read found record_of
      whole x n4 n6 a4 a6 h p q k q' k' =
          all_there found layout s _ f refl (9 + u4 + u6) (omega (arith, w4, w6)) h
          (rw (p, number_field s 1 8 (omega arith), q, k, q', k', w4, d4, d6))
