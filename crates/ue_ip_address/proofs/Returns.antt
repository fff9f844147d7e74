-- What `read` says at each return of a reader, from the tests and the calls on the way to it. No contract cites this file.
use Prim.Native.Nat.{ℕ, ◌+◌, ◌≤◌, ◌<◌}
use native.Mathlib.Omega.{arith}
use mathlib.Core.Path.{◌≡◌, refl, sym, ap, ◌∙◌}
use mathlib.Core.Bool.{Bool, true, false}
use mathlib.Core.List.{List}
use lib.ListN.{length, get_or}
use Rattle.std.specs.Prelude.{Option, Some}
use Rattle.answer.specs.declared.Answer.TheVariants.{Done, Short, Flags, InputTooLong}
use Rattle.answer.specs.declared.Read.{Read}
use Rattle.octets.specs.Octets.{pick, bit, if_set, field, address_of, number_of}
use Rattle.kind.proofs.Cases.{stop_long, stop_head, stop_rule, stop_field, all_there, width_if_set_law}
use Rattle.ue_ip_address.specs.declared.UeIpAddress.{UeIpAddress}
use Rattle.ue_ip_address.specs.UeIpAddress.{broken_rule, rule_of, layout, read, found, refused, record_of}
use Rattle.ue_ip_address.proofs.Rules.{keeps2, rule_given}

module _ (s : List ℕ) (r : Read UeIpAddress) where
  pub too_long : 65535 < length s → r ≡ refused (InputTooLong (length s)) → r ≡ read s
  unfolding read found
  too_long h q = stop_long found layout s r h q

  pub no_head : length s < 1 → r ≡ refused (Short 0 1 (length s)) → r ≡ read s
  unfolding read found
  no_head h q = stop_head found layout s r (omega arith) h q

-- no rule is broken
pub free_of : (b k : ℕ) → k ≡ broken_rule b → k ≡ 0 → broken_rule b ≡ 0
free_of b k e z = sym e ∙ z

-- a payload that has its flags
module _ (s : List ℕ) (f : length s ≤ 65535) (a : 1 ≤ length s) where
  pub forbidden : (r : Read UeIpAddress) (k : ℕ) → k ≡ broken_rule (get_or s 0 0) → (k ≡ 0 → ⊥) → r ≡ refused (Flags (get_or s 0 0) k) → r ≡ read s
  unfolding read found
  forbidden r k e h q = stop_rule found layout s r f k a (sym e) h q

  pub broken : (r : Read UeIpAddress) (k : ℕ) {o : Option ℕ} → o ≡ rule_of (broken_rule (get_or s 0 0)) → o ≡ Some k → r ≡ refused (Flags (get_or s 0 0) k) → r ≡ read s
  broken r k e h q = let (same, some) = rule_given _ e k h in forbidden r k same some q

  -- its fields, one behind the other
  module _ (free : broken_rule (get_or s 0 0) ≡ 0) (v4 : Bool) (u4 : ℕ) (d4 : v4 ≡ bit 1 (get_or s 0 0)) (e4 : u4 ≡ if_set v4 4) where
    w4 : u4 ≡ if_set (bit 1 (get_or s 0 0)) 4
    w4 = width_if_set_law s 1 4 v4 u4 d4 e4

    pub no_ipv4 : (r : Read UeIpAddress) → length s < 1 + u4 → r ≡ refused (Short 1 (1 + u4) (length s)) → r ≡ read s
    unfolding read found
    no_ipv4 r g q = stop_field found layout s r f free 0 1 _ 4 _ 1 (1 + u4) refl refl (ap (λ (u : ℕ). 1 + u) w4) a g q

    module _ (v6 : Bool) (u6 : ℕ) (d6 : v6 ≡ bit 0 (get_or s 0 0)) (e6 : u6 ≡ if_set v6 16) where
      w6 : u6 ≡ if_set (bit 0 (get_or s 0 0)) 16
      w6 = width_if_set_law s 0 16 v6 u6 d6 e6

      pub no_ipv6 : (r : Read UeIpAddress) → 1 + u4 ≤ length s → length s < 1 + u4 + u6 → r ≡ refused (Short 2 (1 + u4 + u6) (length s)) → r ≡ read s
      unfolding read found
      no_ipv6 r h g q = stop_field found layout s r f free 1 2 _ 16 _ (1 + u4) (1 + u4 + u6) refl (omega (arith, w4)) (ap (λ (u : ℕ). 1 + u4 + u) w6) h g q

      module _ (d : Bool) (ud : ℕ) (dd : d ≡ bit 3 (get_or s 0 0)) (ed : ud ≡ if_set d 1) where
        wd : ud ≡ if_set (bit 3 (get_or s 0 0)) 1
        wd = width_if_set_law s 3 1 d ud dd ed

        pub no_bits : (r : Read UeIpAddress) → 1 + u4 + u6 ≤ length s → length s < 1 + u4 + u6 + ud → r ≡ refused (Short 3 (1 + u4 + u6 + ud) (length s)) → r ≡ read s
        unfolding read found
        no_bits r h g q = stop_field found layout s r f free 2 3 _ 1 _ (1 + u4 + u6) (1 + u4 + u6 + ud) refl (omega (arith, w4, w6)) (ap (λ (u : ℕ). 1 + u4 + u6 + u) wd) h g q

        module _ (p : Bool) (up : ℕ) (dp : p ≡ bit 6 (get_or s 0 0)) (ep : up ≡ if_set p 1) where
          wp : up ≡ if_set (bit 6 (get_or s 0 0)) 1
          wp = width_if_set_law s 6 1 p up dp ep

          pub no_prefix : (r : Read UeIpAddress) → 1 + u4 + u6 + ud ≤ length s → length s < 1 + u4 + u6 + ud + up → r ≡ refused (Short 4 (1 + u4 + u6 + ud + up) (length s)) → r ≡ read s
          unfolding read found
          no_prefix r h g q = stop_field found layout s r f free 3 4 _ 1 _ (1 + u4 + u6 + ud) (1 + u4 + u6 + ud + up) refl (omega (arith, w4, w6, wd)) (ap (λ (u : ℕ). 1 + u4 + u6 + ud + u) wp) h g q

          -- the one of the last two that is cut: only one of them is sent
          pub no_byte : (r : Read UeIpAddress) (k : ℕ) → k ≡ pick d 3 4 → 1 + u4 + u6 ≤ length s → length s < 1 + u4 + u6 + ud + up → r ≡ refused (Short k (1 + u4 + u6 + ud + up) (length s)) → r ≡ read s
          unfolding if_set
          no_byte r k e h g q = go d refl
            where
              go : (t : Bool) → d ≡ t → r ≡ read s
              go true t =
                  let off : bit 6 (get_or s 0 0) ≡ false = rw (sym dd ∙ t) at (keeps2 (get_or s 0 0) free) in
                  let none : up ≡ 0 = rw off at wp in
                  let same : 1 + u4 + u6 + ud + up ≡ 1 + u4 + u6 + ud = omega arith in
                  no_bits r h (omega arith) (rw (rw t at e, same) at q)
              go false t = let none : ud ≡ 0 = rw t at ed in no_prefix r (omega arith) g (rw (rw t at e) at q)

          -- with all the fields; n4, n6, nd and np are their widths as a reader states them
          pub whole : (n4 n6 nd np : ℕ) (a4 : Option (List ℕ)) (a6 : Option (List ℕ)) (sd c4 c6 : Bool) (bits prefix : Option ℕ)
              → 1 + u4 + u6 + ud + up ≤ length s
              → a4 ≡ address_of 4 (field s 1 n4)
              → n4 ≡ u4
              → a6 ≡ address_of 16 (field s (1 + u4) n6)
              → n6 ≡ u6
              → sd ≡ bit 2 (get_or s 0 0)
              → c4 ≡ bit 4 (get_or s 0 0)
              → c6 ≡ bit 5 (get_or s 0 0)
              → bits ≡ number_of 1 (field s (1 + u4 + u6) nd)
              → nd ≡ ud
              → prefix ≡ number_of 1 (field s (1 + u4 + u6 + ud) np)
              → np ≡ up
              → record {
                answer = Done;
                used = 1 + u4 + u6 + ud + up;
                «record» = record {
                  v4 = v4;
                  v6 = v6;
                  source_destination = sd;
                  ipv6_prefix_delegation = d;
                  choose_ipv4 = c4;
                  choose_ipv6 = c6;
                  ipv6_prefix_length_present = p;
                  ipv4_address = a4;
                  ipv6_address = a6;
                  ipv6_prefix_delegation_bits = bits;
                  ipv6_prefix_length = prefix;
                };
              } ≡ read s
          unfolding read found record_of
          whole n4 n6 nd np a4 a6 sd c4 c6 bits prefix h q4 x4 q6 x6 qs q4' q6' qd xd qp xp =
              all_there found layout s _ f free (1 + u4 + u6 + ud + up) (omega (arith, w4, w6, wd, wp)) h
              (rw (q4, x4, q6, x6, qd, xd, qp, xp, qs, q4', q6', w4, w6, wd, wp, d4, d6, dd, dp))
