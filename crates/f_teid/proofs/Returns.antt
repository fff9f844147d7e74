-- What `read` says at each return of a reader, from the tests and the calls on the way to it. No contract cites this file.
use Prim.Native.Nat.{ℕ, ◌+◌, ◌-◌, ◌^◌, ◌≤◌, ◌<◌}
use native.Mathlib.Omega.{arith}
use native.Mathlib.Nat.{add-sub_cancel_left}
use mathlib.Core.Path.{◌≡◌, refl, ap}
use mathlib.Core.Bool.{Bool, true, false}
use mathlib.Core.List.{List, [], ◌∷◌}
use Rattle.std.specs.Prelude.{Option, None}
use lib.Dec.{leb}
use lib.ListN.{length, get_or, drop}
use Rattle.answer.specs.declared.Answer.TheVariants.{Done, Short, Flags, InputTooLong}
use Rattle.answer.specs.declared.Read.{Read}
use Rattle.octets.specs.Octets.{pick, bit, if_set, field, big_endian, address_of}
use Rattle.octets.proofs.Laws.{if_set_le_law, number_field, number_below}
use Rattle.kind.specs.Layout.{wanted}
use Rattle.kind.proofs.Cases.{stop_long, stop_head, stop_rule, stop_field, all_there, width_if_set_law}
use Rattle.f_teid.specs.declared.Fteid.{Fteid}
use Rattle.f_teid.specs.Fteid.{no_teid, fields, rule, layout, read, found, refused, chosen_record, concrete_record}
use Rattle.f_teid.proofs.Laws.{chosen_ends, concrete_ends}

-- the choose ID fits its byte, and the TEID its four bytes
pub choose_id_fits : (s : List ℕ) (chid : Bool) (u x : ℕ) → u ≡ if_set chid 1 → x < 256 ^ length (field s 1 (1 + u - 1)) → x < 256 ^ 1
choose_id_fits s chid u x e h = number_below s 1 (1 + u - 1) 1 x (omega (arith, if_set_le_law chid 1)) h

pub teid_fits : (s : List ℕ) (x : ℕ) → x < 256 ^ length (field s 1 4) → x < 256 ^ 4
teid_fits s x h = number_below s 1 4 4 x (omega arith) h

module _ (s : List ℕ) where
  pub too_long : (r : Read Fteid) → 65535 < length s → r ≡ refused (InputTooLong (length s)) → r ≡ read s
  unfolding read found
  too_long r = stop_long found layout s r

  pub no_flags : (r : Read Fteid) → length s ≤ 65535 → length s < 1 → r ≡ refused (Short 0 1 (length s)) → r ≡ read s
  unfolding read found
  no_flags r = stop_head found layout s r

  -- CHID without CH
  pub forbidden : (r : Read Fteid) (ch chid : Bool) → length s ≤ 65535 → 0 < length s
      → ch ≡ bit 2 (get_or s 0 0)
      → ch ≡ false
      → chid ≡ bit 3 (get_or s 0 0)
      → chid ≡ true
      → r ≡ refused (Flags (get_or s 0 0) 4)
      → r ≡ read s
  unfolding read found if_set
  forbidden r ch chid f a d e d' e' = stop_rule found layout s r f 4 a (rw (← d, e, ← d', e')) (λ z. omega arith)

-- with CH
module _ (s : List ℕ) (f : length s ≤ 65535) (ch : bit 2 (get_or s 0 0) ≡ true) (chid : Bool) (u : ℕ) (d : chid ≡ bit 3 (get_or s 0 0)) (e : u ≡ if_set chid 1) where
  w : u ≡ if_set (bit 3 (get_or s 0 0)) 1
  w = width_if_set_law s 3 1 chid u d e

  pub no_choose_id : (r : Read Fteid) → 0 < length s → length s < 1 + u → r ≡ refused (Short 5 (1 + u) (length s)) → r ≡ read s
  unfolding read found
  no_choose_id r = stop_field found layout s r f (rw ch) 0 5 (bit 3 (get_or s 0 0)) 1 [] 1 (1 + u) (rw ch) refl (ap (λ (n : ℕ). 1 + n) w)

  pub chosen : (v4 v6 : Bool) (x : ℕ) → v4 ≡ bit 0 (get_or s 0 0) → v6 ≡ bit 1 (get_or s 0 0) → 1 + u ≤ length s
      → x ≡ pick (leb (length (field s 1 (1 + u - 1))) 8) (big_endian (field s 1 (1 + u - 1))) 0
      → record { answer = Done; used = 1 + u; «record» = record { v4 = v4; v6 = v6; ch = true; chid = chid; teid = no_teid; ipv4_address = None; ipv6_address = None; choose_id = x } } ≡ read s
  unfolding read found chosen_record
  chosen v4 v6 x d4 d6 h p =
      let few : u ≤ 8 = omega (arith, if_set_le_law (bit 3 (get_or s 0 0)) 1, w) in
      all_there found layout s _ f (rw ch) (1 + u) (omega (arith, w, chosen_ends s ch)) h
      (rw (p, add-sub_cancel_left 1 u, number_field s 1 u few, w, d, d4, d6, ch))

-- without CH and CHID
module _ (s : List ℕ) (f : length s ≤ 65535) (ch : bit 2 (get_or s 0 0) ≡ false) (chid : bit 3 (get_or s 0 0) ≡ false) where
  free : rule (get_or s 0 0) ≡ 0
  unfolding if_set
  free = rw (ch, chid)

  -- the fields: the TEID, which is always there, and the addresses under their flags
  asked : fields (get_or s 0 0) ≡ wanted 0 true 4 ∷ wanted 1 (bit 0 (get_or s 0 0)) 4 ∷ wanted 2 (bit 1 (get_or s 0 0)) 16 ∷ []
  asked = rw ch

  pub no_teid_law : (r : Read Fteid) → 0 < length s → length s < 5 → r ≡ refused (Short 0 5 (length s)) → r ≡ read s
  unfolding read found if_set
  no_teid_law r = stop_field found layout s r f free 0 0 true 4 _ 1 5 asked refl refl

  module _ (v4 : Bool) (u4 : ℕ) (d4 : v4 ≡ bit 0 (get_or s 0 0)) (e4 : u4 ≡ if_set v4 4) where
    w4 : u4 ≡ if_set (bit 0 (get_or s 0 0)) 4
    w4 = width_if_set_law s 0 4 v4 u4 d4 e4

    pub no_ipv4_law : (r : Read Fteid) → 5 ≤ length s → length s < 5 + u4 → r ≡ refused (Short 1 (5 + u4) (length s)) → r ≡ read s
    unfolding read found if_set
    no_ipv4_law r = stop_field found layout s r f free 1 1 _ 4 _ 5 (5 + u4) (ap (drop 1) asked) (rw asked) (ap (λ (u : ℕ). 5 + u) w4)

    module _ (v6 : Bool) (u6 : ℕ) (d6 : v6 ≡ bit 1 (get_or s 0 0)) (e6 : u6 ≡ if_set v6 16) where
      w6 : u6 ≡ if_set (bit 1 (get_or s 0 0)) 16
      w6 = width_if_set_law s 1 16 v6 u6 d6 e6

      pub no_ipv6_law : (r : Read Fteid) → 5 + u4 ≤ length s → length s < 5 + u4 + u6 → r ≡ refused (Short 2 (5 + u4 + u6) (length s)) → r ≡ read s
      unfolding read found if_set
      no_ipv6_law r = stop_field found layout s r f free 2 2 _ 16 _ (5 + u4) (5 + u4 + u6) (ap (drop 2) asked) (rw asked (omega (arith, w4))) (ap (λ (u : ℕ). 5 + u4 + u) w6)

      -- with all the fields; n4 and n6 are the widths of the addresses as a reader states them
      pub whole : (x n4 n6 : ℕ) (a4 a6 : Option (List ℕ)) → 5 + u4 + u6 ≤ length s
          → x ≡ pick (leb (length (field s 1 4)) 8) (big_endian (field s 1 4)) 0
          → a4 ≡ address_of 4 (field s 5 n4)
          → n4 ≡ if_set v4 4
          → a6 ≡ address_of 16 (field s (5 + u4) n6)
          → n6 ≡ if_set v6 16
          → record { answer = Done; used = 5 + u4 + u6; «record» = record { v4 = v4; v6 = v6; ch = false; chid = false; teid = record { 0 = x }; ipv4_address = a4; ipv6_address = a6; choose_id = 0 } } ≡ read s
      unfolding read found concrete_record
      whole x n4 n6 a4 a6 h p q k q' k' =
          all_there found layout s _ f free (5 + u4 + u6) (omega (arith, w4, w6, concrete_ends s ch)) h
          (rw (p, number_field s 1 4 (omega arith), q, k, q', k', w4, d4, d6, ch, chid))
