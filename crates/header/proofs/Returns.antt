-- What `read` says at each return of a reader, from the tests and the calls on the way to it. No contract cites this file.
use Prim.Native.Nat.{ℕ, ◌+◌, ◌-◌, ◌≤◌, ◌<◌}
use native.Mathlib.Omega.{arith}
use mathlib.Core.Path.{◌≡◌, refl, ap}
use mathlib.Core.Bool.{Bool}
use mathlib.Core.List.{List, [], ◌∷◌}
use lib.Dec.{leb}
use lib.ListN.{length, get_or}
use Rattle.answer.specs.declared.Answer.TheVariants.{Done, Short, InputTooLong}
use Rattle.octets.specs.Octets.{pick, bit, if_set, flag_byte, field, big_endian}
use Rattle.octets.proofs.Laws.{number_field}
use Rattle.kind.proofs.Cases.{stop_long, stop_head, stop_field, all_there, width_if_set_law}
use Rattle.answer.specs.declared.Read.{Read}
use Rattle.header.specs.declared.Header.{Header}
use Rattle.header.specs.Header.{layout, read, found, refused, record_of, place}
use Rattle.header.proofs.Laws.{two_halves}

module _ (s : List ℕ) where
  pub too_long : (r : Read Header) → 65535 < length s → r ≡ refused (InputTooLong (length s)) → r ≡ read s
  unfolding read found
  too_long r = stop_long found layout s r

  pub no_head : (r : Read Header) → length s ≤ 65535 → length s < 8 → r ≡ refused (Short 0 8 (length s)) → r ≡ read s
  unfolding read found
  no_head r = stop_head found layout s r

  -- u: how wide each half of the SEID is, 4 or 0
  module _ (f : length s ≤ 65535) (sent : Bool) (u : ℕ) (d : sent ≡ bit 0 (get_or s 0 0)) (e : u ≡ if_set sent 4) where
    w : u ≡ if_set (bit 0 (get_or s 0 0)) 4
    w = width_if_set_law s 0 4 sent u d e

    pub no_first_half : (r : Read Header) → 8 ≤ length s → length s < 8 + u → r ≡ refused (Short 0 (8 + u) (length s)) → r ≡ read s
    unfolding read found
    no_first_half r = stop_field found layout s r f refl 0 0 _ 4 _ 8 (8 + u) refl refl (ap (λ (x : ℕ). 8 + x) w)

    pub no_second_half : (r : Read Header) → 8 + u ≤ length s → length s < 8 + u + u → r ≡ refused (Short 0 (8 + u + u) (length s)) → r ≡ read s
    unfolding read found
    no_second_half r = stop_field found layout s r f refl 1 0 _ 4 _ (8 + u) (8 + u + u) refl (omega (arith, w)) (ap (λ (x : ℕ). 8 + u + x) w)

    -- where the sequence number begins
    abbrev at : ℕ
    at = 4 + u + u

    -- with all the fields; the version is a variable, since rewriting it would reach into the flags
    pub whole : (v : ℕ) (fo mp : Bool) (len seid seq : ℕ) → 8 + u + u ≤ length s
        → v ≡ flag_byte (bit 5 (get_or s 0 0) ∷ bit 6 (get_or s 0 0) ∷ bit 7 (get_or s 0 0) ∷ [])
        → fo ≡ bit 2 (get_or s 0 0)
        → mp ≡ bit 1 (get_or s 0 0)
        → len ≡ pick (leb (length (field s 2 2)) 8) (big_endian (field s 2 2)) 0
        → seid ≡ pick (leb (length (field s 4 (at - 4))) 8) (big_endian (field s 4 (at - 4))) 0
        → seq ≡ pick (leb (length (field s at (at + 3 - at))) 8) (big_endian (field s at (at + 3 - at))) 0
        → record {
          answer = Done;
          used = 8 + u + u;
          «record» =
              record {
                version = v;
                has_fo = fo;
                has_mp = mp;
                has_seid = sent;
                message_type = get_or s 1 0;
                length = len;
                seid = record { 0 = seid };
                sequence_number = record { 0 = seq };
                message_priority = get_or s (at + 3) 0;
              };
        }
        ≡ read s
    unfolding read found record_of
    whole v fo mp len seid seq h b p q r x y =
        let t = bit 0 (get_or s 0 0) in
        let starts : at ≡ place t = omega (arith, w, two_halves t) in
        let wide : at - 4 ≡ if_set t 8 = omega (arith, w, two_halves t) in
        let three : at + 3 - at ≡ 3 = omega arith in
        all_there found layout s _ f refl (8 + u + u) (omega (arith, w)) h
        (rw (p, q, r, x, y, wide, three, starts, number_field s 2 2 (omega arith), number_field s 4 (if_set t 8) (omega (arith, two_halves t)), number_field s (place t) 3 (omega arith), b, d))
