-- What `read` says at each return of a reader, from the tests and the calls on the way to it. No contract cites this file.
use Prim.Native.Nat.{ℕ, ◌-◌, ◌≤◌, ◌<◌}
use native.Mathlib.Omega.{arith}
use native.Mathlib.Nat.{add-sub_cancel_left}
use mathlib.Core.Path.{◌≡◌, refl, ap, ◌∙◌}
use mathlib.Core.List.{List}
use lib.ListN.{length, get_or}
use Rattle.answer.specs.declared.Answer.{Answer}
use Rattle.answer.specs.declared.Answer.TheVariants.{Done, Short, InputTooLong}
use Rattle.answer.specs.declared.Read.{Read}
use Rattle.std.specs.Prelude.{Option}
use Rattle.types.specs.declared.Teid.{Teid}
use Rattle.octets.specs.Octets.{field, address_of, number_of}
use Rattle.kind.specs.Layout.{Outcome, accepts, refuses, walk, unless_broken, outcome}
use Rattle.kind.proofs.Laws.{end, accepted, headed}
use Rattle.kind.proofs.Cases.{stop_long, stop_head, all_there}
use Rattle.outer_header_creation.specs.declared.SentFields.{SentFields}
use Rattle.outer_header_creation.specs.declared.FieldEnds.{FieldEnds}
use Rattle.outer_header_creation.specs.declared.OuterHeaderCreation.{OuterHeaderCreation}
use Rattle.outer_header_creation.specs.OuterHeaderCreation.{Flags, flags_of, asked, fields_of, layout, teid_of, record_with, read, found, refused}
use Rattle.outer_header_creation.specs.Steps.{ends_of, answer_of}

-- the ends of the fields that flags ask for, as the calls hand them over
pub ends_asked : (d : Flags) (a : SentFields) (e : FieldEnds) → a ≡ asked d → e ≡ ends_of a → e ≡ ends_of (asked d)
ends_asked d a e p q = q ∙ ap ends_of p

-- the record of the parts that lie between the ends
pub parts : (s : List ℕ) (d : Flags) (e : FieldEnds) (teid : Option Teid) (a4 a6 : Option (List ℕ)) (port ctag stag : Option ℕ) → e ≡ ends_of (asked d)
    → teid ≡ teid_of (field s 2 (e.teid - 2))
    → a4 ≡ address_of 4 (field s e.teid (e.ipv4 - e.teid))
    → a6 ≡ address_of 16 (field s e.ipv4 (e.ipv6 - e.ipv4))
    → port ≡ number_of 2 (field s e.ipv6 (e.port - e.ipv6))
    → ctag ≡ number_of 4 (field s e.port (e.ctag - e.port))
    → stag ≡ number_of 4 (field s e.ctag (e.stag - e.ctag))
    → record { description = d; teid = teid; ipv4_address = a4; ipv6_address = a6; port_number = port; ctag = ctag; stag = stag } ≡ record_with d s
unfolding record_with ends_of
parts s d e teid a4 a6 port ctag stag q r1 r2 r3 r4 r5 r6 = rw (r1, r2, r3, r4, r5, r6, q) (simp add-sub_cancel_left)

module _ (s : List ℕ) where
  pub too_long : (r : Read OuterHeaderCreation) → 65535 < length s → r ≡ refused (InputTooLong (length s)) → r ≡ read s
  unfolding read found
  too_long r = stop_long found layout s r

  pub no_head : (r : Read OuterHeaderCreation) → length s ≤ 65535 → length s < 2 → r ≡ refused (Short 0 2 (length s)) → r ≡ read s
  unfolding read found
  no_head r = stop_head found layout s r

  -- by the flags, the fields that they ask for and their ends
  module _ (f : length s ≤ 65535) (d : Flags) (a : SentFields) (e : FieldEnds) (flags : d ≡ flags_of (get_or s 0 0)) (sent : a ≡ asked d) (ends : e ≡ ends_of a) where
    last : e.stag ≡ end layout s
    unfolding ends_of
    last = rw (ends, sent, flags) (omega arith)

    -- a field isn't all there
    pub cut : (x : Answer) (r : Read OuterHeaderCreation) → 2 ≤ length s → length s < e.stag → x ≡ answer_of (walk (length s) 2 (fields_of a)) → r ≡ refused x → r ≡ read s
    unfolding read found unless_broken
    cut x r h g k q =
        let o : outcome layout s ≡ walk (length s) 2 (fields_of a) = headed layout s f h ∙ rw (sent, flags) in
        go (outcome layout s) refl (rw (← o) at k)
      where
        go : (o : Outcome) → outcome layout s ≡ o → x ≡ answer_of o → r ≡ found s o
        go (accepts n) p k = let w = accepted layout s n p in absurd (omega (arith, w.ends, w.within, last))
        go (refuses b) p k = q ∙ ap refused k

    -- all the fields are there
    pub whole : (x : OuterHeaderCreation) → e.stag ≤ length s → x ≡ record_with d s → record { answer = Done; used = e.stag; «record» = x } ≡ read s
    unfolding read found
    whole x h q = all_there found layout s _ f refl e.stag last h (rw (q, flags))
