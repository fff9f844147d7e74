-- What a reader that goes by a layout answers, and what a writer answers and stores, case by case, for every kind. No contract cites this file.
use Prim.Native.Nat.{ℕ, zero, suc, ◌+◌, ◌≤◌, ◌<◌}
use native.Mathlib.Omega.{arith}
use mathlib.Core.Path.{◌≡◌, refl, sym, ap, ◌∙◌}
use mathlib.Core.Bool.{Bool}
use mathlib.Core.List.{List, ◌∷◌, ◌++◌}
use lib.ListN.{length, get_or, take, drop}
use lib.Seq.{length-take-le}
use borrow.Author.Tests.{le-leb, lt-leb}
use Rattle.answer.specs.declared.Answer.{Answer}
use Rattle.answer.specs.declared.Answer.TheVariants.{Done, Short, Flags, NodeType, NotUtf8, InputTooLong, BadText, OutputTooLong, NoRoom, Unbuilt, NoSequenceNumber, ZeroLength}
use Rattle.answer.specs.Paper.{number_of, written}
use Rattle.octets.specs.Octets.{bit, if_set, put}
use Rattle.octets.proofs.Laws.{put_not, put_front, Puts, put_row}
use Rattle.kind.specs.Layout.{Wanted, wanted, Layout, Outcome, accepts, refuses, unless_broken, outcome}
use Rattle.kind.proofs.Laws.{total, end, too_long, too_short, headed, whole}
use Rattle.kind.proofs.Rows.{stops}

-- ---- readers: `found` is what a reader makes of an outcome, and r what it answers
module _ {Read : Type 0} (found : List ℕ → Outcome → Read) (l : Layout) (s : List ℕ) (r : Read) where
  pub stop_long : 65535 < length s → r ≡ found s (refuses (InputTooLong (length s))) → r ≡ found s (outcome l s)
  stop_long h q = rw (too_long l s h) q

  module _ (fits : length s ≤ 65535) where
    pub stop_head : length s < l.head → r ≡ found s (refuses (Short 0 l.head (length s))) → r ≡ found s (outcome l s)
    stop_head h q = rw (too_short l s fits h) q

    pub stop_rule : (k : ℕ) → l.head ≤ length s → l.rule (get_or s 0 0) ≡ k → (k ≡ 0 → ⊥) → r ≡ found s (refuses (Flags (get_or s 0 0) k)) → r ≡ found s (outcome l s)
    unfolding unless_broken
    stop_rule zero h e g q = absurd (g refl)
    stop_rule (suc k) h e g q = rw (headed l s fits h, e) q

    module _ (free : l.rule (get_or s 0 0) ≡ 0) where
      -- the fields before the k-th end at a place within the payload, and the k-th, which ends at e, isn't all there
      pub stop_field : (k number : ℕ) (sent : Bool) (width : ℕ) (after : List Wanted) (at e : ℕ)
          → drop k (l.fields (get_or s 0 0)) ≡ wanted number sent width ∷ after
          → at ≡ l.head + total (take k (l.fields (get_or s 0 0)))
          → e ≡ at + if_set sent width
          → at ≤ length s
          → length s < e
          → r ≡ found s (refuses (Short number e (length s)))
          → r ≡ found s (outcome l s)
      stop_field k number sent width after at e p a b h g q =
          rw (stops l s k number sent width after e p free fits (omega arith) (omega arith) g) q

      pub all_there : (e : ℕ) → e ≡ end l s → e ≤ length s → r ≡ found s (accepts e) → r ≡ found s (outcome l s)
      all_there e p h q = rw (whole l s fits free (omega arith), ← p) q

-- an answer whose number is 0 is done
pub number_is_done : (a : Answer) → number_of a ≡ 0 → a ≡ Done
number_is_done Done e = refl
number_is_done (Short f x y) e = absurd (omega arith)
number_is_done (Flags b r) e = absurd (omega arith)
number_is_done (NodeType b) e = absurd (omega arith)
number_is_done (NotUtf8 p b) e = absurd (omega arith)
number_is_done (InputTooLong n) e = absurd (omega arith)
number_is_done (BadText f) e = absurd (omega arith)
number_is_done OutputTooLong e = absurd (omega arith)
number_is_done (NoRoom n) e = absurd (omega arith)
number_is_done (Unbuilt r) e = absurd (omega arith)
number_is_done NoSequenceNumber e = absurd (omega arith)
number_is_done ZeroLength e = absurd (omega arith)

-- the width of a field under a flag that was read
pub width_if_set_law : (s : List ℕ) (k w : ℕ) (f : Bool) (u : ℕ) → f ≡ bit k (get_or s 0 0) → u ≡ if_set f w → u ≡ if_set (bit k (get_or s 0 0)) w
width_if_set_law s k w f u d e = rw d at e

-- ---- writers: d is the output, and bytes are the written form, n of them
module _ (d bytes : List ℕ) (n : ℕ) (long : length bytes ≡ n) where
  -- where they don't fit, refusal 8, and the output as it was
  pub no_room : length d < n → (record { answer = NoRoom n; len = 0 } ≡ written (length bytes) (length d)) × (d ≡ put d 0 bytes)
  no_room h = (rw (long, lt-leb n (length d) h), sym (put_not d 0 bytes (omega arith)))

  -- where they fit and were put piece by piece, done
  pub all_put : (e : List ℕ) → n ≤ length d → Puts d 0 bytes e → (record { answer = Done; len = n } ≡ written (length bytes) (length d)) × (e ≡ put d 0 bytes)
  all_put e h p = (rw (long, le-leb n (length d) h), put_row p (omega arith))

  -- the same, put into the front of the output, which they fill
  pub all_put_front : (e : List ℕ) → n ≤ length d → Puts (take n d) 0 bytes e → (record { answer = Done; len = n } ≡ written (length bytes) (length d)) × (e ++ drop n d ≡ put d 0 bytes)
  all_put_front e h p =
      let l : length (take n d) ≡ n = length-take-le n d h in
      (rw (long, le-leb n (length d) h), ap (λ (x : List ℕ). x ++ drop n d) (put_row p (omega (arith, l))) ∙ put_front d bytes n long h)
