-- The five answers of the writer, and the output with each. No contract cites this file.
use Prim.Native.Nat.{ℕ, ◌≤◌, ◌<◌}
use mathlib.Core.Path.{◌≡◌, ap, sym, ◌∙◌}
use mathlib.Core.List.{List}
use Rattle.std.specs.Prelude.{Option, None, Some}
use borrow.Author.Tests.{le-leb, lt-leb}
use lib.ListN.{length}
use Rattle.answer.specs.declared.Answer.TheVariants.{Done, InputTooLong, BadText, OutputTooLong, NoRoom}
use Rattle.answer.specs.declared.Written.{Written}
use Rattle.octets.specs.Octets.{put, Bytes}
use Rattle.octets.proofs.Laws.{put_not}
use native.Mathlib.Omega.{arith}
use Rattle.kind.specs.Write.{◌then◌, too_long_output, answered, stored}
use Rattle.pfd_contents.specs.PfdContents.{write_refusal, wire, meaning, tested}
use Rattle.pfd_contents.specs.Steps.{as_refusal, wire_by_runs}
use Rattle.pfd_contents.specs.declared.PfdContents.{PfdContents}
use Rattle.pfd_contents.proofs.Meant.{formed}

module _ (t : List ℕ) (r : PfdContents) (d : List ℕ) where
  -- what the two promises say
  abbrev Ends : Written → List ℕ → Type 0
  Ends w o = (w ≡ answered (write_refusal t r) (wire (meaning t r)) (length d)) × (o ≡ stored (write_refusal t r) d (wire (meaning t r)))

  pub long : (w : Written) → 65535 < length t → w ≡ record { answer = InputTooLong (length t); len = 0 } → Ends w d
  unfolding write_refusal ◌then◌ answered stored
  long w h q = (rw (lt-leb _ _ h) q, rw (lt-leb _ _ h))

  module _ (f : length t ≤ 65535) (b : Option ℕ) (e : as_refusal b ≡ tested t r) where
    pub bad : (w : Written) (k : ℕ) → b ≡ Some k → w ≡ record { answer = BadText k; len = 0 } → Ends w d
    unfolding write_refusal ◌then◌ answered stored
    bad w k h q = (rw (le-leb _ _ f, ← e, h) q, rw (le-leb _ _ f, ← e, h))

    module _ (z : b ≡ None) (ok : Bytes t) (n : ℕ) (k : n ≡ length (wire_by_runs t r)) where
      passed : tested t r ≡ None
      passed = sym e ∙ ap as_refusal z

      -- what is left to test
      left : write_refusal t r ≡ too_long_output n
      unfolding write_refusal ◌then◌
      left = rw (le-leb _ _ f, passed, ← formed t ok r passed, ← k)

      width : length (wire (meaning t r)) ≡ n
      width = ap length (sym (formed t ok r passed)) ∙ sym k

      pub too_wide : (w : Written) → 65535 < n → w ≡ record { answer = OutputTooLong; len = 0 } → Ends w d
      unfolding answered stored
      too_wide w h q = (rw (left, lt-leb _ _ h) q, rw (left, lt-leb _ _ h))

      module _ (m : n ≤ 65535) where
        pub no_room : (w : Written) → length d < n → w ≡ record { answer = NoRoom n; len = 0 } → Ends w d
        unfolding answered stored
        no_room w h q =
            (rw (left, le-leb _ _ m, width, lt-leb _ _ h) q, rw (left, le-leb _ _ m) (sym (put_not d 0 (wire (meaning t r)) (omega (arith, width)))))

        pub done : (o : List ℕ) → n ≤ length d → o ≡ put d 0 (wire_by_runs t r) → Ends (record { answer = Done; len = n }) o
        unfolding answered stored
        done o h q = (rw (left, le-leb _ _ m, width, le-leb _ _ h), rw (left, le-leb _ _ m, ← formed t ok r passed) q)
