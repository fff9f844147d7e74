-- `octets::address` meets its contract: by the length.
use Rattle.std.proofs.Common.{ℕ, List, length, ◌≡◌, ◌≢◌}
use Rattle.std.specs.Prelude.{Ok, Err, IsOk, MatchResult}
use Rattle.std.specs.declared.result.Result.{Result}
use Rattle.std.specs.Result.{result_ok}
use Rattle.std.specs.Array.{IsWholeChunk}
use mathlib.Core.Path.{ap, ◌∙◌}
use borrow.Author.Tests.{eq-eqb, ne_eqb}
use Rattle.std.specs.Prelude.{Some}
use Rattle.octets.specs.Octets.{address_of}
use Rattle.octets.proofs.address.Goals as goal

by_length : {E : Type 0} (n : ℕ) (bs : List ℕ) (r : Result (List ℕ) E) → (length bs ≡ n → IsOk r) × MatchResult r (λ y. IsWholeChunk bs y n) (λ _. length bs ≢ n) → result_ok r ≡ address_of n bs
unfolding address_of
by_length n bs (Ok y) h = rw (eq-eqb _ _ h.1.long) (ap Some h.1.same)
by_length n bs (Err e) h = rw (ne_eqb _ _ h.1)

pub returns : goal.returns
returns g c = c.ok.ensures.value ∙ by_length _ _ _ c.try_from.ensures
