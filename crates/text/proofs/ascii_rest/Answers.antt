use mathlib.Core.Path.{◌≡◌}
use Prim.Native.Nat.{◌+◌, ◌-◌}
use native.Mathlib.Omega.{arith}
use mathlib.Core.Bool.{false≢true}
use lib.ListN.{length}
use Rattle.text.specs.Steps.{Ascii}
use Rattle.text.proofs.Laws.{passed_run}
use Rattle.text.proofs.ascii_rest.Goals as goal

pub returns-then-text-lt-WORD : goal.returns-then-text-lt-WORD
returns-then-text-lt-WORD c e = absurd (false≢true e)

pub returns-then-from-at : goal.returns-then-from-at
returns-then-from-at c e =
    let text = c.args.text.now in
    let end : length text - 8 + 8 ≡ length text = omega arith in
    let word : Ascii text (length text - 8) (length text) = rw end at (c.ascii_at.ensures e) in
    passed_run text (length text - 8) (length text) c.args.from word (omega arith) (omega arith)
