-- `case_line::put_written` meets its contract: a dash for none, else two puts, one behind the other.
use Prim.Native.Nat.{ℕ, ◌+◌, ◌*◌, ◌≤◌}
use native.Mathlib.Omega.{arith}
use mathlib.Core.Path.{◌≡◌, ap}
use mathlib.Core.List.{List, [], ◌∷◌, ◌++◌}
use lib.ListN.{length}
use Rattle.octets.specs.Octets.{put}
use Rattle.hex_text.specs.Hex.{spelled}
use Rattle.hex_text.proofs.Laws.{length_spelled}
use Rattle.case_line.specs.Line.{hex_or_dash}
use Rattle.case_line.proofs.Laws.{two_puts, dash, in_hex, length_hex_or_dash_law}
use Rattle.case_line.proofs.put_written.Goals as goal

dashed : (d d1 : List ℕ) (at : ℕ) (bs : List ℕ) → length bs ≡ 0 → d1 ≡ put d at (0x2D ∷ 0x0A ∷ []) → d1 ≡ put d at (hex_or_dash bs ++ (0x0A ∷ []))
dashed d d1 at bs h q = rw (dash bs h) q

spelt : (d d1 d2 : List ℕ) (at : ℕ) (bs : List ℕ) → (length bs ≡ 0 → ⊥) → at + (length (hex_or_dash bs) + 1) ≤ length d → d1 ≡ put d at (spelled bs) → d2 ≡ put d1 (at + 2 * length bs) (0x0A ∷ [])
    → d2 ≡ put d at (hex_or_dash bs ++ (0x0A ∷ []))
spelt d d1 d2 at bs n h p q =
    let e = in_hex bs n in
    let l = length_spelled bs in
    rw e (two_puts d d1 d2 at (at + 2 * length bs) (spelled bs) (0x0A ∷ []) p q (omega arith) (omega (arith, ap length e)))

pub returns-then-bs-eq0 : goal.returns-then-bs-eq0
returns-then-bs-eq0 c = search dashed

pub overflow_add-at : goal.overflow_add-at
overflow_add-at c = omega (arith, length_hex_or_dash_law c.args.bs.now)

pub returns : goal.returns
returns c = search spelt
