use Prim.Native.Nat.{ℕ, ◌+◌, ◌*◌, ◌≤◌}
use native.Mathlib.Omega.{arith}
use mathlib.Core.Path.{◌≡◌, sym, ap, ◌∙◌}
use mathlib.Core.List.{List, ◌++◌}
use lib.ListN.{length, take, drop, get_or, replicate, length-append, length-take, length-drop, length-replicate}
use lib.Seq.{take-length}
use Rattle.image.specs.Image.{little_endian, number_at}
use Rattle.image.proofs.Laws.{eight, zeros, zeros_behind}
use Rattle.image.proofs.u64_at.Goals as goal

short : (m p : List ℕ) (at : ℕ) → p ≡ take 8 (drop at m) → length p ≤ 8
short m p at q = rw q (omega (arith, length-take 8 (drop at m)))

-- the bytes stand at the start of the eight, and zeros behind them
joins : (m p b : List ℕ) (at r : ℕ) → p ≡ take 8 (drop at m) → b ≡ take (length p) p ++ drop (length p) (replicate 8 0)
    → r ≡ get_or b 0 0 + 256 * (get_or b 1 0 + 256 * (get_or b 2 0 + 256 * (get_or b 3 0 + 256 * (get_or b 4 0 + 256 * (get_or b 5 0 + 256 * (get_or b 6 0 + 256 * get_or b 7 0))))))
    → r ≡ number_at m at
joins m p b at r q e h =
    let few : length p ≤ 8 = short m p at q in
    let f : b ≡ p ++ drop (length p) (replicate 8 0) = e ∙ ap (λ (l : List ℕ). l ++ drop (length p) (replicate 8 0)) (take-length p) in
    let l : length b ≡ 8 = ap length f ∙ length-append p (drop (length p) (replicate 8 0)) ∙ omega (arith, length-drop {A = ℕ} (length p) (replicate 8 0), length-replicate {A = ℕ} 8 0) in
    h ∙ sym (eight b l) ∙ ap little_endian f ∙ zeros_behind p (drop (length p) (replicate 8 0)) (zeros (length p) 8) ∙ ap little_endian q

pub copy-requires : goal.copy-requires
copy-requires c = let a = c.args in short a.image.now _ a.at c.part.ensures

pub returns : goal.returns
returns c = search joins
