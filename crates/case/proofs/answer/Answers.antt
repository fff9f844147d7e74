-- `case::answer` meets its contract: what is put at the start of a part stands at the part's place.
use Prim.Native.Nat.{ℕ, ◌+◌, ◌-◌, ◌≤◌}
use native.Mathlib.Nat.{zero-add}
use native.Mathlib.Omega.{arith}
use mathlib.Core.Path.{◌≡◌, sym, ap, ap₂, ◌∙◌}
use mathlib.Core.List.{List, ◌++◌}
use lib.ListN.{length, drop, length-drop}
use lib.Seq.{length-take-le, take-length}
use borrow.Author.Tests.{le-leb}
use borrow.Rule.Slice.PartMut.{mid_of, put_mid}
use Rattle.octets.specs.Octets.{over, put}
use Rattle.octets.proofs.Laws.{put_fits, copy_part}
use Rattle.case_line.specs.Line.{taken}
use Rattle.case.proofs.answer.Goals as goal

all_put : (d bs last : List ℕ) (at n : ℕ) → at + 8218 ≤ length d → length bs ≤ 8218
    → n ≡ taken (length bs) (length (mid_of at (length d - at) d))
    → last ≡ put (mid_of at (length d - at) d) 0 bs
    → (at + n ≡ at + length bs) × ((put_mid at (length d - at) d last ≡ put d at bs) × (at + n ≤ length d))
unfolding over
all_put d bs last at n h l e q =
    let part = mid_of at (length d - at) d in
    let long : length part ≡ length d - at = length-take-le (length d - at) (drop at d) (omega (arith, length-drop at d)) in
    let fits : length bs ≤ length part = omega arith in
    let all : n ≡ length bs = rw (le-leb (length bs) (length part) fits) at e in
    let start = q ∙ put_fits part 0 bs (omega arith) ∙ ap₂ (λ (u v : List ℕ). u ++ v) (sym (take-length bs)) (ap (λ (k : ℕ). drop k part) (zero-add (length bs))) in
    (ap (λ (k : ℕ). at + k) all, (copy_part d at bs last (omega arith) start, omega arith))

pub returns : goal.returns
returns c =
    let e = c.answer_line.ensures in
    let all = all_put _ _ _ _ _ c.requires e.line_len_bound e.value e.out_after in
    record { value = all.0; output_after = all.1.0; upper_bound = all.1.1 }
