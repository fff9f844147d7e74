-- What the part of a list from a place on begins with.
use Rattle.std.proofs.Common.{◌≡◌, ℕ, ◌+◌, ◌<◌, ◌≤◌, List, take, length, get_or, eqb, arith}
use Rattle.std.proofs.Math.Seq.{drop-cons}
use native.Mathlib.Numerals.{add-one}
use Rattle.std.proofs.Common.{get_or-take}
use lib.ListN.{drop_of_length-le}
use lib.Seq.{length-take-le}
use borrow.Author.Tests.{eq-eqb, ne_eqb}
use Rattle.slices.specs.Slices.{slice, index_after, index_of}

index_step : (b at to : ℕ) (s : List ℕ) → at < to → to ≤ length s
    → index_of b (slice at to s) ≡ index_after (eqb (get_or s at 0) b) (index_of b (slice (at + 1) to s))
unfolding slice index_of
index_step b at to s h k =
    let n : length (take to s) ≡ to = length-take-le to s k in
    let e : get_or (take to s) at 0 ≡ get_or s at 0 = get_or-take to s at 0 h in
    rw (add-one, drop-cons (take to s) at 0 (omega arith), e)

pub index_here : (b at to : ℕ) (s : List ℕ) → at < to → to ≤ length s → get_or s at 0 ≡ b → index_of b (slice at to s) ≡ 0
unfolding index_after
index_here b at to s h k e = rw (index_step b at to s h k, eq-eqb (get_or s at 0) b e)

pub index_next : (b at to : ℕ) (s : List ℕ) → at < to → to ≤ length s → (get_or s at 0 ≡ b → ⊥)
    → index_of b (slice at to s) ≡ 1 + index_of b (slice (at + 1) to s)
unfolding index_after
index_next b at to s h k e = rw (index_step b at to s h k, ne_eqb (get_or s at 0) b e) (omega arith)

pub index_none : (b at to : ℕ) (s : List ℕ) → to ≤ at → to ≤ length s → index_of b (slice at to s) ≡ 0
unfolding slice index_of
index_none b at to s h k =
    let n : length (take to s) ≡ to = length-take-le to s k in rw (drop_of_length-le (take to s) {i = at} (omega arith))
