-- What the IEs of a body and their rows are worth.
use Prim.Native.Nat.{ℕ, zero, suc, ◌+◌, ◌-◌, ◌≤◌, ◌<◌}
use mathlib.Core.Path.{◌≡◌, refl, ◌∙◌}
use mathlib.Core.List.{List, [], ◌∷◌, ◌++◌}
use mathlib.Core.Bool.{Bool, true, false}
use native.Mathlib.Omega.{arith}
use lib.Dec.{leb}
use lib.ListN.{length, drop, length-drop}
use lib.Seq.{take-append_seam, drop-append_seam}
use borrow.Author.Tests.{le-leb, leb-false}
use Rattle.answer.specs.declared.Answer.{Answer}
use Rattle.answer.specs.declared.Answer.TheVariants.{Done, InputTooLong, NoRoom}
use Rattle.octets.specs.Octets.{pick, Bytes, field}
use Rattle.octets.proofs.Laws.{bytes_take, bytes_drop, big_endian_less_law, number_below}
use Rattle.ie.proofs.Envelopes.{ends, not_done, record_ends}
use Rattle.ie.proofs.Tables.{Table}
use Rattle.ie.proofs.Walks.{turn, none_left}
use Rattle.ie.specs.declared.IesRead.{IesRead}
use Rattle.std.specs.Prelude.{Result, Ok, Err}
use Rattle.ie.specs.Ie.{Rows, all, guilty, before, on_envelope, pair_at, type_of, extra, record_of, row_of, envelope, found, read, refused, ies, done_with, refused_at, answered, read_all, filled, tabled}
use Rattle.ie.specs.Laws.{place_in, len_in, OneAfterAnother, Covers, Numbered, Owed, Laws}

-- ---- one IE after another

module _ (zs : List ℕ) (at : ℕ) (s : List ℕ) where
  module _ (some : 0 < length s) (small : length s ≤ 65535) where
    is_found : read zs s ≡ found s (envelope zs s)
    unfolding read
    is_found = rw (le-leb _ _ small)

    next_by : (o : Result ℕ Answer) → o ≡ envelope zs s → (found s o).answer ≡ Done
        → on_envelope at s o (λ end. ies zs (at + end) (drop end s)) ≡ before (row_of at (found s o).«record») (ies zs (at + (found s o).used) (drop (found s o).used s))
    unfolding found refused
    next_by (Ok end) e q = refl
    next_by (Err a) e q = absurd (not_done zs s e refl q)

    stop_by : (o : Result ℕ Answer) → ((found s o).answer ≡ Done → ⊥) → on_envelope at s o (λ end. ies zs (at + end) (drop end s)) ≡ guilty at (found s o).answer
    unfolding found refused
    stop_by (Ok end) n = absurd (n refl)
    stop_by (Err a) n = refl

  pub one_after_another : OneAfterAnother zs at s
  one_after_another =
      record {
        none = λ e. none_left zs at s (omega (arith, e));
        next = λ h k q. turn zs at s h ∙ rw (is_found h k) (next_by h k (envelope zs s) refl (rw (is_found h k) at q));
        stop = λ h k n. turn zs at s h ∙ rw (is_found h k) (stop_by h k (envelope zs s) (rw (is_found h k) at n));
      }

-- along the IEs of some bytes: a fact of every end, every guilty IE, every step
module _ (zs : List ℕ) (P : ℕ → List ℕ → Rows → Type 0)
    (end : (at : ℕ) (s : List ℕ) → length s ≡ 0 → P at s (all []))
    (stop : (at : ℕ) (s : List ℕ) (a : Answer) → 0 < length s → Err a ≡ envelope zs s → P at s (guilty at a))
    (step : (at : ℕ) (s : List ℕ) (n : ℕ) → Ok n ≡ envelope zs s → P (at + n) (drop n s) (ies zs (at + n) (drop n s))
    → P at s (before (row_of at (record_of s)) (ies zs (at + n) (drop n s)))) where
  by : (most at : ℕ) (s : List ℕ) → length s ≤ most → P at s (ies zs at s)
  by zero at s h = let z : ies zs at s ≡ all [] = none_left zs at s h in rw z (end at s (omega arith))
  by (suc most) at [] h = let z : ies zs at [] ≡ all [] = none_left zs at [] (omega arith) in rw z (end at [] refl)
  by (suc most) at (b ∷ s) h = rw (turn zs at (b ∷ s) (omega arith)) (go (envelope zs (b ∷ s)) refl (by most))
    where
      go : (o : Result ℕ Answer) → o ≡ envelope zs (b ∷ s) → ((at : ℕ) (s : List ℕ) → length s ≤ most → P at s (ies zs at s))
          → P at (b ∷ s) (on_envelope at (b ∷ s) o (λ n. ies zs (at + n) (drop n (b ∷ s))))
      go (Err a) q ih = stop at (b ∷ s) a (omega arith) q
      go (Ok n) q ih =
          let w = ends zs (b ∷ s) q refl in
          let l : length (drop n (b ∷ s)) ≡ suc (length s) - n = length-drop n (b ∷ s) in
          step at (b ∷ s) n q (ih (at + n) (drop n (b ∷ s)) (omega (arith, l, w.1)))

  along : (at : ℕ) (s : List ℕ) → P at s (ies zs at s)
  along at s = by (length s) at s (omega arith)

-- ---- the rows cover the bytes, and their numbers are told apart; a guilty IE stands in them, and isn't done

abbrev Worth : ℕ → List ℕ → Rows → Type 0
Worth at s (all rows) = Covers at rows (at + length s) × (Bytes s → Numbered rows)
Worth at s (guilty place a) = (place < at + length s) × (a ≡ Done → ⊥)

number_small : (s : List ℕ) → Bytes s → pair_at s 4 < 65536
number_small s b = number_below s 4 2 2 (pair_at s 4) (omega arith) (big_endian_less_law (field s 4 2) (bytes_take 2 (drop 4 s) (bytes_drop 4 s b)))

worth_step : (zs : List ℕ) (at : ℕ) (s : List ℕ) (n : ℕ) → Ok n ≡ envelope zs s → (r : Rows) → Worth (at + n) (drop n s) r → Worth at s (before (row_of at (record_of s)) r)
unfolding before record_of
worth_step zs at s n q (all rows) c =
    let w = ends zs s q refl in
    let a : at + (4 + extra (type_of s)) ≡ at + 4 + extra (type_of s) = omega arith in
    let d : at + (record_of s).place + (record_of s).len ≡ at + n = omega (arith, record_ends s w.0, w.1) in
    let e : at + n + length (drop n s) ≡ at + length s = omega (arith, length-drop n s, w.2) in
    ((a, rw d (rw e at c.0)), λ b. ((λ v. rw v (number_small s b)), ((λ v. rw v), c.1 (bytes_drop n s b))))
worth_step zs at s n q (guilty place a) c =
    let w = ends zs s q refl in (omega (arith, c.0, length-drop n s, w.2), c.1)

worth : (zs : List ℕ) (at : ℕ) (s : List ℕ) → Worth at s (ies zs at s)
worth zs =
    along zs Worth
    (λ at s e. (omega arith, λ b. tt))
    (λ at s a h q. (omega arith, not_done zs s q refl))
    (λ at s n q ih. worth_step zs at s n q (ies zs (at + n) (drop n s)) ih)

covers_up : (at : ℕ) (rows : Table) (last : ℕ) → Covers at rows last → at ≤ last
covers_up at [] last c = omega (arith, c)
covers_up at (row ∷ rows) last c = omega (arith, c.0, covers_up (place_in row + len_in row) rows last c.1)

some_covered : (rows : Table) (last : ℕ) → Covers 0 rows last → 0 < length rows → 0 < last
some_covered [] last c h = absurd (omega arith)
some_covered (row ∷ rows) last c h = omega (arith, c.0, covers_up _ rows last c.1)

-- ---- the whole call, by its tests

module _ (body : List ℕ) (table : Table) where
  -- what is answered, and the table afterwards, by whether the body is short enough and by what it has
  abbrev said : Bool → Rows → IesRead
  said b r = pick {A = IesRead} b (answered (length table) r) (refused_at 0 (InputTooLong (length body)))

  abbrev after : Bool → Rows → Table
  after b r = pick b (filled table r) table

  abbrev told_rows : Bool → Table → IesRead
  told_rows c rows = pick {A = IesRead} c (done_with (length rows)) (refused_at 0 (NoRoom (length rows)))

  owed_rows : (c : Bool) (rows : Table) → Worth 0 body (all rows) → (told_rows c rows).answer ≡ Done
      → Owed body (told_rows c rows).rows table (pick c (rows ++ drop (length rows) table) table)
  owed_rows true rows w q =
      let z : 0 + length body ≡ length body = omega arith in
      let c : Covers 0 rows (length body) = rw z at w.0 in
      let f = take-append_seam rows (drop (length rows) table) in
      record { covered = rw f c; numbered = λ b. rw f (w.1 b); others = drop-append_seam rows (drop (length rows) table) }
  owed_rows false rows w q = let y : ◌≡◌ {A = ℕ} 0 1 = cc in absurd (omega arith)

  owed : (b : Bool) (r : Rows) → Worth 0 body r → (said b r).answer ≡ Done → Owed body (said b r).rows table (after b r)
  unfolding answered filled
  owed true (all rows) w q = owed_rows (leb (length rows) (length table)) rows w q
  owed true (guilty place a) w q = absurd (w.1 q)
  owed false r w q = let y : ◌≡◌ {A = ℕ} 0 1 = cc in absurd (omega arith)

  left_rows : (c : Bool) (rows : Table) → ((told_rows c rows).answer ≡ Done → ⊥) → pick c (rows ++ drop (length rows) table) table ≡ table
  left_rows true rows n = absurd (n refl)
  left_rows false rows n = refl

  as_found : (b : Bool) (r : Rows) → ((said b r).answer ≡ Done → ⊥) → after b r ≡ table
  unfolding answered filled
  as_found true (all rows) n = left_rows (leb (length rows) (length table)) rows n
  as_found true (guilty place a) n = refl
  as_found false r n = refl

  stands_rows : (c : Bool) (rows : Table) → leb (length rows) (length table) ≡ c → Worth 0 body (all rows) → ((told_rows c rows).answer ≡ Done → ⊥) → (told_rows c rows).place < length body
  stands_rows true rows e w n = absurd (n refl)
  stands_rows false rows e w n = omega (arith, some_covered rows (0 + length body) w.0 (omega (arith, leb-false (length rows) (length table) e)))

  stands : (b : Bool) → leb (length body) 65535 ≡ b → (r : Rows) → Worth 0 body r → ((said b r).answer ≡ Done → ⊥) → (said b r).place < length body
  unfolding answered
  stands true e (all rows) w n = stands_rows (leb (length rows) (length table)) rows refl w n
  stands true e (guilty place a) w n = omega (arith, w.0)
  stands false e r w n = omega (arith, leb-false (length body) 65535 e)

pub laws : (zs body : List ℕ) (table : Table) → Laws zs body table
unfolding read_all tabled
laws zs body table =
    record {
      done = owed body table (leb (length body) 65535) (ies zs 0 body) (worth zs 0 body);
      left = as_found body table (leb (length body) 65535) (ies zs 0 body);
      inside = stands body table (leb (length body) 65535) refl (ies zs 0 body) (worth zs 0 body);
    }
