-- The rows laid into a table that may have room for more, one store after another. No answer cites this file any more.
use Prim.Native.Nat.{ℕ, suc, ◌+◌, ◌≤◌, ◌<◌}
use mathlib.Core.Path.{◌≡◌, refl, ap, sym, ◌∙◌}
use mathlib.Core.List.{List, [], ◌∷◌, ◌++◌}
use mathlib.Core.Bool.{Bool, true, false}
use native.Mathlib.Omega.{arith}
use native.Mathlib.Numerals.{add-one}
use lib.Dec.{leb}
use lib.ListN.{length, take, drop, set, length-set, take-append-drop}
use lib.Seq.{take-suc-set, drop-set-lt, append_snoc}
use borrow.Author.Tests.{leb-true}
use Rattle.std.specs.Prelude.{Result, Ok, Err}
use Rattle.answer.specs.declared.Answer.{Answer}
use Rattle.ie.proofs.Envelopes.{record_ends}
use Rattle.ie.proofs.Tables.{Table}
use Rattle.ie.proofs.Walks.{past, stopped, stepped, inside}
use Rattle.ie.specs.Ie.{Rows, all, guilty, before, record_of, row_of, envelope, ies, filled}
use Rattle.ie.specs.Steps.{IsWhole}
use Rattle.ie.specs.declared.Ie.{Ie}

-- whether the rows are good, and have room
abbrev pub fits : Rows → ℕ → Bool
fits (all rows) room = leb (length rows) room
fits (guilty place a) room = false

-- rows laid over a table from a row on
abbrev pub laid : Table → ℕ → Table → Table
laid table i rows = take i table ++ (rows ++ drop (i + length rows) table)

laid_none : (table : Table) (i : ℕ) → laid table i [] ≡ table
laid_none table i = let z : i + 0 ≡ i = omega arith in rw z (take-append-drop i table)

-- one row stored, the others behind it
laid_set : (table : Table) (i : ℕ) (row : List ℕ) (rows : Table) → i < length table → laid (set table i row) (i + 1) rows ≡ laid table i (row ∷ rows)
laid_set table i row rows h =
    let a : take (i + 1) (set table i row) ≡ take i table ++ (row ∷ []) = rw (add-one i) (take-suc-set table i row h) in
    let z : i + 1 + length rows ≡ i + suc (length rows) = omega arith in
    let b : drop (i + 1 + length rows) (set table i row) ≡ drop (i + suc (length rows)) table = drop-set-lt (i + 1 + length rows) table i row (omega arith) ∙ ap (λ (n : ℕ). drop n table) z in
    rw (a, b) (append_snoc (take i table) row (rows ++ drop (i + suc (length rows)) table))

-- the rows that are left, and room for them
pub record Left (zs s : List ℕ) (at : ℕ) (table : Table) (i : ℕ) (last : Table) : Type 0 where
  pub rows : Table
  pub are : ies zs at (drop at s) ≡ all rows
  pub room : i + length rows ≤ length table
  pub done : laid table i rows ≡ last

starts_by : (r : Rows) (table : Table) → fits r (length table) ≡ true → (rows : Table) × (r ≡ all rows) × (length rows ≤ length table) × (rows ++ drop (length rows) table ≡ filled table r)
unfolding filled
starts_by (all rows) table h = (rows, refl, leb-true _ _ h, sym (rw h))
starts_by (guilty place a) table h = let y : ◌≡◌ {A = ℕ} 0 1 = cc in absurd (omega arith)

pub starts : (zs s : List ℕ) (table : Table) → fits (ies zs 0 s) (length table) ≡ true → Left zs s 0 table 0 (filled table (ies zs 0 s))
starts zs s table h =
    let w = starts_by (ies zs 0 s) table h in
    let z : 0 + length w.0 ≡ length w.0 = omega arith in
    record { rows = w.0; are = w.1; room = omega (arith, w.2); done = rw z w.3 }

split : (row : List ℕ) (r : Rows) (rows : Table) → before row r ≡ all rows → (rest : Table) × (r ≡ all rest) × (rows ≡ row ∷ rest)
unfolding before
split row (all rest) rows q = (rest, refl, cc)
split row (guilty place a) rows q = let y : ◌≡◌ {A = ℕ} 0 1 = cc in absurd (omega arith)

module _ (zs s : List ℕ) (at : ℕ) (table : Table) (i : ℕ) {last : Table} (left : Left zs s at table i last) where
  pub fill_end : length s ≤ at → table ≡ last
  fill_end h =
      let z : left.rows ≡ [] = cc (past zs s at h, left.are) in
      sym (laid_none table i) ∙ ap (laid table i) (sym z) ∙ left.done

  module _ (lt : at < length s) where
    -- a good body has a whole IE here
    here : (end : ℕ) × (Ok end ≡ envelope zs (drop at s))
    here = go (envelope zs (drop at s)) refl
      where
        go : (o : Result ℕ Answer) → o ≡ envelope zs (drop at s) → (end : ℕ) × (Ok end ≡ envelope zs (drop at s))
        go (Ok end) e = (end, e)
        go (Err a) e = let x = stopped zs s at lt e refl in let l = left.are in let y : ◌≡◌ {A = ℕ} 0 1 = cc in absurd (omega arith)

    pub is_whole : IsWhole (drop at s)
    is_whole = (inside zs s at lt here.1 refl).0

    parts : (rest : Table) × (ies zs (at + here.0) (drop (at + here.0) s) ≡ all rest) × (left.rows ≡ row_of at (record_of (drop at s)) ∷ rest)
    parts = split _ _ left.rows (sym (stepped zs s at lt here.1 refl) ∙ left.are)

    counts : length left.rows ≡ suc (length parts.0)
    counts = ap length parts.2

    pub has_room : i < length table
    has_room = omega (arith, counts, left.room)

    module _ {ie : Ie} (e : ie ≡ record_of (drop at s)) where
      ends_here : ie.place + ie.len ≡ here.0
      ends_here = ap (λ (x : Ie). x.place + x.len) e ∙ record_ends (drop at s) is_whole ∙ (inside zs s at lt here.1 refl).1

      pub fill_bounds : (4 ≤ ie.place + ie.len) × (at + (ie.place + ie.len) ≤ length s)
      fill_bounds = let w = inside zs s at lt here.1 refl in (omega (arith, ends_here, w.1), omega (arith, ends_here, w.2))

      pub fill_step : {row : List ℕ} → row ≡ row_of at ie → Left zs s (at + (ie.place + ie.len)) (set table i row) (i + 1) last
      fill_step {row} q =
          let r : row ≡ row_of at (record_of (drop at s)) = q ∙ ap (row_of at) e in
          let z : at + here.0 ≡ at + (ie.place + ie.len) = ap (λ (n : ℕ). at + n) (sym ends_here) in
          record {
            rows = parts.0;
            are = rw z at parts.1;
            room = omega (arith, counts, left.room, length-set table i row);
            done = laid_set table i row parts.0 has_room ∙ ap (λ (x : List ℕ). laid table i (x ∷ parts.0)) r ∙ ap (laid table i) (sym parts.2) ∙ left.done;
          }
