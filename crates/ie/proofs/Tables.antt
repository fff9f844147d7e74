-- The rows laid into the table, one store after another.
use Prim.Native.Nat.{ℕ, suc, ◌+◌, ◌-◌, ◌≤◌, ◌<◌}
use mathlib.Core.Path.{◌≡◌, refl, ap, sym, ◌∙◌}
use mathlib.Core.List.{List, [], ◌∷◌, ◌++◌}
use mathlib.Core.Bool.{Bool, true, false}
use native.Mathlib.Omega.{arith}
use native.Mathlib.Numerals.{add-one}
use lib.Dec.{leb}
use lib.ListN.{length, take, drop, set, length-set, length-drop}
use lib.Seq.{take-suc-set, take_all, append_snoc}
use borrow.Author.Tests.{leb-true, leb-false}
use Rattle.std.specs.Prelude.{Result, Ok, Err}
use Rattle.std.proofs.lemmas.List.{append-nil}
use Rattle.answer.specs.declared.Answer.{Answer}
use Rattle.ie.proofs.Envelopes.{record_ends}
use Rattle.ie.proofs.Walks.{past, stopped, stepped, inside}
use Rattle.ie.specs.Ie.{Rows, all, guilty, before, record_of, row_of, envelope, ies}
use Rattle.ie.specs.Steps.{IsWhole, counted, HasRows}
use Rattle.ie.specs.declared.Ie.{Ie}

abbrev pub Table : Type 0
Table = List (List ℕ)

-- what the count says of the rows
pub is_all : (r : Rows) {n : ℕ} → counted 0 r ≡ Ok n → (rows : Table) × (r ≡ all rows) × (length rows ≡ n)
unfolding counted
is_all (all rows) {n} q = (rows, refl, (let z : 0 + length rows ≡ n = cc in omega arith))
is_all (guilty place a) q = let y : ◌≡◌ {A = ℕ} 0 1 = cc in absurd (omega arith)

-- the rows that are left, behind those that are there
pub record Left (zs s : List ℕ) (at : ℕ) (table : Table) (i : ℕ) : Type 0 where
  pub rows : Table
  pub are : ies zs at (drop at s) ≡ all rows
  pub room : i + length rows ≡ length table
  pub done : ies zs 0 s ≡ all (take i table ++ rows)

pub starts : (zs s : List ℕ) (table : Table) → HasRows zs s (length table) → Left zs s 0 table 0
starts zs s table h =
    let w = is_all (ies zs 0 s) h in
    record { rows = w.0; are = w.1; room = omega (arith, w.2); done = w.1 }

split : (row : List ℕ) (r : Rows) (rows : Table) → before row r ≡ all rows → (rest : Table) × (r ≡ all rest) × (rows ≡ row ∷ rest)
unfolding before
split row (all rest) rows q = (rest, refl, cc)
split row (guilty place a) rows q = let y : ◌≡◌ {A = ℕ} 0 1 = cc in absurd (omega arith)

module _ (zs s : List ℕ) (at : ℕ) (table : Table) (i : ℕ) (left : Left zs s at table i) {n : ℕ} (long : length table ≡ n) where
  none_left : (rows : Table) → length rows ≡ 0 → take (length table) table ++ rows ≡ table
  none_left [] h = append-nil _ ∙ take_all (length table) table (omega arith)
  none_left (row ∷ rows) h = absurd (omega (arith, h))

  pub fill_end : n ≤ i → ies zs 0 s ≡ all table
  fill_end h =
      let e : i ≡ length table = omega (arith, h, long, left.room) in
      rw e at left.done ∙ ap all (none_left left.rows (omega (arith, h, long, left.room)))

  module _ (turn : i < n) where
    more : i < length table
    more = omega (arith, turn, long)

    lt : at < length s
    lt = go (leb (length s) at) refl
      where
        go : (b : Bool) → leb (length s) at ≡ b → at < length s
        go true e =
            let z : left.rows ≡ [] = cc (past zs s at (leb-true _ _ e), left.are) in
            let n : length left.rows ≡ 0 = ap length z in
            absurd (omega (arith, n, left.room, more))
        go false e = leb-false _ _ e

    -- a good body has a whole IE here
    here : (end : ℕ) × (Ok end ≡ envelope zs (drop at s))
    here = go (envelope zs (drop at s)) refl
      where
        go : (o : Result ℕ Answer) → o ≡ envelope zs (drop at s) → (end : ℕ) × (Ok end ≡ envelope zs (drop at s))
        go (Ok end) e = (end, e)
        go (Err a) e = let x = stopped zs s at lt e refl in let l = left.are in let y : ◌≡◌ {A = ℕ} 0 1 = cc in absurd (omega arith)

    -- the code lends all that is left
    lent : take (length s - at) (drop at s) ≡ drop at s
    lent = take_all (length s - at) (drop at s) (omega (arith, length-drop at s))

    pub is_whole : IsWhole (take (length s - at) (drop at s))
    is_whole = rw lent (inside zs s at lt here.1 refl).0

    parts : (rest : Table) × (ies zs (at + here.0) (drop (at + here.0) s) ≡ all rest) × (left.rows ≡ row_of at (record_of (drop at s)) ∷ rest)
    parts = split _ _ left.rows (sym (stepped zs s at lt here.1 refl) ∙ left.are)

    module _ {ie : Ie} (e : ie ≡ record_of (take (length s - at) (drop at s))) where
      is_here : ie ≡ record_of (drop at s)
      is_here = e ∙ ap record_of lent

      ends_here : ie.place + ie.len ≡ here.0
      ends_here = let w = inside zs s at lt here.1 refl in ap (λ (x : Ie). x.place + x.len) is_here ∙ record_ends (drop at s) w.0 ∙ w.1

      pub fill_bounds : at + (ie.place + ie.len) ≤ length s
      fill_bounds = let w = inside zs s at lt here.1 refl in omega (arith, ends_here, w.2)

      pub fill_step : {row : List ℕ} → row ≡ row_of at ie → Left zs s (at + (ie.place + ie.len)) (set table i row) (i + 1)
      fill_step {row} q =
          let r : row ≡ row_of at (record_of (drop at s)) = q ∙ ap (row_of at) is_here in
          let z : at + here.0 ≡ at + (ie.place + ie.len) = ap (λ (n : ℕ). at + n) (sym ends_here) in
          let n : length left.rows ≡ suc (length parts.0) = ap length parts.2 in
          let t : take (i + 1) (set table i row) ≡ take i table ++ (row ∷ []) = rw (add-one i) (take-suc-set table i row more) in
          let b : take (i + 1) (set table i row) ++ parts.0 ≡ take i table ++ left.rows = ap (λ (x : Table). x ++ parts.0) t ∙ append_snoc (take i table) row parts.0 ∙ ap (λ (x : Table). take i table ++ x) (ap (λ (x : List ℕ). x ∷ parts.0) r ∙ sym parts.2) in
          record {
            rows = parts.0;
            are = rw z at parts.1;
            room = omega (arith, n, left.room, length-set table i row);
            done = left.done ∙ ap all (sym b);
          }
