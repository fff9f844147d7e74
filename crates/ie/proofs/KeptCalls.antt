-- The whole call, where its table has the rows laid in. No answer cites this file any more.
use Prim.Native.Nat.{ℕ, ◌≤◌}
use mathlib.Core.Path.{◌≡◌, sym, ◌∙◌}
use mathlib.Core.List.{List}
use mathlib.Core.Bool.{true}
use lib.ListN.{length}
use borrow.Author.Tests.{le-leb}
use Rattle.std.specs.Prelude.{Result, Ok}
use Rattle.ie.proofs.Tables.{Table, is_all}
use Rattle.ie.proofs.KeptTables.{fits}
use Rattle.ie.specs.Ie.{all, ies, filled, tabled}
use Rattle.ie.specs.Steps.{counted}
use Rattle.ie.specs.declared.Guilty.{Guilty}

module _ (zs body : List ℕ) (table : Table) (small : length body ≤ 65535) {k : Result ℕ Guilty} (e : k ≡ counted 0 (ies zs 0 body)) where
  module _ {n : ℕ} (q : k ≡ Ok n) where
    here : (rows : Table) × (ies zs 0 body ≡ all rows) × (length rows ≡ n)
    here = is_all (ies zs 0 body) (sym e ∙ q)

    pub has_room : n ≤ length table → fits (ies zs 0 body) (length table) ≡ true
    has_room h = rw (here.1, here.2, le-leb _ _ h)

  pub done_table : {last : Table} → last ≡ filled table (ies zs 0 body) → last ≡ tabled zs body table
  unfolding tabled
  done_table p = rw (le-leb _ _ small) p
