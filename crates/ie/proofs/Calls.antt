-- The whole call, by the tests of the code.
use Prim.Native.Nat.{ℕ, ◌≤◌, ◌<◌}
use mathlib.Core.Path.{◌≡◌, ap, sym, ◌∙◌}
use mathlib.Core.List.{List, [], ◌++◌}
use native.Mathlib.Omega.{arith}
use lib.ListN.{length, take, drop}
use Rattle.std.proofs.lemmas.List.{length-take-le}
use borrow.Author.Tests.{le-leb, lt-leb}
use Rattle.answer.specs.declared.Answer.TheVariants.{Done, InputTooLong, NoRoom}
use Rattle.ie.proofs.Tables.{Table, is_all}
use Rattle.ie.specs.Ie.{Rows, all, guilty, ies, refused_at, answered, read_all, filled, tabled}
use Rattle.ie.specs.Steps.{counted, HasRows}
use Rattle.ie.specs.declared.IesRead.{IesRead}
use Rattle.ie.specs.declared.Guilty.{Guilty}
use Rattle.std.specs.Prelude.{Result, Ok, Err}

-- what a count that found a guilty one says
blamed : Result ℕ Guilty → Rows
blamed (Ok n) = all []
blamed (Err g) = guilty g.place g.answer

is_guilty : (r : Rows) {g : Guilty} → counted 0 r ≡ Err g → r ≡ guilty g.place g.answer
unfolding counted blamed
is_guilty (all rows) q = let y : ◌≡◌ {A = ℕ} 0 1 = cc in absurd (omega arith)
is_guilty (guilty place a) q = ap blamed q

module _ (zs body : List ℕ) (table : Table) where
  module _ (long : 65535 < length body) where
    pub too_long : {r : IesRead} → r ≡ refused_at 0 (InputTooLong (length body)) → r ≡ read_all zs body (length table)
    unfolding read_all
    too_long q = rw (lt-leb _ _ long) q

    pub too_long_left : table ≡ tabled zs body table
    unfolding tabled
    too_long_left = rw (lt-leb _ _ long)

  module _ (small : length body ≤ 65535) {k : Result ℕ Guilty} (e : k ≡ counted 0 (ies zs 0 body)) where
    module _ {g : Guilty} (q : k ≡ Err g) where
      pub refused : {r : IesRead} → r ≡ refused_at g.place g.answer → r ≡ read_all zs body (length table)
      unfolding read_all answered
      refused p = rw (le-leb _ _ small, is_guilty (ies zs 0 body) (sym e ∙ q)) p

      pub refused_left : table ≡ tabled zs body table
      unfolding tabled filled
      refused_left = rw (le-leb _ _ small, is_guilty (ies zs 0 body) (sym e ∙ q))

    module _ {n : ℕ} (q : k ≡ Ok n) where
      here : (rows : Table) × (ies zs 0 body ≡ all rows) × (length rows ≡ n)
      here = is_all (ies zs 0 body) (sym e ∙ q)

      pub no_room : {r : IesRead} → r ≡ refused_at 0 (NoRoom n) → length table < n → r ≡ read_all zs body (length table)
      unfolding read_all answered
      no_room p h = rw (le-leb _ _ small, here.1, here.2, lt-leb _ _ h) p

      pub no_room_left : length table < n → table ≡ tabled zs body table
      unfolding tabled filled
      no_room_left h = rw (le-leb _ _ small, here.1, here.2, lt-leb _ _ h)

      pub done : n ≤ length table → record { answer = Done; rows = n; place = 0 } ≡ read_all zs body (length table)
      unfolding read_all answered
      done h = rw (le-leb _ _ small, here.1, here.2, le-leb _ _ h)

      pub done_table : {last : Table} → ((types : List ℕ) → HasRows types body (length (take n table)) → ies types 0 body ≡ all last) → n ≤ length table → last ++ drop n table ≡ tabled zs body table
      unfolding tabled filled
      done_table {last} f h =
          let l : length (take n table) ≡ n = length-take-le n table h in
          let k : HasRows zs body n = sym e ∙ q in
          let w : ies zs 0 body ≡ all last = f zs (rw l k) in
          let z = is_all (ies zs 0 body) k in
          let y : last ≡ z.0 = cc (w, z.1) in
          let m : length last ≡ n = ap length y ∙ z.2 in
          rw (le-leb _ _ small, w, m, le-leb _ _ h)
