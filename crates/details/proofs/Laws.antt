-- Laws of rows of values.
use Prim.Native.Nat.{ℕ}
use mathlib.Core.Path.{◌≡◌, ap, ◌∙◌}
use mathlib.Core.List.{List, [], ◌∷◌}
use Rattle.answer.specs.declared.Answer.{Answer}
use Rattle.answer.specs.declared.Values.{Values}
use Rattle.answer.specs.Paper.{number_of, values_of}
use Rattle.rows.specs.declared.Value.{Value}
use Rattle.rows.specs.declared.Value.TheVariants.{Count}
use Rattle.rows.specs.Row.{pieces, numbered}
use Rattle.rows.proofs.Laws.{Some}
use Rattle.details.specs.Ascii.{ascii}
use Rattle.details.specs.Refusals.{unread_values, unread_words, unread_row, unmade_row}

-- rows that agree in the first value, and in the others
pub also : {v w : Value} {vs ws : List Value} → v ≡ w → vs ≡ ws → (v ∷ vs) ≡ (w ∷ ws)
also {v = v} {ws = ws} e f = ap (λ (l : List Value). v ∷ l) f ∙ ap (λ (x : Value). x ∷ ws) e

-- what was put of a row, by its words and its values
pub unread_put : (a : Answer) (n : ℕ) (row : List ℕ) (values : List Value) (d d' : List ℕ) (at e : ℕ) → n ≡ number_of a → row ≡ numbered n unread_words → values ≡ unread_values a
    → Some (pieces row values []) d at d' e → Some (unread_row a) d at d' e
unfolding unread_row
unread_put a n row values d d' at e en er ev h = rw (← ev, ← en, ← er) h

pub unmade_put : (a : Answer) (n : ℕ) (vs : Values) (v w : Value) (d d' : List ℕ) (at e : ℕ) → n ≡ number_of a → vs ≡ values_of a → v ≡ Count n → w ≡ Count vs.0
    → Some (pieces (ascii "# # -\n") (v ∷ w ∷ []) []) d at d' e → Some (unmade_row a) d at d' e
unfolding unmade_row
unmade_put a n vs v w d d' at e en evs ev ew h = rw (← en, ← evs, ← ev, ← ew) h
