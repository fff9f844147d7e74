-- What the steps on the way to a line's row answer: nothing here is the paper's.
use Rattle.std.specs.Prelude.{ℕ, ◌≡◌, List, eqb, take}
use Rattle.std.specs.Fn.{Once}
use denote.Ref.{MutBor}
use Rattle.answer.specs.declared.Answer.{Answer}
use Rattle.answer.specs.declared.Read.{Read}
use Rattle.answer.specs.declared.Written.{Written}
use Rattle.answer.specs.Paper.{number_of}
use Rattle.octets.specs.Octets.{if_set}
use Rattle.case_line.specs.declared.LineRow.{LineRow}
use Rattle.case_line.specs.Line.{Row, row}

-- the row that is meant, given the buffer that has its bytes at the start
abbrev pub row_in : List ℕ → LineRow → Row
row_in bytes r = row r.number r.used (take r.len bytes)

-- the row of a payload that was read with this answer and used count, and whose record was written again in so many bytes
abbrev pub redone : Answer → ℕ → ℕ → LineRow
redone a used len = record { number = number_of a; used = used; len = if_set (eqb (number_of a) 0) len }

-- that row, where f may write the record that was read into these bytes, and leave bytes' there
pub record WroteRow {F T : Type 0} (g : Once F (T × (MutBor (List ℕ) × Unit {0})) (Written × (MutBor (List ℕ) × Unit {0}))) (f : F) (read : Read T) (bytes : List ℕ) (row : LineRow) (bytes' : List ℕ) : Type 0 where
  pub shown : MutBor (List ℕ)
  pub shows : shown.now ≡ bytes
  pub left : MutBor (List ℕ)
  pub written : Written
  pub met : g.post f (read.«record», (shown, tt)) (written, (left, tt))
  pub leaves : left.now ≡ bytes'
  pub is : row ≡ redone read.answer read.used written.len
