-- What the steps of the writer promise: nothing here is the paper's.
use Rattle.std.specs.Prelude.{ℕ, ◌+◌, List, Bool, length, leb}
use Rattle.std.specs.Prelude.{Option, None, Some}
use Rattle.octets.specs.Octets.{pick, field}
use Rattle.texts.specs.declared.Text.{Text}
use Rattle.text_fields.specs.Fields.{text_wire, text_meaning}
use Rattle.text_fields.specs.declared.TextList.{TextList}

-- the place behind bytes that are put, and the same place where they don't fit
abbrev pub behind_put : ℕ → ℕ → List ℕ → ℕ
behind_put n at bs = pick (leb (at + length bs) n) (at + length bs) at

-- the bytes of a run, and of a text
abbrev pub run_bytes : List ℕ → TextList → List ℕ
run_bytes texts x = field texts x.place x.len

abbrev pub text_bytes : List ℕ → Option Text → List ℕ
text_bytes texts x = text_wire (text_meaning texts x)

-- the number of the first field that can't be: the one found before, or this one's
unfoldable pub first_bad : Option ℕ → Bool → ℕ → Option ℕ
first_bad None good number = pick good None (Some number)
first_bad (Some k) good number = Some k
