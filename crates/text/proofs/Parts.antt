-- Good texts and their parts, for whoever reads or writes texts.
use mathlib.Core.Path.{◌≡◌, ◌∙◌}
use mathlib.Core.List.{List, ◌++◌, append_assoc}
use Prim.Native.Nat.{ℕ}
use native.Mathlib.Omega.{arith}
use lib.ListN.{length, take}
use lib.Seq.{take-length, length-take-le}
use Rattle.text.specs.Utf8.{good_len}
use Rattle.text.specs.Meaning.{WellFormed}
use Rattle.text.specs.Meaning.WellFormed.{none, more}
use Rattle.text.proofs.Laws.{good_fits}
use Rattle.text.proofs.Longest.{longest}

-- A text is good exactly when it is well formed.
pub good_well : (s : List ℕ) → good_len s ≡ length s → WellFormed s
good_well s e = rw (e, take-length) at (longest s).good

pub well_good : {s : List ℕ} → WellFormed s → good_len s ≡ length s
well_good {s} w = let all = (longest s).most (length s) (omega arith) (rw take-length w) in omega (arith, all, good_fits s)

-- The good beginning of a text is good.
pub good_take : (s : List ℕ) → good_len (take (good_len s) s) ≡ good_len s
good_take s = well_good (longest s).good ∙ length-take-le (good_len s) s (good_fits s)

pub well_append : {a b : List ℕ} → WellFormed a → WellFormed b → WellFormed (a ++ b)
well_append none v = v
well_append (more k p q w) v = rw append_assoc (more k p q (well_append w v))

-- Two good texts, one after the other, are a good text.
pub good_append : (a b : List ℕ) → good_len a ≡ length a → good_len b ≡ length b → good_len (a ++ b) ≡ length (a ++ b)
good_append a b e f = well_good (well_append (good_well a e) (good_well b f))
