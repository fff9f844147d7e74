-- `words::index` meets its contract: it counts the parts before the word.
use Rattle.std.proofs.Common.{rules, tests, ap, ◌∙◌, eqb, not, ℕ, List}
use Rattle.std.proofs.lemmas.Iterator.Consumers.{count_from_yields_List}
use Rattle.std.proofs.lemmas.Iterator.Search.{YieldsList-from_take_while}
use Rattle.std.proofs.lemmas.Iterator.Splits.{YieldsList-from_slice_split}
use Rattle.std.specs.Slice.Iter.{split_rest, split_done, split_callee}
use Rattle.words.specs.Words.{same}
use Rattle.words.proofs.Laws.{place_split}
use Rattle.words.proofs.index.Goals as goal

pub returns : goal.returns
returns c =
    let source = c.take_while.ensures.source in
    place_split _ _ _ (count_from_yields_List _ _ c.count.ensures.ran
    (YieldsList-from_take_while _ (λ (w : List ℕ). not (same w c.args.word.now))
    (YieldsList-from_slice_split _ (λ (b : ℕ). eqb b 0x20) c.args.list.now (ap split_rest source ∙ c.split.ensures.rest) (ap split_done source ∙ c.split.ensures.done) (ap split_callee source ∙ c.split.ensures.closure) (λ x r q k. search (rules, tests)))
    c.take_while.ensures.closure c.take_while.ensures.done (λ x r q k. search (rules, tests))))
