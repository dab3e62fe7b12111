use Rattle.wq_text.proofs.Common.{refl, sym, ◌∙◌, words_give}
use Rattle.wq_text.proofs.LineWords.{no_words, spaced, worded}
use Rattle.wq_text.proofs.line.words_line.Goals as goal

pub returns-then-not-are_words-clause-exact : goal.returns-then-not-are_words-clause-exact
returns-then-not-are_words-clause-exact g c =
    spaced g.L.Language.grammar c.args.awaited c.args.words.now (sym c.are_words.ensures ∙ c.if-not-are_words.true)

pub returns-in_default-clause-exact : goal.returns-in_default-clause-exact
unfolding words_give
returns-in_default-clause-exact g c = rw (no_words c.args.words.now c.in_default.ensures.cases) refl

pub returns-clause-exact : goal.returns-clause-exact
returns-clause-exact g c =
    let plain = sym c.are_words.ensures ∙ c.if-not-are_words.false in
    rw (worded g.L.Language.grammar c.args.awaited c.args.words.now c.in-Some.first.now c.in-Some.others.now plain c.in-Some.ensures.cases.0)
    c.first_word_line.ensures.exact
