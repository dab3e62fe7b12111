use Rattle.std.proofs.Common.{ap, sym, ◌∙◌, ◌++◌, [], ◌∷◌}
use Rattle.std.proofs.lemmas.List.Elements.{filter_map-append}
use Rattle.wq_values.specs.KnownWith.{handed_in}
use Rattle.example_values.specs.Messages.{number_in, numbers_of}
use Rattle.example_values.proofs.executing.execute_one.Goals as goal

pub returns-clause-ran : goal.returns-clause-ran
returns-clause-ran c = let y = c.begin-number.result.1 in let old = handed_in c.args.it.now.owner in
    ap numbers_of (c.end.ensures.handed ∙ (ap (λ it. handed_in it) (c.add_up.ensures.owner) ∙ c.begin-number.ensures.handed)) ∙
    (filter_map-append number_in old (y ∷ []) ∙ (ap (λ ns. ns ++ numbers_of (y ∷ [])) c.requires.ran ∙ sym c.add_up.ensures.ran))
