use Rattle.std.proofs.Common.{ap, sym, ◌∙◌}
use Rattle.wq_value_worker.specs.Returned.{numbers_in}
use Rattle.example_values.proofs.summed.run_two.Goals as goal

pub returns-clause-idle : goal.returns-clause-idle
returns-clause-idle c = (c.nothing_is_asked.ensures.some (λ w k f v m. sym m.numbers ∙ ap numbers_in m.runs) 2 _ _ _ c.legal.ensures.low c.requires
    c.run_some.ensures.runs).1

pub returns-clause-silent : goal.returns-clause-silent
returns-clause-silent c = (c.nothing_is_asked.ensures.some (λ w k f v m. sym m.numbers ∙ ap numbers_in m.runs) 2 _ _ _ c.legal.ensures.low c.requires
    c.run_some.ensures.runs).0
