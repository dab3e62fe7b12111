use Rattle.example_threads.proofs.served.serve.Goals as goal

pub returns-clause-silent : goal.returns-clause-silent
returns-clause-silent g c = (c.nothing_is_asked.ensures.serves (λ w k f v none. none) _ _ c.legal.ensures.low c.requires.idle c.serve.ensures.serves).0
