use Rattle.wq_words.proofs.Common.{rules, is_drain}
use Rattle.wq_words.proofs.Times.{any_counted}
use Rattle.wq_words.proofs.counts.has_drained.Goals as goal

pub returns : goal.returns
returns c = rw c.contains.ensures.value (any_counted _ is_drain (λ event. search rules) c.args.history.now)
