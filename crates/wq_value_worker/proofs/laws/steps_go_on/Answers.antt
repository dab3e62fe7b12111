use Rattle.wq_value_worker.proofs.Deals.{along_learnt, along_given, along_works}
use Rattle.wq_value_worker.proofs.laws.steps_go_on.Goals as goal

pub returns-clause-learnt : goal.returns-clause-learnt
returns-clause-learnt g c = let W = g.W.ValueWork in along_learnt W.given W.may W.takes

pub returns-clause-given : goal.returns-clause-given
returns-clause-given g c = let W = g.W.ValueWork in along_given W.given W.may W.takes

pub returns-clause-works : goal.returns-clause-works
returns-clause-works g c = let W = g.W.ValueWork in along_works W.given W.may W.takes
