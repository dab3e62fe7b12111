use Rattle.wq_worker.proofs.Silent.{none_by_one, none_by_some, none_by_serving, none_by_draining, none_by_leaving, none_by_closing, none_along}
use Rattle.wq_worker.proofs.laws.nothing_is_asked.Goals as goal

pub returns-clause-one : goal.returns-clause-one
returns-clause-one g c = let k = g.K.Station in none_by_one k.may k.gives

pub returns-clause-some : goal.returns-clause-some
returns-clause-some g c = let k = g.K.Station in none_by_some k.may k.gives

pub returns-clause-serves : goal.returns-clause-serves
returns-clause-serves g c = let k = g.K.Station in none_by_serving k.may k.gives

pub returns-clause-drains : goal.returns-clause-drains
returns-clause-drains g c = let k = g.K.Station in none_by_draining k.may k.gives

pub returns-clause-leaves : goal.returns-clause-leaves
returns-clause-leaves g c = let k = g.K.Station in none_by_leaving k.may k.gives

pub returns-clause-closes : goal.returns-clause-closes
returns-clause-closes g c = let k = g.K.Station in none_by_closing k.may k.gives

pub returns-clause-along : goal.returns-clause-along
returns-clause-along g c = let k = g.K.Station in none_along k.may k.gives
