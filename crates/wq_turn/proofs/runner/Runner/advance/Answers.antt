use Rattle.wq_turn.proofs.Common.{still}
use Rattle.wq_worker.proofs.Rows.{along_on}
use Rattle.wq_turn.proofs.Settled.{advanced}
use Rattle.wq_turn.proofs.runner.Runner.advance.Goals as goal

pub returns-then-self-clause-progresses : goal.returns-then-self-clause-progresses
returns-then-self-clause-progresses g c =
    let k = g.K.Station in let a = k.state c.args.self.now in
    advanced k.may k.gives c.execute.result a a (k.state c.execute.new.self) (still a) c.execute.ensures.runs

pub returns-clause-progresses : goal.returns-clause-progresses
returns-clause-progresses g c =
    let k = g.K.Station in
    advanced k.may k.gives c.execute-2.result (k.state c.args.self.now) (k.state c.settle.new.self) (k.state c.execute-2.new.self)
    c.in-Some.ensures.settles.steps c.execute-2.ensures.runs

pub returns-clause-deals : goal.returns-clause-deals
returns-clause-deals g c =
    along_on g.K.Station.deals c.args.self.now c.settle.new.self c.execute-2.new.self c.in-Some.ensures.deals c.execute-2.ensures.deals
