use Rattle.wq_worker.proofs.Rows.{along_on}
use Rattle.wq_turn.proofs.Common.{sym, ap, ◌∙◌, subst, IsClosed, WorkerState}
use Rattle.wq_turn.proofs.Draining.{works_closed, works_idle, drained_just}
use Rattle.wq_turn.specs.Drained.{IsDrained}
use Rattle.wq_turn.proofs.Steps.{works_id}
use Rattle.wq_turn.proofs.runner.Runner.drain.Goals as goal

pub left-requires : goal.left-requires
left-requires g c =
    let k = g.K.Station in
    subst (λ (w : WorkerState _). IsClosed w.seen) (sym (ap k.state c.self.view_is))
    (works_closed k.may k.gives c.args.limit c.work.result (k.state c.close.new.self) (k.state c.work.new.self) c.work.ensures.works
    c.close.ensures.closed)

pub returns-clause-works : goal.returns-clause-works
returns-clause-works g c =
    let k = g.K.Station in record {
      closed = k.state c.close.new.self;
      is_done = c.work.result;
      closes = c.close.ensures.closes;
      works = c.work.ensures.works;
    }

pub returns-clause-deals : goal.returns-clause-deals
returns-clause-deals g c =
    along_on g.K.Station.deals c.args.self.now c.close.new.self c.work.new.self c.close.ensures.deals c.work.ensures.deals

pub returns-clause-same : goal.returns-clause-same
returns-clause-same g c =
    let k = g.K.Station in
    works_id k.may k.gives c.args.limit c.work.result (k.state c.close.new.self) (k.state c.work.new.self) c.work.ensures.works
    ∙ c.close.ensures.same

pub returns-clause-executed : goal.returns-clause-executed
returns-clause-executed g c =
    let k = g.K.Station in let shut = c.close.ensures in
    λ some. drained_just k.may k.gives c.args.limit c.left.result c.work.result (k.state c.args.self.now) (k.state c.close.new.self)
    (k.state c.work.new.self) shut.closes shut.closed (shut.idle c.requires) c.work.ensures.works
    (subst (λ (w : WorkerState _). IsDrained c.left.result w) (ap k.state c.self.view_is) c.left.ensures.left) some

pub returns-clause-idle : goal.returns-clause-idle
returns-clause-idle g c =
    let k = g.K.Station in
    works_idle k.may k.gives c.args.limit c.work.result (k.state c.close.new.self) (k.state c.work.new.self) c.work.ensures.works
    c.close.ensures.closed (c.close.ensures.idle c.requires)
