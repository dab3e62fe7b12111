use Rattle.std.proofs.Common.{rules}
use Rattle.wq_turn.proofs.Common.{ap, subst, WorkerState, HasNoneLeft, Owed, Owing, RunsOne}
use Rattle.wq_worker.specs.Rows.{Along}
use Rattle.wq_worker.proofs.Rows.{one_step}
use Rattle.wq_turn.proofs.Settled.{owing_runs}
use Rattle.wq_turn.proofs.Steps.{something_runs}
use Rattle.wq_turn.proofs.Kept.{runs_not_draining}
use Rattle.wq_turn.proofs.runner.Runner.execute.Goals as goal

pub invariant_of-self : goal.invariant_of-self
invariant_of-self g c =
    let k = g.K.Station in let a = k.state c.self.inside.worker in let b = k.state c.run_one.new.self in let n = c.in-Owing.field-0 in (
      owing_runs k.may k.gives n a b c.in-Owing.ensures.runs,
      runs_not_draining a b c.self.invariant.1 k.may k.gives (Owing n) c.in-Owing.ensures.runs,
    )

pub invariant_of-self-2 : goal.invariant_of-self-2
invariant_of-self-2 g c =
    let k = g.K.Station in let a = k.state c.self.inside.worker in let b = k.state c.run_one.new.self in
    (search rules, runs_not_draining a b c.self.invariant.1 k.may k.gives c.run_one.result c.run_one.ensures.runs)

pub returns-in-Owing-clause-runs : goal.returns-in-Owing-clause-runs
returns-in-Owing-clause-runs g c =
    let k = g.K.Station in
    subst (λ (w : WorkerState _). RunsOne k.may k.gives Owed w (k.state c.run_one.new.self)) (ap k.state c.self.view_is)
    (c.in-Owing.field-0, c.in-Owing.ensures.runs)

pub unreachable-requires : goal.unreachable-requires
unreachable-requires g c =
    let k = g.K.Station in let a = k.state c.self.inside.worker in
    let some : ¬ HasNoneLeft a.seen = rw (ap k.state c.self.view_is) c.requires in
    something_runs k.may k.gives a (k.state c.run_one.new.self) some c.in-Nothing.ensures.runs (c.run_one.ensures.none c.in-Nothing.is)

pub returns-in-Owing-clause-deals : goal.returns-in-Owing-clause-deals
returns-in-Owing-clause-deals g c =
    let d = g.K.Station.deals in let b = c.run_one.new.self in
    subst (λ w. Along d w b) c.self.view_is (one_step d c.self.inside.worker b c.in-Owing.ensures.deals)

pub returns-clause-deals : goal.returns-clause-deals
returns-clause-deals g c =
    let d = g.K.Station.deals in let b = c.run_one.new.self in
    subst (λ w. Along d w b) c.self.view_is (one_step d c.self.inside.worker b c.run_one.ensures.deals)
