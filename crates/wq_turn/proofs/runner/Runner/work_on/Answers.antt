use Rattle.wq_turn.proofs.Common.{refl, arith, still}
use Rattle.wq_worker.specs.Rows.{here}
use Rattle.wq_worker.proofs.Rows.{along_on}
use Rattle.wq_turn.proofs.Settled.{works_owed, works_done, works_due}
use Rattle.wq_turn.proofs.Steps.{steps_on}
use Rattle.wq_turn.proofs.runner.Runner.work_on.Goals as goal

pub loop-ended-init : goal.loop-ended-init
loop-ended-init g c = (still (g.K.Station.state c.args.self.now), λ some. absurd (omega (arith, some)), λ none. refl, here c.args.self.now)

pub returns-in-Owed : goal.returns-in-Owed
returns-in-Owed g c =
    let l = c.loop-ended in let k = g.K.Station in
    record {
      works = works_owed k.may k.gives c.args.limit l._ended (k.state c.args.self.now) (k.state l.self) (k.state c.advance.new.self)
          (omega (arith, c.loop-ended-test.true)) l.invariant.0 c.in-Owed.ensures.progresses;
      deals = along_on k.deals c.args.self.now l.self c.advance.new.self l.invariant.3 c.in-Owed.ensures.deals;
    }

pub returns-in-Done : goal.returns-in-Done
returns-in-Done g c =
    let l = c.loop-ended in let k = g.K.Station in
    record {
      works = works_done k.may k.gives c.args.limit l._ended (k.state c.args.self.now) (k.state l.self) (k.state c.advance.new.self)
          (omega (arith, c.loop-ended-test.true)) l.invariant.0 c.in-Done.ensures.progresses;
      deals = along_on k.deals c.args.self.now l.self c.advance.new.self l.invariant.3 c.in-Done.ensures.deals;
    }

pub loop-ended-preserved : goal.loop-ended-preserved
loop-ended-preserved g c =
    let l = c.loop-ended in let k = g.K.Station in let t = c.in-Ended.ensures.progresses in (
      steps_on k.may k.gives l._ended 1 (k.state c.args.self.now) (k.state l.self) (k.state c.advance.new.self) l.invariant.0 t.0,
      λ some. t.1,
      λ none. absurd (omega (arith, none)),
      along_on k.deals c.args.self.now l.self c.advance.new.self l.invariant.3 c.in-Ended.ensures.deals,
    )

pub returns-in-Some : goal.returns-in-Some
returns-in-Some g c =
    let l = c.loop-ended in let k = g.K.Station in
    record {
      works = works_due k.may k.gives c.args.limit l._ended (k.state c.args.self.now) (k.state l.self) (k.state c.settle.new.self) c.in-Some.field-0
          (omega arith) l.invariant.0 c.in-Some.ensures.settles;
      deals = along_on k.deals c.args.self.now l.self c.settle.new.self l.invariant.3 c.in-Some.ensures.deals;
    }

pub returns-in-None : goal.returns-in-None
returns-in-None g c =
    let l = c.loop-ended in let k = g.K.Station in
    record {
      works = works_done k.may k.gives c.args.limit l._ended (k.state c.args.self.now) (k.state l.self) (k.state c.settle.new.self) (omega arith)
          l.invariant.0 c.in-None.ensures.settles;
      deals = along_on k.deals c.args.self.now l.self c.settle.new.self l.invariant.3 c.in-None.ensures.deals;
    }
