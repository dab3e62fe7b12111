use Rattle.wq_value_worker.proofs.Common.{rules, ℕ, List, ap, sym, ◌∙◌, subst, ValueWorkerState, AreValueParts}
use Rattle.std.specs.Fn.{FnOnceReturnsAtMut}
use Rattle.wq_value_worker.proofs.value_worker.ValueWorker.adjust.Goals as goal

pub invariant_of-self : goal.invariant_of-self
invariant_of-self g c =
    let i = c.self.inside in
    let left : FnOnceReturnsAtMut {F = g.row.F.Denot} {T = g.row.W.Denot} {R = Unit {0}} g.F.FnOnce c.args.f c.args.self.now.worker.work tt c.f.new.arg2 =
    rw (← c.self.view_is) (search rules) in
    subst (λ (log : List (ℕ × g.row.V.Denot)). AreValueParts log i.tries i.pair)
    (ap (λ (w : ValueWorkerState g.row.V.Denot g.row.W.Denot). g.W.ValueWork.log w.worker.work) c.self.view_is ∙
    sym (c.requires.keeps c.f.new.arg2 left)) c.self.invariant

pub returns-clause-work : goal.returns-clause-work
returns-clause-work g c = rw (← c.self.view_is) (search rules)
