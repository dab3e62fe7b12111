use Rattle.wq_worker.proofs.Common.{rules, ap, sym, ◌∙◌, WorkerState}
use Rattle.std.specs.Fn.{FnOnceReturnsAtMut}
use Rattle.wq_worker.proofs.worker.Worker.adjust.Goals as goal

pub invariant_of-self : goal.invariant_of-self
invariant_of-self g c =
    let left : FnOnceReturnsAtMut {F = g.row.F.Denot} {T = g.row.W.Denot} {R = Unit {0}} g.F.FnOnce c.args.f c.args.self.now.work tt c.f.new.arg2 =
    rw (← c.self.view_is) (search rules) in let fit = c.self.invariant in
    record {
      legal = fit.legal;
      numbered = fit.numbered;
      some_try = fit.some_try;
      within = fit.within;
      logged = c.requires.keeps c.f.new.arg2 left ∙ (ap (λ (a : WorkerState g.row.W.Denot). g.W.Work.log a.work) (sym c.self.view_is) ∙ fit.logged);
    }

pub returns-clause-work : goal.returns-clause-work
returns-clause-work g c = rw (← c.self.view_is) (search rules)
