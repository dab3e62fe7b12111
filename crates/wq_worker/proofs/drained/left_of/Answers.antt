use Rattle.wq_worker.proofs.Common.{rules, ◌≡◌, Some, None, arith, running, runs_none, runs_some}
use Rattle.wq_worker.proofs.Draining.{left_idle, left_running}
use Rattle.wq_worker.proofs.drained.left_of.Goals as goal

pub returns-in-Some : goal.returns-in-Some
returns-in-Some g c =
    let o = g.P.Paired.known c.args.pair.now in let some : running o.seen ≡ Some c.in-Some._number = search rules in
    record {
      left = omega (arith, c.waiting.ensures.count, left_running o.layout o.seen c.requires.legal c.requires.shut (runs_some o.seen c.in-Some._number some));
    }

pub returns : goal.returns
returns g c =
    let o = g.P.Paired.known c.args.pair.now in let none : running o.seen ≡ None = search rules in
    record {
      left = omega (arith, c.waiting-2.ensures.count, left_idle o.layout o.seen c.requires.legal c.requires.shut (runs_none o.seen none));
    }
