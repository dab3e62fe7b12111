use Rattle.wq_value_worker.proofs.Common.{GivesBack, MayLeave}
use Rattle.wq_value_worker.proofs.Deals.{along_learnt, along_given}
use Rattle.wq_value_worker.proofs.ValueGoing.{pairs_log}
use Rattle.wq_worker.proofs.Going.{drains_seen}
use Rattle.wq_value_worker.proofs.value_worker.ValueWorker.drain.Goals as goal

pub returns : goal.returns
returns g c =
    let w = g.W.ValueWork in let a = c.args.self.now in let b = c.drain-drained.new.station in let e = c.drain-drained.ensures in
    let learnt = along_learnt w.given w.may w.takes a b c.legal.ensures.matches e.deals in record {
      deals = e.deals;
      learnt = learnt;
      given = along_given w.given w.may w.takes a b e.deals;
      drains = e.drains;
      «open» = e.«open»;
      shut = e.shut;
      none = e.none;
      ended = e.ended;
      complete = e.complete;
      unclosed = e.unclosed;
      log_grows = pairs_log a b (w.log a.worker.work) (w.log b.worker.work) c.logged.ensures.log c.logged-2.ensures.log
          (drains_seen (MayLeave w.may w.takes) (GivesBack w.takes) c.args.limit c.drain-drained.result a.worker b.worker e.drains) e.legal learnt;
      same = e.same;
      legal = e.legal;
    }
