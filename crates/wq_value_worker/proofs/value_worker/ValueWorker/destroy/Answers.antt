use Rattle.wq_value_worker.proofs.Common.{arith, refl, GivesBack, MayLeave}
use Rattle.wq_value_worker.specs.ValueState.{HasRunPairs}
use Rattle.wq_worker.proofs.Destroy.{destroys, leaves_unfinished}
use Rattle.wq_value_worker.specs.Deals.{DealsInStep}
use Rattle.wq_value_worker.proofs.Deals.{along_learnt, along_given}
use Rattle.wq_worker.proofs.Going.{closes_out}
use Rattle.wq_worker.proofs.Rows.{along_on, ran_complete}
use Rattle.wq_value_worker.proofs.value_worker.ValueWorker.destroy.Goals as goal

pub into_book-requires : goal.into_book-requires
into_book-requires g c =
    let m = c.close_where_unclosed.new.station in let r = c.run_out-left in let W = g.W.ValueWork in
    ran_complete (MayLeave W.may W.takes) (GivesBack W.takes) c.args.limit r.result m.worker r.new.station.worker r.ensures.runs
    c.close_where_unclosed.ensures.closed (omega (arith, c.if-left-gt0.false))

pub returns : goal.returns
returns g c =
    let m = c.close_where_unclosed in let r = c.run_out-left in let e = r.ensures in let b = c.into_book in let W = g.W.ValueWork in
    let along = along_on (DealsInStep W.given W.may W.takes) c.args.self m.new.station r.new.station m.ensures.deals e.deals in
    record {
      outcome = destroys (MayLeave W.may W.takes) (GivesBack W.takes) c.args.limit r.result c.args.self.worker m.new.station.worker r.new.station.worker
          m.ensures.closes e.runs e.same e.legal (HasRunPairs W.log b.result.1.brought) b.result.0 b.result.1.book m.ensures.closed
          (omega (arith, c.if-left-gt0.false)) b.ensures.work b.ensures.book b.ensures.ran;
      deals = record {
        last = r.new.station;
        along = along;
        complete = ran_complete (MayLeave W.may W.takes) (GivesBack W.takes) c.args.limit r.result m.new.station.worker r.new.station.worker e.runs
            m.ensures.closed (omega (arith, c.if-left-gt0.false));
        work_is = b.ensures.work;
        book_is = b.ensures.book;
        brought_is = b.ensures.brought;
      };
      done = λ is. refl;
      learnt = rw (b.ensures.brought) (along_learnt W.given W.may W.takes c.args.self r.new.station c.legal.ensures.matches along).more;
      given = rw (b.ensures.work) (along_given W.given W.may W.takes c.args.self r.new.station along);
    }

pub returns-then-left-gt0 : goal.returns-then-left-gt0
returns-then-left-gt0 g c =
    let m = c.close_where_unclosed in let r = c.run_out-left in let e = r.ensures in let W = g.W.ValueWork in
    let along = along_on (DealsInStep W.given W.may W.takes) c.args.self m.new.station r.new.station m.ensures.deals e.deals in
    record {
      outcome = leaves_unfinished (MayLeave W.may W.takes) (GivesBack W.takes) c.args.limit r.result c.args.self.worker m.new.station.worker
          r.new.station.worker m.ensures.closes e.runs e.same e.legal m.ensures.closed (omega (arith, c.if-left-gt0.true));
      deals = along;
      done = λ is.
          let none = e.done (closes_out c.args.self.worker m.new.station.worker m.ensures.closes is) in absurd (omega (arith, none, c.if-left-gt0.true));
      learnt = along_learnt W.given W.may W.takes c.args.self r.new.station c.legal.ensures.matches along;
      given = along_given W.given W.may W.takes c.args.self r.new.station along;
    }
