use Rattle.wq_worker.proofs.Common.{arith, refl, stays}
use Rattle.wq_worker.specs.Destroy.{HasRunAccepted}
use Rattle.wq_worker.proofs.Destroy.{destroys, leaves_unfinished}
use Rattle.wq_worker.proofs.Going.{closes_out}
use Rattle.wq_worker.proofs.Rows.{ran_complete}
use Rattle.wq_worker.proofs.worker.Worker.destroy.Goals as goal

pub into_book-requires : goal.into_book-requires
into_book-requires g c =
    ran_complete g.W.Work.may stays c.args.limit c.run_out-left.result c.close_where_unclosed.new.station c.run_out-left.new.station
    c.run_out-left.ensures.runs c.close_where_unclosed.ensures.closed (omega (arith, c.if-left-gt0.false))

pub returns : goal.returns
returns g c =
    let m = c.close_where_unclosed in let r = c.run_out-left in let e = r.ensures in let b = c.into_book.ensures.book in
    record {
      outcome = destroys g.W.Work.may stays c.args.limit r.result c.args.self m.new.station r.new.station m.ensures.closes e.runs e.same e.legal
          (HasRunAccepted g.W.Work.log) c.into_book.result.0 c.into_book.result.1 m.ensures.closed (omega (arith, c.if-left-gt0.false))
          c.into_book.ensures.work b (rw (b.1, b.2) c.into_book.ensures.logged);
      done = λ is. refl;
    }

pub returns-then-left-gt0 : goal.returns-then-left-gt0
returns-then-left-gt0 g c =
    let m = c.close_where_unclosed in let r = c.run_out-left in let e = r.ensures in
    record {
      outcome = leaves_unfinished g.W.Work.may stays c.args.limit r.result c.args.self m.new.station r.new.station m.ensures.closes e.runs e.same
          e.legal m.ensures.closed (omega (arith, c.if-left-gt0.true));
      done = λ is. let none = e.done (closes_out c.args.self m.new.station m.ensures.closes is) in absurd (omega (arith, none, c.if-left-gt0.true));
    }
