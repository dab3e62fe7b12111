use Rattle.wq_worker.proofs.Common.{ℕ, ◌<◌, subst, arith, IsClosed, RowBy, IsExecution}
use Rattle.wq_worker.specs.Rows.{onward}
use Rattle.wq_worker.proofs.Rows.{one_step, along_on, worker_on, shuts_same, resumes_same, resumes_legal, shuts_unclosed, resumes_open, resumes_unclosed, row_unclosed, ran_out, ran_complete}
use Rattle.wq_worker.proofs.Going.{drained_ended, shuts_closed, resumes_complete}
use Rattle.wq_worker.proofs.serving.drain.Goals as goal

pub resume_where_draining-requires : goal.resume_where_draining-requires
resume_where_draining-requires g c =
    let s = g.S.Station in let e = c.run_out-left.ensures in
    ran_out s.may s.gives c.args.limit c.run_out-left.result (s.state c.drain_where_open.new.self) (s.state c.run_out-left.new.station) e.runs e.shut
    (omega (arith, c.if-left-gt0.false))

pub returns-then-left-gt0 : goal.returns-then-left-gt0
returns-then-left-gt0 g c =
    let s = g.S.Station in let a = s.state c.args.station.now in let m = s.state c.drain_where_open.new.self in
    let b = s.state c.run_out-left.new.station in let shuts = c.drain_where_open.ensures.shuts in let e = c.run_out-left.ensures in
    let r = e.runs in let some : 0 < c.run_out-left.result = omega (arith, c.if-left-gt0.true) in
    record {
      drains = record {
        began = m;
        shuts = shuts;
        row = subst (λ (n : ℕ). RowBy s.may s.gives IsExecution n m b) (r.stops some) r.row;
        some_left = some;
        left_is = r.left_is;
      };
      «open» = λ is. absurd (cc);
      shut = λ left is. e.shut;
      none = λ is. absurd (cc);
      ended = λ is. absurd (cc);
      complete = λ is. absurd (cc);
      unclosed = λ not. row_unclosed s.may s.gives IsExecution r.steps m b r.row (shuts_unclosed a m shuts not);
      same = worker_on a m b (shuts_same a m shuts) e.same;
      legal = e.legal;
      deals = along_on s.deals c.args.station.now c.drain_where_open.new.self c.run_out-left.new.station
          (one_step s.deals c.args.station.now c.drain_where_open.new.self c.drain_where_open.ensures.deals) e.deals;
    }

pub returns : goal.returns
returns g c =
    let s = g.S.Station in let a = s.state c.args.station.now in let m = s.state c.drain_where_open.new.self in
    let b = s.state c.run_out-left.new.station in let d = s.state c.resume_where_draining.new.self in
    let shuts = c.drain_where_open.ensures.shuts in let e = c.run_out-left.ensures in let r = e.runs in
    let t = c.resume_where_draining.ensures.resumes in
    let unclosed : ¬ IsClosed a.seen → ¬ IsClosed b.seen = λ not. row_unclosed s.may s.gives IsExecution r.steps m b r.row (shuts_unclosed a m shuts not) in
    let out = ran_out s.may s.gives c.args.limit c.run_out-left.result m b r e.shut (omega (arith, c.if-left-gt0.false)) in
    record {
      drains = record {
        began = m;
        last = b;
        steps = r.steps;
        shuts = shuts;
        within = r.within;
        row = r.row;
        run_out = out;
        resumes = t;
      };
      «open» = λ is not. resumes_open b d t (unclosed not);
      shut = λ left is. absurd (cc);
      none = λ is. c.resume_where_draining.ensures.none;
      ended = λ is. drained_ended s.may s.gives IsExecution r.steps a m b d shuts r.row e.legal out t;
      complete = λ is closed. resumes_complete b d t (ran_complete s.may s.gives c.args.limit c.run_out-left.result m b r
          (shuts_closed a m shuts closed) (omega (arith, c.if-left-gt0.false)));
      unclosed = λ not. resumes_unclosed b d t (unclosed not);
      same = worker_on a b d (worker_on a m b (shuts_same a m shuts) e.same) (resumes_same b d t);
      legal = resumes_legal b d e.legal t;
      deals = onward c.args.station.now c.run_out-left.new.station c.resume_where_draining.new.self
          (along_on s.deals c.args.station.now c.drain_where_open.new.self c.run_out-left.new.station
          (one_step s.deals c.args.station.now c.drain_where_open.new.self c.drain_where_open.ensures.deals) e.deals)
          c.resume_where_draining.ensures.deals;
    }
