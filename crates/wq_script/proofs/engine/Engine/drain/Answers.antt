use Rattle.std.proofs.lemmas.Result.{on_ok_weaker}
use Rattle.wq_script.proofs.Common.{◌∙◌, ◌++◌, ◌≤◌, sym, ap, refl, arith, string_bytes, subst, codes, None, append_assoc, line, row_text, left_text, ends_at}
use Rattle.wq_script.proofs.Common.{ended_since, ScriptState, after_row, wrote, drained, drain_open, drain_closed, Meets, size, executions_few}
use Rattle.wq_text.specs.declared.command.Command.TheVariants as command
use Rattle.wq_meaning.specs.declared.report.ReportCounts.{ReportCounts}
use Rattle.wq_script.proofs.Meetings.{engine, ran_meets}
use Rattle.wq_script.proofs.engine.Engine.drain.Goals as goal

pub returns-then-not-is_closed : goal.returns-then-not-is_closed
returns-then-not-is_closed c =
    let e = c.args.self.now in
    on_ok_weaker c.write_line.result (λ written. record {
      layout = refl;
      meets = λ s m.
          let so = drain_open e.layout s c.args.limit (sym (c.is_closed.ensures e.layout s.history m.seated) ∙ c.if-not-is_closed.true) in
          subst (λ (t : ScriptState). Meets e t) (sym so.0) m;
      lines = λ s m few.
          let so = drain_open e.layout s c.args.limit (sym (c.is_closed.ensures e.layout s.history m.seated) ∙ c.if-not-is_closed.true) in
          wrote e.layout s s (command.Drain c.args.limit) _ _ (line (codes "not closed")) so.0 so.1 written;
      room = λ s m.
          let so = drain_open e.layout s c.args.limit (sym (c.is_closed.ensures e.layout s.history m.seated) ∙ c.if-not-is_closed.true) in
          omega (arith, ap size so.0);
    }) c.write_line.ensures.written

pub counts-requires : goal.counts-requires
counts-requires c =
    let e = c.args.self.now in let s = c.requires.ready.0 in let m = c.requires.ready.1 in
    let r = ran_meets e.layout e.seats c.run.new.self e.tally s c.args.limit (ends_at None) c.in_ok-ran.ran.items m
    (c.in_ok-ran.ensures s.history m.seated m.idle m.lists) in
    record {
      ready = (
        drained e.layout s c.args.limit,
        r.0,
        omega
            (arith, executions_few e.layout.senders s.follows (ends_at None) c.args.limit s.history m.short, c.ranges.limit, c.requires.ready.2),
      );
    }

pub returns : goal.returns
returns c =
    let e = c.args.self.now in
    on_ok_weaker c.write_left.result (λ written. record {
      layout = refl;
      meets = λ s m.
          let so = drain_closed e.layout s c.args.limit (sym (c.is_closed.ensures e.layout s.history m.seated) ∙ c.if-not-is_closed.false) in
          let r = ran_meets e.layout e.seats c.run.new.self e.tally s c.args.limit (ends_at None) c.in_ok-ran.ran.items m
          (c.in_ok-ran.ensures s.history m.seated m.idle m.lists) in
          subst (λ (t : ScriptState). Meets (engine e.layout c.run.new.self e.tally) t) (sym so.0) r.0;
      lines = λ s m few.
          let so = drain_closed e.layout s c.args.limit (sym (c.is_closed.ensures e.layout s.history m.seated) ∙ c.if-not-is_closed.false) in
          let r = ran_meets e.layout e.seats c.run.new.self e.tally s c.args.limit (ends_at None) c.in_ok-ran.ran.items m
          (c.in_ok-ran.ensures s.history m.seated m.idle m.lists) in
          let row = c.in_ok-write_row.ensures.written ∙ ap (λ ks. string_bytes c.args.out.now ++ row_text e.layout (codes "ran") ks)
          (c.deref.ensures.value ∙ r.1) in
          let size_now : size (drained e.layout s c.args.limit) ≤ 2305843009213693952 =
          omega (arith, executions_few e.layout.senders s.follows (ends_at None) c.args.limit s.history m.short, c.ranges.limit, few) in
          let left = ap (λ (counts : ReportCounts). counts.waiting) (c.counts.ensures (drained e.layout s c.args.limit) r.0 size_now) in
          wrote e.layout s (drained e.layout s c.args.limit) (command.Drain c.args.limit) _ _ _ so.0 so.1
          (written ∙ (ap (λ x. x ++ line (left_text c.counts.result.waiting)) row ∙ (append_assoc (string_bytes c.args.out.now) _ _
          ∙ ap (λ n. string_bytes c.args.out.now ++
          (row_text e.layout (codes "ran") (ended_since s.history (after_row e.layout s c.args.limit None)) ++ line (left_text n))) left)));
      room = λ s m.
          let so = drain_closed e.layout s c.args.limit (sym (c.is_closed.ensures e.layout s.history m.seated) ∙ c.if-not-is_closed.false) in
          omega (arith, ap size so.0, executions_few e.layout.senders s.follows (ends_at None) c.args.limit s.history m.short, c.ranges.limit);
    }) c.write_left.ensures.written
