use Rattle.std.proofs.lemmas.Result.{on_ok_weaker}
use Rattle.wq_script.proofs.Common.{◌∙◌, ◌++◌, ◌≤◌, ap, arith, string_bytes, codes, append_assoc, line, row_text, left_text, ended_since}
use Rattle.wq_script.proofs.Common.{ScriptState, after_drain, size}
use Rattle.wq_meaning.specs.declared.report.ReportCounts.{ReportCounts}
use Rattle.wq_script.proofs.Drains.{drain_few}
use Rattle.wq_script.proofs.engine.Engine.drain_and_resume.Goals as goal

pub counts-requires : goal.counts-requires
counts-requires c =
    let e = c.args.self.now in let s = c.requires.ready.0 in let m = c.requires.ready.1 in
    record {
      ready = (
        record s { history = after_drain e.layout s c.args.limit },
        c.in_ok-ran.ensures.meets s m,
        omega (arith, drain_few e.layout s c.args.limit m.short, c.ranges.limit, c.requires.ready.2),
      );
    }

pub returns : goal.returns
returns c =
    let e = c.args.self.now in
    let d = c.in_ok-ran.ensures in
    on_ok_weaker c.write_left.result (λ written. record {
      layout = d.layout;
      meets = d.meets;
      lines = λ s m few.
          let t : ScriptState = record s { history = after_drain e.layout s c.args.limit } in
          let row = c.in_ok-write_row.ensures.written ∙ (λ i. string_bytes c.args.out.now ++ row_text (d.layout i) (codes "ran")
          ((c.deref.ensures.value ∙ d.ran_is s m) i)) in
          let size_now : size t ≤ 2305843009213693952 = omega (arith, drain_few e.layout s c.args.limit m.short, c.ranges.limit, few) in
          let left = ap (λ (counts : ReportCounts). counts.waiting) (c.counts.ensures t (d.meets s m) size_now) in
          written ∙ (ap (λ x. x ++ line (left_text c.counts.result.waiting)) row ∙ (append_assoc (string_bytes c.args.out.now) _ _
          ∙ ap (λ n. string_bytes c.args.out.now ++
          (row_text e.layout (codes "ran") (ended_since s.history t.history) ++ line (left_text n))) left));
      room = λ s m. omega (arith, drain_few e.layout s c.args.limit m.short, c.ranges.limit);
    }) c.write_left.ensures.written
