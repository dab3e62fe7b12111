use Rattle.wq_recording.proofs.Common.{length, sym, ◌∙◌, refl, arith}
use Rattle.std.proofs.lemmas.Bool.{eqb-true}
use Rattle.std.proofs.lemmas.List.{nil_from_length}
use Rattle.std.proofs.lemmas.Result.{err_from_is_err_and, IfOk-weaker, IfErr-weaker}
use Rattle.wq_recording.proofs.LastLine.{last_long, last_cut, ends_refused}
use Rattle.wq_recording.proofs.Telling.{told_legal}
use Rattle.wq_recording.proofs.judging.last.Goals as goal

pub returns-then-rest-gt-MOST_LINE_BYTES-clause-refused : goal.returns-then-rest-gt-MOST_LINE_BYTES-clause-refused
returns-then-rest-gt-MOST_LINE_BYTES-clause-refused g c = rw c.refused.ensures (refl, last_long c.args.awaited c.args.rest.now (omega arith))

pub returns-then-not-is_empty-clause-refused : goal.returns-then-not-is_empty-clause-refused
returns-then-not-is_empty-clause-refused g c =
    let some = sym c.is_empty.ensures ∙ c.if-not-is_empty.true in
    rw c.refused-then-not-is_empty.ensures (refl, last_cut c.args.awaited c.args.rest.now (omega arith) some)

pub returns-in_err-layout-clause-refused : goal.returns-in_err-layout-clause-refused
returns-in_err-layout-clause-refused g c =
    let rest = c.args.rest.now in
    let none = nil_from_length rest (eqb-true (length rest) 0 (sym c.is_empty.ensures ∙ c.if-not-is_empty.false)) in
    let p = err_from_is_err_and c.from_residual.result c.from_residual.ensures.1 in
    rw (p.1, p.2) (ends_refused c.args.awaited c.args.number rest c.in_err-layout.field-0.0 none c.in_err-layout.ensures.refused)

-- the end of the text behind a whole header; an error is want of memory
pub returns : goal.returns
returns g c =
    let r = g.L.Recording in
    let laws = g.met.L.Recording in
    let done = c.found_so_far.ensures in
    let layout = c.in_ok-layout.layout in
    let whole = c.in_ok-layout.ensures.whole in
    let none = nil_from_length c.args.rest.now (eqb-true (length c.args.rest.now) 0 (sym c.is_empty.ensures ∙ c.if-not-is_empty.false)) in
    record {
      whole = IfOk-weaker c.found_so_far.result _ _ (λ finding violation. none) done.violation;
      violation = done.violation;
      found = IfOk-weaker c.found_so_far.result _ _ (λ finding says. (
        layout,
        whole,
        λ h told. (
          told_legal r.rules r.layout_of r.is_after laws.begins laws.legal c.args.awaited layout c.args.checker.now h whole c.requires told,
          says h told,
        ),
      )) done.says;
      refused = IfErr-weaker c.found_so_far.result _ _ (λ error is. rw is tt) done.memory;
    }
