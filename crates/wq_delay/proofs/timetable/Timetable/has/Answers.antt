use Rattle.wq_delay.proofs.Common.{◌<◌, sym, ap, ◌∙◌, subst, on_table, Rows}
use Rattle.wq_delay.proofs.Standing.{is_on}
use Rattle.wq_delay.proofs.timetable.Timetable.has.Goals as goal

pub returns : goal.returns
returns c =
    let low = subst (λ (z : Rows). c.args.item < z.size) (sym c.self.view_is) c.requires in
    c.is_some.ensures
    ∙ (is_on c.self.invariant.0 c.args.item low _ c.index.ensures ∙ ap (λ (z : Rows). on_table c.args.item z.entries) c.self.view_is)
