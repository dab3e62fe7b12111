use Rattle.wq_delay.proofs.Common.{◌≡◌, ◌-◌, ◌<◌, ◌≤◌, get_or, set, is_some, Some, None, vec_capacity, sym, ap, ◌∙◌, subst, arith, get_or_read, without}
use Rattle.wq_delay.proofs.Common.{on_table, without_off, entries_of, IsTimetable, AreEarliest, Rows, later_than, place_in}
use Rattle.wq_delay.specs.declared.timetable.Timetable.TheInside.{Inside}
use Rattle.wq_delay.proofs.Standing.{is_on, take_entries, take_timetable, take_waiting, take_due, take_counted}
use Rattle.wq_delay.proofs.Earliest.{earliest_taken}
use Rattle.wq_delay.proofs.timetable.Timetable.take.Goals.{then-place-self, else-place-self}
use Rattle.wq_delay.proofs.timetable.Timetable.take.Goals as goal

pub returns-in_default-clause-answer : goal.returns-in_default-clause-answer
returns-in_default-clause-answer c =
    let low = subst (λ (z : Rows). c.args.item < z.size) (sym c.self.view_is) c.requires in
    sym (ap is_some c.in_default.is)
    ∙ (is_on c.self.invariant.0 c.args.item low _ c.index.ensures ∙ ap (λ (z : Rows). on_table c.args.item z.entries) c.self.view_is)

pub returns-in_default-clause-entries : goal.returns-in_default-clause-entries
returns-in_default-clause-entries c = sym (without_off c.args.item c.args.self.now.entries (sym (returns-in_default-clause-answer c)))

pub overflow_sub-self : goal.overflow_sub-self
overflow_sub-self c =
    let i = c.self.inside in let low = subst (λ (z : Rows). c.args.item < z.size) (sym c.self.view_is) c.requires in
    let some : get_or i.places.items c.args.item None ≡ Some c.in-Some.place = sym (get_or_read i.places.items _ _ low c.index.ensures None) ∙ c.in-Some.is in
    let counted = take_counted c.self.invariant.0 c.args.item low some in
    elim c.if-place-self.branch [
      | then-place-self w ↦ subst (λ (z : Inside). 1 ≤ z.count) (sym w.self-inside-is) counted
      | else-place-self w ↦ subst (λ (z : Inside). 1 ≤ z.count) (sym w.self-inside-is) counted
    ]

pub invariant_of-self : goal.invariant_of-self
invariant_of-self c =
    let i = c.self.inside in let low = subst (λ (z : Rows). c.args.item < z.size) (sym c.self.view_is) c.requires in
    let some : get_or i.places.items c.args.item None ≡ Some c.in-Some.place = sym (get_or_read i.places.items _ _ low c.index.ensures None) ∙ c.in-Some.is in
    let counted = take_counted c.self.invariant.0 c.args.item low some in
    let after = λ (z : Inside). IsTimetable (set z.places.items c.args.item None) z.rings.next.items z.rings.previous.items z.row.items
    (vec_capacity z.row) z.front (z.count - 1) z.tick
    × AreEarliest z.earliest.items (λ k. later_than z.tick (place_in (set z.places.items c.args.item None) k)) in
    let earliest = earliest_taken i.earliest.items i.places.items i.tick c.args.item c.self.invariant.1 low in
    elim c.if-place-self.branch [
      | then-place-self w ↦ subst after (sym w.self-inside-is) (
        take_timetable c.self.invariant.0 c.args.item low some w.take_out.new.self.next.items w.take_out.new.self.previous.items (i.count - 1)
            (omega arith) (take_waiting c.self.invariant.0 c.args.item low some w.take_out.new.self.next.items w.take_out.new.self.previous.items
            w.if-place-self.true w.take_out.ensures.next w.take_out.ensures.previous),
        earliest,
      )
      | else-place-self w ↦ subst after (sym w.self-inside-is) (
        take_timetable c.self.invariant.0 c.args.item low some i.rings.next.items i.rings.previous.items (i.count - 1) (omega arith)
            (take_due c.self.invariant.0 c.args.item low some w.if-place-self.false),
        earliest,
      )
    ]

pub returns-clause-answer : goal.returns-clause-answer
returns-clause-answer c =
    let low = subst (λ (z : Rows). c.args.item < z.size) (sym c.self.view_is) c.requires in
    sym (ap is_some c.in-Some.is)
    ∙ (is_on c.self.invariant.0 c.args.item low _ c.index.ensures ∙ ap (λ (z : Rows). on_table c.args.item z.entries) c.self.view_is)

pub returns-clause-entries : goal.returns-clause-entries
returns-clause-entries c =
    let i = c.self.inside in let low = subst (λ (z : Rows). c.args.item < z.size) (sym c.self.view_is) c.requires in
    let some : get_or i.places.items c.args.item None ≡ Some c.in-Some.place = sym (get_or_read i.places.items _ _ low c.index.ensures None) ∙ c.in-Some.is in
    let entries = take_entries c.self.invariant.0 c.args.item low some ∙ ap (λ (z : Rows). without c.args.item z.entries) c.self.view_is in
    let after = λ (z : Inside). entries_of (set z.places.items c.args.item None) ≡ without c.args.item c.args.self.now.entries in
    elim c.if-place-self.branch [
      | then-place-self w ↦ subst after (sym w.self-inside-is) entries
      | else-place-self w ↦ subst after (sym w.self-inside-is) entries
    ]
