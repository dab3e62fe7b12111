use Rattle.wq_delay.proofs.Common.{◌≡◌, ℕ, ◌+◌, ◌%◌, ◌<◌, false, length, set, slice_index, sym, refl, ap, ◌∙◌, subst, arith, on_table, placed, AreArmedBefore}
use Rattle.wq_delay.proofs.Common.{Rows}
use Rattle.wq_delay.proofs.Standing.{put_entries, put_timetable}
use Rattle.wq_delay.proofs.Serving.{few_entries}
use Rattle.wq_delay.proofs.Earliest.{earliest_put}
use Rattle.wq_delay.proofs.timetable.Timetable.put.Goals as goal

pub overflow_add-self : goal.overflow_add-self
overflow_add-self c =
    let t = c.self.invariant.0 in let few = few_entries c.self.inside.places.items t.apart in
    omega (arith, few, t.few, t.count_is)

pub note-requires : goal.note-requires
note-requires c = c.self.invariant.1.slots

pub invariant_of-self : goal.invariant_of-self
invariant_of-self c =
    let i = c.self.inside in
    let armed = subst (λ (z : Rows). AreArmedBefore c.args.arming z.entries) (sym c.self.view_is) c.requires.last in
    let low = subst (λ (z : Rows). c.args.item < z.size) (sym c.self.view_is) c.requires.item in
    let off = subst (λ (z : Rows). on_table c.args.item z.entries ≡ false) (sym c.self.view_is) c.requires.off in
    let later = subst (λ (z : Rows). z.tick < c.args.due) (sym c.self.view_is) c.requires.later in
    let head : c.len.result + c.args.due % 256 ≡ length i.places.items + c.args.due % 256 = omega (arith, c.len.ensures, i.places.ok.0) in (
      put_timetable c.self.invariant.0 c.args.item low c.args.due c.args.arming off later armed c.put_behind.new.self.next.items
          c.put_behind.new.self.previous.items (i.count + 1) refl
          (subst (λ (z : ℕ). c.put_behind.new.self.next.items ≡ set (set i.rings.next.items (slice_index i.rings.previous.items z) c.args.item) c.args.item z)
          head c.put_behind.ensures.next)
          (subst (λ (z : ℕ). c.put_behind.new.self.previous.items ≡ set (set i.rings.previous.items z c.args.item) c.args.item
          (slice_index i.rings.previous.items z))
          head c.put_behind.ensures.previous),
      earliest_put i.earliest.items c.note.new.earliest.items i.places.items i.tick c.args.item c.args.due c.args.arming c.self.invariant.1 low c.note.ensures,
    )

pub returns-clause-put : goal.returns-clause-put
returns-clause-put c =
    let armed = subst (λ (z : Rows). AreArmedBefore c.args.arming z.entries) (sym c.self.view_is) c.requires.last in
    let low = subst (λ (z : Rows). c.args.item < z.size) (sym c.self.view_is) c.requires.item in
    let off = subst (λ (z : Rows). on_table c.args.item z.entries ≡ false) (sym c.self.view_is) c.requires.off in
    let later = subst (λ (z : Rows). z.tick < c.args.due) (sym c.self.view_is) c.requires.later in
    put_entries c.self.invariant.0 c.args.item low c.args.due c.args.arming off later armed
    ∙ ap (λ (z : Rows). placed (record { due = c.args.due; arming = c.args.arming; item = c.args.item }) z.entries) c.self.view_is
