use Rattle.wq_delay.proofs.Common.{◌≡◌, ◌+◌, List, length, replicate, None, vec_capacity, Option, sym, refl, subst, arith, rules, DuePlace, DueItem, IsTimetable}
use Rattle.wq_delay.proofs.Earliest.{earliest_new}
use Rattle.wq_delay.proofs.Starting.{nothing_in, no_entries, timetable_new}
use Rattle.wq_delay.proofs.timetable.Timetable.new.Goals as goal

pub invariant_of-result : goal.invariant_of-result
invariant_of-result c =
    let places : List (Option DuePlace) = c.in_ok-vec.field-0.items in
    let is : places ≡ replicate c.args.size None = c.in_ok-vec.ensures.items_if_clones_equal (λ y clone. search rules) in
    let size : length places ≡ c.args.size = omega (arith, c.in_ok-vec.ensures.len, c.in_ok-vec.field-0.ok.0) in (
      subst (λ (z : List DueItem). IsTimetable places c.in_ok-new.field-0.next.items c.in_ok-new.field-0.previous.items z
          (vec_capacity c.in_ok-with_capacity.field-0) 0 0 c.args.now) (sym c.in_ok-with_capacity.ensures.items)
          (timetable_new places c.args.size is size c.in_ok-new.field-0.next.items c.in_ok-new.field-0.previous.items (c.args.size + 256)
          (vec_capacity c.in_ok-with_capacity.field-0) c.args.now c.requires refl c.in_ok-new.ensures.next c.in_ok-new.ensures.previous
          (omega (arith, c.in_ok-with_capacity.ensures.exact))),
      earliest_new c.in_ok-idle_slots.field-0.items places c.args.now c.in_ok-idle_slots.ensures (nothing_in places c.args.size is size),
    )

pub returns : goal.returns
returns c =
    let places : List (Option DuePlace) = c.in_ok-vec.field-0.items in
    let is : places ≡ replicate c.args.size None = c.in_ok-vec.ensures.items_if_clones_equal (λ y clone. search rules) in
    let size : length places ≡ c.args.size = omega (arith, c.in_ok-vec.ensures.len, c.in_ok-vec.field-0.ok.0) in
    (size, no_entries places c.args.size is size, refl)
