use Rattle.wq_delay.proofs.Common.{◌≡◌, min, ◌∙◌, arith, nat_tests}
use Rattle.wq_delay.proofs.Earliest.{passing_init, passing_end, passing_here, passing_more, passing_nearer}
use Rattle.wq_delay.proofs.timetable.earliest_in.Goals.{in-Some, in_default}
use Rattle.wq_delay.proofs.timetable.earliest_in.Goals as goal

pub index-item-requires : goal.index-item-requires
index-item-requires c = omega (arith, c.requires.wheel.1.next_length, c.requires.head, c.args.rings.now.next.ok.0)

pub loop-item-init : goal.loop-item-init
loop-item-init c =
    let h = c.requires.head in
    λ es wheel. passing_init _ _ _ es _ h.0 h.1 wheel _ c.index-item.result.now c.index-item.ensures

pub bounds-places-item : goal.bounds-places-item
bounds-places-item c =
    let h = c.requires.head in let w = c.requires.wheel in
    (passing_here _ _ _ w.0 _ h.0 h.1 w.1 (c.loop-item.invariant w.0 w.1) c.loop-item-test.true).0

pub index-item-requires-in-loop-item : goal.index-item-requires-in-loop-item
index-item-requires-in-loop-item c =
    let w = c.requires.wheel in let l = c.loop-item.invariant w.0 w.1 in
    omega (arith, l.low, w.1.next_length, c.args.rings.now.next.ok.0)

pub loop-item-preserved : goal.loop-item-preserved
loop-item-preserved c =
    let h = c.requires.head in let places = c.args.places.now in let ne = c.loop-item-test.true in
    let next = c.args.rings.now.next.items in let previous = c.args.rings.now.previous.items in
    let z = c.index-item-in-loop-item.result.now in let read = c.index-item-in-loop-item.ensures in
    λ es wheel. elim c.match-places-item.branch [
      | in-Some w ↦
          let least : w.min-earliest.result ≡ min c.loop-item.earliest w.in-Some.place.due = w.min-earliest.ensures ∙ (grind (arith, nat_tests)) in
          rw w.earliest-is
          (passing_more places next previous es c.args.head h.0 h.1 wheel (c.loop-item.invariant es wheel) ne w.min-earliest.result w.in-Some.place
          w.in-Some.is least z read)
      | in_default w ↦
          let some = (passing_here places next previous es c.args.head h.0 h.1 wheel (c.loop-item.invariant es wheel) ne).1 in
          let none = w.in_default.is in absurd (cc)
    ]

pub loop-item-smaller : goal.loop-item-smaller
loop-item-smaller c =
    let h = c.requires.head in let w = c.requires.wheel in
    passing_nearer _ _ _ w.0 _ h.0 h.1 w.1 (c.loop-item.invariant w.0 w.1) c.loop-item-test.true
    c.index-item-in-loop-item.result.now c.index-item-in-loop-item.ensures

pub returns : goal.returns
returns c =
    let h = c.requires.head in
    λ es wheel. passing_end _ _ _ es _ h.0 h.1 wheel _ c.loop-item.item (c.loop-item.invariant es wheel) c.loop-item-test.false
