use Rattle.wq_delay.proofs.Common.{◌≡◌, ◌-◌, min, refl, ◌∙◌, arith, nat_tests, remaining}
use Rattle.wq_delay.proofs.Slots.{looking_on_init, looking_on_more, looking_on_end}
use Rattle.wq_delay.proofs.Tidied.{grows_none, grows_twice}
use Rattle.wq_delay.proofs.timetable.look_on.Goals as goal

pub loop-after-init : goal.loop-after-init
loop-after-init c = (
  looking_on_init c.args.places.now c.args.rings.now.next.items c.args.rings.now.previous.items (remaining c.args.places.now c.args.row.now.items)
      c.args.tick c.args.now c.requires.gathering,
  c.requires.room,
  refl,
  grows_none c.args.places.now c.args.row.now.items,
  c.requires.earliest,
)

pub look_at-requires-clause-gathering : goal.look_at-requires-clause-gathering
look_at-requires-clause-gathering c = c.loop-after.invariant.0.gathering

pub look_at-requires-clause-room : goal.look_at-requires-clause-room
look_at-requires-clause-room c = c.loop-after.invariant.1

pub look_at-requires-clause-earliest : goal.look_at-requires-clause-earliest
look_at-requires-clause-earliest c = c.loop-after.invariant.4

pub loop-after-preserved : goal.loop-after-preserved
loop-after-preserved c =
    let l = c.loop-after in let next = l.rings.next.items in let previous = l.rings.previous.items in let row = remaining c.args.places.now l.row.items in (
      looking_on_more c.args.places.now next previous c.look_at.new.rings.next.items c.look_at.new.rings.previous.items
          (remaining c.args.places.now c.args.row.now.items) row (remaining c.args.places.now c.look_at.new.row.items)
          c.args.tick c.args.now l.after _ l.invariant.0 (omega arith) c.look_at.ensures.gathering c.look_at.ensures.fewer
          c.look_at.ensures.clean,
      c.look_at.ensures.room,
      omega (arith, l.invariant.2),
      grows_twice c.args.places.now c.args.row.now.items l.row.items c.look_at.new.row.items l.invariant.3 c.look_at.ensures.grows,
      c.look_at.ensures.earliest,
    )

pub returns-clause-gathering : goal.returns-clause-gathering
returns-clause-gathering c = c.loop-after.invariant.0.gathering

pub returns-clause-room : goal.returns-clause-room
returns-clause-room c = c.loop-after.invariant.1

pub returns-clause-done : goal.returns-clause-done
returns-clause-done c =
    let is : c.min-ticks.result ≡ min (c.args.now - c.args.tick) 256 = c.min-ticks.ensures ∙ (grind (arith, nat_tests)) in
    let l = c.loop-after.invariant in
    looking_on_end c.args.places.now c.loop-after.rings.next.items c.loop-after.rings.previous.items
    (remaining c.args.places.now c.args.row.now.items) (remaining c.args.places.now c.loop-after.row.items) c.args.tick c.args.now c.loop-after.after l.0
    (omega (arith, c.loop-after-test.false, c.loop-after.auto.after-end)) c.requires.ahead

pub returns-clause-looked : goal.returns-clause-looked
returns-clause-looked c =
    let is : c.min-ticks.result ≡ min (c.args.now - c.args.tick) 256 = c.min-ticks.ensures ∙ (grind (arith, nat_tests)) in
    omega (arith, c.loop-after.invariant.2, c.loop-after-test.false, c.loop-after.auto.after-end)

pub returns-clause-grows : goal.returns-clause-grows
returns-clause-grows c = c.loop-after.invariant.3

pub returns-clause-earliest : goal.returns-clause-earliest
returns-clause-earliest c = c.loop-after.invariant.4
