use Rattle.wq_delay.proofs.Common.{◌≡◌, ◌-◌, min, map, ◌∙◌, arith, rules, nat_tests, entry_of}
use Rattle.wq_delay.proofs.Found.{found_due}
use Rattle.wq_delay.proofs.timetable.find_on.Goals as goal

pub returns : goal.returns
returns c =
    let ticks : c.saturating_sub.result ≡ c.args.now - c.args.tick = search rules in
    let is : c.min-ticks.result ≡ min (c.args.now - c.args.tick) 256 = c.min-ticks.ensures ∙ (grind (arith, nat_tests)) in
    let end = c.loop-after-test.false in let last = c.loop-after.auto.after-end in
    found_due c.args.places.now c.args.tick c.args.now c.loop-after.after (map entry_of c.loop-after.found.items) (omega arith) c.loop-after.invariant
