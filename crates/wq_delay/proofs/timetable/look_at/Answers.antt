use Rattle.wq_delay.proofs.Common.{arith, remaining}
use Rattle.wq_delay.proofs.Earliest.{clean_passed, earliest_looked}
use Rattle.wq_delay.proofs.timetable.look_at.Goals as goal

pub index-requires : goal.index-requires
index-requires c = omega (arith, c.requires.earliest.slots, c.requires.slot, c.args.earliest.now.ok.0)

pub returns-then-index-now-clause-clean : goal.returns-then-index-now-clause-clean
returns-then-index-now-clause-clean c =
    clean_passed c.args.earliest.now.items c.args.places.now (remaining c.args.places.now c.args.row.now.items) c.requires.earliest c.args.slot
    c.index.result.now c.args.now c.requires.slot c.index.ensures c.if-index-now.true

pub earliest_in-left-requires-clause-wheel : goal.earliest_in-left-requires-clause-wheel
earliest_in-left-requires-clause-wheel c = (remaining c.args.places.now c.look.new.row.items, c.look.ensures.gathering.wheel)

pub returns-clause-earliest : goal.returns-clause-earliest
returns-clause-earliest c =
    let row = remaining c.args.places.now c.look.new.row.items in
    earliest_looked c.args.earliest.now.items c.args.places.now (remaining c.args.places.now c.args.row.now.items) c.requires.earliest c.args.slot row
    c.earliest_in-left.result c.requires.slot c.look.ensures.fewer
    (c.earliest_in-left.ensures row c.look.ensures.gathering.wheel)
