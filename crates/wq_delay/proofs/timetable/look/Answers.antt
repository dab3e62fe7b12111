use Rattle.wq_delay.proofs.Common.{[], vec_capacity, arith, DueItem}
use Rattle.wq_delay.proofs.Looking.{item_off, looking_pass, looking_take, nearer_read, item_here, looking_init, looking_end}
use Rattle.wq_delay.proofs.Fitting.{row_has_room}
use Rattle.wq_delay.proofs.Tidied.{item_stands, standing_more, room_more, grows_none, grows_more}
use Rattle.wq_delay.proofs.timetable.look.Goals as goal

pub index-item-requires : goal.index-item-requires
index-item-requires c = omega (arith, c.requires.gathering.wheel.next_length, c.requires.head, c.args.rings.now.next.ok.0)

pub loop-item-init : goal.loop-item-init
loop-item-init c =
    let r = c.requires in (
      looking_init _ _ _ [] _ c.args.head _ r.head.0 r.head.1 r.gathering c.index-item.result.now c.index-item.ensures,
      r.room,
      grows_none c.args.places.now c.args.row.now.items,
    )

pub index-after-requires : goal.index-after-requires
index-after-requires c =
    let l = c.loop-item.invariant.0 in omega (arith, l.low, l.gathering.wheel.next_length, c.loop-item.rings.next.ok.0)

pub bounds : goal.bounds
bounds c = let h = c.requires.head in (item_here _ _ _ _ _ _ _ h.0 h.1 c.loop-item.invariant.0 c.loop-item-test.true).0

pub bounds-places-item : goal.bounds-places-item
bounds-places-item c = let h = c.requires.head in (item_here _ _ _ _ _ _ _ h.0 h.1 c.loop-item.invariant.0 c.loop-item-test.true).0

pub take_out-requires-clause-place : goal.take_out-requires-clause-place
take_out-requires-clause-place c =
    let l = c.loop-item.invariant.0 in let w = l.gathering.wheel in (omega (arith, l.low, w.next_length), omega (arith, l.low, w.previous_length))

pub take_out-requires-clause-next : goal.take_out-requires-clause-next
take_out-requires-clause-next c =
    let l = c.loop-item.invariant.0 in let w = l.gathering.wheel in omega (arith, w.rings.next_low c.loop-item.item l.low, w.previous_length)

pub take_out-requires-clause-previous : goal.take_out-requires-clause-previous
take_out-requires-clause-previous c =
    let l = c.loop-item.invariant.0 in let w = l.gathering.wheel in omega (arith, w.rings.previous_low c.loop-item.item l.low, w.next_length)

pub push_reserved-requires : goal.push_reserved-requires
push_reserved-requires c =
    let l = c.loop-item.invariant.0 in let enough = c.loop-item.invariant.1 in let h = c.requires.head in
    let room = row_has_room c.args.places.now _ c.loop-item.item c.in-Some.place (record { valid = l.gathering.valid; single = l.gathering.single })
    (item_off _ _ _ _ _ _ _ h.0 h.1 l c.loop-item-test.true) c.in-Some.is in
    omega (arith, room, enough.enough, enough.few_gone, c.loop-item.row.ok.0)

pub loop-item-preserved-then-place-now : goal.loop-item-preserved-then-place-now
loop-item-preserved-then-place-now c =
    let l = c.loop-item.invariant.0 in let x = c.loop-item.item in let h = c.requires.head in let ne = c.loop-item-test.true in
    let row = c.loop-item.row in let places = c.args.places.now in let new = c.push_reserved.new.self in let more = c.push_reserved.ensures.items in
    let e : DueItem = record { place = c.in-Some.place; item = x } in
    let stands_there = item_stands places e c.in-Some.is in (
      looking_take _ _ _ _ _ _ _ h.0 h.1 l ne c.in-Some.is c.if-place-now.true (standing_more places row.items new.items e more stands_there)
          c.take_out.ensures.next c.take_out.ensures.previous c.index-after.result.now c.index-after.ensures,
      room_more places row.items new.items e (vec_capacity row) (vec_capacity new) c.loop-item.invariant.1 more stands_there
          (omega (arith, c.push_reserved.ensures.capacity)),
      grows_more places c.args.row.now.items row.items new.items e c.loop-item.invariant.2 more stands_there,
    )

pub loop-item-preserved-else-place-now : goal.loop-item-preserved-else-place-now
loop-item-preserved-else-place-now c =
    let l = c.loop-item.invariant in let h = c.requires.head in
    (looking_pass _ _ _ _ _ _ _ h.0 h.1 l.0 c.loop-item-test.true c.in-Some.is c.if-place-now.false c.index-after.result.now c.index-after.ensures, l.1, l.2)

pub loop-item-preserved : goal.loop-item-preserved
loop-item-preserved c =
    let h = c.requires.head in
    let some = (item_here _ _ _ _ _ _ _ h.0 h.1 c.loop-item.invariant.0 c.loop-item-test.true).1 in
    let none = c.in_default.is in absurd (cc)

pub loop-item-smaller-then-place-now : goal.loop-item-smaller-then-place-now
loop-item-smaller-then-place-now c =
    let h = c.requires.head in
    nearer_read _ _ _ _ _ _ _ h.0 h.1 c.loop-item.invariant.0 c.loop-item-test.true c.index-after.result.now c.index-after.ensures

pub loop-item-smaller-else-place-now : goal.loop-item-smaller-else-place-now
loop-item-smaller-else-place-now c =
    let h = c.requires.head in
    nearer_read _ _ _ _ _ _ _ h.0 h.1 c.loop-item.invariant.0 c.loop-item-test.true c.index-after.result.now c.index-after.ensures

pub returns-clause-gathering : goal.returns-clause-gathering
returns-clause-gathering c = c.loop-item.invariant.0.gathering

pub returns-clause-room : goal.returns-clause-room
returns-clause-room c = c.loop-item.invariant.1

pub returns-clause-grows : goal.returns-clause-grows
returns-clause-grows c = c.loop-item.invariant.2

pub returns-clause-fewer : goal.returns-clause-fewer
returns-clause-fewer c = c.loop-item.invariant.0.fewer

pub returns-clause-clean : goal.returns-clause-clean
returns-clause-clean c =
    let h = c.requires.head in
    looking_end _ _ _ _ _ _ _ h.0 h.1 c.loop-item.item c.loop-item.invariant.0 c.loop-item-test.false
