use Rattle.wq_table.proofs.Common.{ℕ, None, sym, subst, part_at, GoesBy, standing_of}
use Rattle.wq_core.specs.declared.step.Step.TheVariants as step
use Rattle.wq_table.proofs.Steps.{placed, number_placed}
use Rattle.wq_table.proofs.Steps as steps
use Rattle.wq_table.proofs.SlotTold.{deep_in, item_at_part, item_room_in, by_either}
use Rattle.wq_table.proofs.ByKind as by
use Rattle.wq_table.proofs.chair.Chair.begin.Goals as goal

pub and-requires-clause-place : goal.and-requires-clause-place
and-requires-clause-place g c = let s = c.self.inside in let it = c.args.self.now in let sits = c.self.invariant in let view = c.self.view_is in
    let at = g.P.WhichPart.at in let p = part_at at (standing_of it) in
    item_room_in s it sits view at _ c.args.number c.item_place-place.ensures.place c.requires.number

pub and-requires-clause-performs : goal.and-requires-clause-performs
and-requires-clause-performs g c = let s = c.self.inside in let it = c.args.self.now in let sits = c.self.invariant in
    let view = c.self.view_is in let at = g.P.WhichPart.at in let p = part_at at (standing_of it) in let k = c.args.number in
    placed p (λ (n : ℕ). step.Begin) _ k _ _ (item_at_part s it sits view at _ k c.item_place-place.ensures.place)
    (steps.performs_begin p.seat p.layout p.seen p.words k p.stage c.requires.number c.requires.next c.requires.idle)

pub and-requires-clause-goes : goal.and-requires-clause-goes
and-requires-clause-goes g c = let s = c.self.inside in let it = c.args.self.now in let sits = c.self.invariant in let view = c.self.view_is in
    let at = g.P.WhichPart.at in let p = part_at at (standing_of it) in let k = c.args.number in
    subst (λ (n : ℕ). GoesBy it.queue.slots p None (step.Begin) it.hand) (sym (number_placed _ k p.layout
    (item_at_part s it sits view at _ k c.item_place-place.ensures.place)))
    (by_either it.queue.slots p None (step.Begin) it.hand (λ some_slot. subst (GoesBy it.queue.slots p None step.Begin) (sym
    (c.requires.slot some_slot)) (by.by_begin p.seat p.layout p.seen p.words k it.queue.slots _ p.stage c.requires.next c.requires.number
    (deep_in s it sits view at some_slot))))
