use Rattle.wq_table.proofs.Common.{ℕ, None, sym, subst, part_at, GoesBy, standing_of, ValueSteps}
use Rattle.wq_core.specs.declared.step.Step.TheVariants as step
use Rattle.wq_table.proofs.Steps.{placed, number_placed}
use Rattle.wq_table.proofs.Steps as steps
use Rattle.wq_table.proofs.SlotTold.{deep_in, item_at_part, item_room_in, by_either}
use Rattle.wq_table.proofs.ByKind as by
use Rattle.wq_table.proofs.chair.Chair.hold.Goals as goal

pub or-requires-clause-place : goal.or-requires-clause-place
or-requires-clause-place g c = let s = c.self.inside in let it = c.args.self.now in let sits = c.self.invariant in let view = c.self.view_is in
    let at = g.P.WhichPart.at in let p = part_at at (standing_of it) in
    item_room_in s it sits view at _ c.args.number c.item_place-place.ensures.place c.requires.number

pub or-requires-clause-performs : goal.or-requires-clause-performs
or-requires-clause-performs g c = let s = c.self.inside in let it = c.args.self.now in let sits = c.self.invariant in
    let view = c.self.view_is in let at = g.P.WhichPart.at in let p = part_at at (standing_of it) in let k = c.args.number in
    placed p (λ (n : ℕ). step.Hold n) _ k _ _ (item_at_part s it sits view at _ k c.item_place-place.ensures.place)
    (steps.performs_hold p.seat p.layout p.seen p.words k p.stage c.requires.sender c.requires.number)

pub or-requires-clause-goes : goal.or-requires-clause-goes
or-requires-clause-goes g c = let s = c.self.inside in let it = c.args.self.now in let sits = c.self.invariant in let view = c.self.view_is in
    let at = g.P.WhichPart.at in let p = part_at at (standing_of it) in let k = c.args.number in
    subst (λ (n : ℕ). GoesBy it.queue.slots p None (step.Hold n) it.hand) (sym (number_placed _ k p.layout
    (item_at_part s it sits view at _ k c.item_place-place.ensures.place)))
    (by_either it.queue.slots p None (step.Hold k) it.hand (λ some_slot. by.by_hold p.seat p.layout p.seen p.words k it.queue.slots it.hand p.stage
    c.requires.sender c.requires.number (deep_in s it sits view at some_slot)))

pub returns : goal.returns
returns g c = let s = c.self.inside in let it = c.args.self.now in let sits = c.self.invariant in let view = c.self.view_is in
    let at = g.P.WhichPart.at in let p = part_at at (standing_of it) in
    record {
      step = subst (λ (n : ℕ). ValueSteps g.P.WhichPart.at None (step.Hold n) c.or.result it c.or.new.self)
          (number_placed _ c.args.number p.layout (item_at_part s it sits view at _ c.args.number c.item_place-place.ensures.place)) c.or.ensures;
    }
