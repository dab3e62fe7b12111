use Rattle.wq_table.proofs.Common.{ℕ, None, sym, subst, part_at, GoesBy, standing_of, ValueSteps}
use Rattle.wq_words.specs.declared.event.Why.TheVariants.{Contended}
use Rattle.wq_core.specs.declared.step.Step.TheVariants as step
use Rattle.wq_table.proofs.Steps.{placed, number_placed, saw_any}
use Rattle.wq_table.proofs.Steps as steps
use Rattle.wq_table.proofs.SlotTold.{deep_in, item_at_part, item_room_in, by_either}
use Rattle.wq_table.proofs.ByKind as by
use Rattle.wq_table.proofs.chair.Chair.back_contended.Goals as goal

pub and-requires-clause-place : goal.and-requires-clause-place
and-requires-clause-place g c = let s = c.self.inside in let it = c.args.self.now in let sits = c.self.invariant in let view = c.self.view_is in
    let at = g.P.WhichPart.at in let p = part_at at (standing_of it) in
    item_room_in s it sits view at _ c.args.number c.item_place-place.ensures.place c.requires.number

pub and-requires-clause-performs : goal.and-requires-clause-performs
and-requires-clause-performs g c = let s = c.self.inside in let it = c.args.self.now in let sits = c.self.invariant in
    let view = c.self.view_is in let at = g.P.WhichPart.at in let p = part_at at (standing_of it) in let k = c.args.number in
    placed p (λ (n : ℕ). step.Back n Contended) _ k _ _ (item_at_part s it sits view at _ k c.item_place-place.ensures.place)
    (steps.performs_back p.seat p.layout p.seen p.words k Contended p.stage (saw_any Contended p.stage
    (λ _. tt) c.requires.sender) c.requires.number c.requires.held)

pub and-requires-clause-goes : goal.and-requires-clause-goes
and-requires-clause-goes g c = let s = c.self.inside in let it = c.args.self.now in let sits = c.self.invariant in let view = c.self.view_is in
    let at = g.P.WhichPart.at in let p = part_at at (standing_of it) in let k = c.args.number in
    subst (λ (n : ℕ). GoesBy it.queue.slots p None (step.Back n Contended) it.hand) (sym (number_placed _ k p.layout
    (item_at_part s it sits view at _ k c.item_place-place.ensures.place)))
    (by_either it.queue.slots p None (step.Back k Contended) it.hand (λ some_slot. subst (GoesBy it.queue.slots p None (step.Back k Contended)) (sym
    (c.requires.slot some_slot)) (by.by_back p.seat p.layout p.seen p.words k it.queue.slots Contended _ p.stage c.requires.sender
    c.requires.held c.requires.number (deep_in s it sits view at some_slot))))

pub returns : goal.returns
returns g c = let s = c.self.inside in let it = c.args.self.now in let sits = c.self.invariant in let view = c.self.view_is in
    let at = g.P.WhichPart.at in let p = part_at at (standing_of it) in
    record {
      step = (
        c.and.result,
        subst (λ (n : ℕ). ValueSteps g.P.WhichPart.at None (step.Back n Contended) c.and.result it c.and.new.self)
            (number_placed _ c.args.number p.layout (item_at_part s it sits view at _ c.args.number c.item_place-place.ensures.place)) c.and.ensures,
      );
    }
