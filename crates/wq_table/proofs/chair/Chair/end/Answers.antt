use Rattle.wq_table.proofs.Common.{◌+◌, ◌%◌, ◌^◌, ℕ, None, sym, ap, ◌∙◌, subst, done_place, Performs, part_at, standing_of}
use Rattle.wq_core.specs.declared.step.Step.TheVariants as step
use Rattle.wq_table.proofs.Steps as steps
use Rattle.wq_table.proofs.SlotTold.{done_room_in, numbered, by_either}
use Rattle.wq_table.proofs.ByKind as by
use Rattle.wq_table.proofs.chair.Chair.end.Goals as goal

pub add-requires-clause-performs : goal.add-requires-clause-performs
add-requires-clause-performs g c = let s = c.self.inside in let it = c.args.self.now in let sits = c.self.invariant in
    let view = c.self.view_is in let at = g.P.WhichPart.at in let p = part_at at (standing_of it) in
    subst (λ (i : ℕ). Performs p step.End i (λ n. (n + 1) % 2 ^ 64) (λ n. n))
    (sym (c.done_place-place.ensures.place ∙ ap done_place (numbered s it sits view at)))
    (steps.performs_end p.seat p.layout p.seen p.words p.stage c.requires.owner c.requires.runs)

pub add-requires-clause-goes : goal.add-requires-clause-goes
add-requires-clause-goes g c = let s = c.self.inside in let it = c.args.self.now in let sits = c.self.invariant in let view = c.self.view_is in
    let at = g.P.WhichPart.at in let p = part_at at (standing_of it) in
    by_either it.queue.slots p None step.End it.hand (λ some_slot. by.by_end p.seat p.layout p.seen p.words it.queue.slots it.hand p.stage c.requires.owner)

pub add-requires-clause-place : goal.add-requires-clause-place
add-requires-clause-place g c = let s = c.self.inside in let it = c.args.self.now in let sits = c.self.invariant in let view = c.self.view_is in
    let at = g.P.WhichPart.at in let p = part_at at (standing_of it) in done_room_in s it sits view at _ c.done_place-place.ensures.place
