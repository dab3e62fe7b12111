use Rattle.wq_table.proofs.Common.{ℕ, Some, None, sym, subst, Performs, part_at, standing_of, ValueSteps}
use Rattle.wq_core.specs.declared.step.Step.TheVariants as step
use Rattle.wq_table.proofs.Steps.{number_linked, number_pushed}
use Rattle.wq_table.proofs.Steps as steps
use Rattle.wq_table.proofs.SlotTold.{by_either}
use Rattle.wq_table.proofs.ByKind as by
use Rattle.wq_table.proofs.chair.Chair.turn.Goals as goal

pub store-requires-clause-performs : goal.store-requires-clause-performs
store-requires-clause-performs g c = let it = c.args.self.now in let at = g.P.WhichPart.at in let p = part_at at (standing_of it) in
    let k = c.args.number in let j = c.args.next in let word = c.to_word-word.ensures.word in let place = c.link_place-place.ensures.place in
    let next = number_pushed _ j word in let number = number_linked _ k place in
    subst (λ (z : (ℕ × ℕ) × (ℕ × ℕ)). Performs p (step.Turn z.0.0 (Some z.0.1)) z.1.0 (λ n. z.1.1) (λ n. z.1.1))
    (λ i. ((sym number i, sym next i), (sym place i, sym word i)))
    (steps.performs_turn p.seat p.layout p.seen p.words k j p.stage c.requires.number c.requires.next c.requires.taken)

pub store-requires-clause-goes : goal.store-requires-clause-goes
store-requires-clause-goes g c = let it = c.args.self.now in let at = g.P.WhichPart.at in
    let p = part_at at (standing_of it) in by_either it.queue.slots p None _ it.hand
    (λ some_slot. by.by_turn p.seat p.layout p.seen p.words c.args.number _ _ it.queue.slots it.hand p.stage c.requires.taken)

pub returns : goal.returns
returns g c = let word = c.to_word-word.ensures.word in
    record {
      step = subst (λ (z : (ℕ × ℕ) × ℕ). ValueSteps g.P.WhichPart.at None (step.Turn z.0.0 (Some z.0.1)) z.1 c.args.self.now c.store.new.self)
          (λ i. ((number_linked _ c.args.number c.link_place-place.ensures.place i, number_pushed _ c.args.next word i), word i)) c.store.ensures;
    }
