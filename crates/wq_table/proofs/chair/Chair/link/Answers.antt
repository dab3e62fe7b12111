use Rattle.wq_table.proofs.Common.{◌-◌, ℕ, None, sym, subst, Performs, part_at, standing_of, ValueSteps}
use Rattle.wq_core.specs.Words.{link_place}
use Rattle.wq_core.specs.declared.step.Step.TheVariants as step
use Rattle.wq_table.proofs.Steps.{linked, number_linked}
use Rattle.wq_table.proofs.Steps as steps
use Rattle.wq_table.proofs.SlotTold.{by_either}
use Rattle.wq_table.proofs.ByKind as by
use Rattle.wq_table.proofs.chair.Chair.link.Goals as goal

pub store-requires-clause-performs : goal.store-requires-clause-performs
store-requires-clause-performs g c = let it = c.args.self.now in let at = g.P.WhichPart.at in let p = part_at at (standing_of it) in
    let k = c.args.number in let place = c.link_place-place.result in
    subst (λ (w : ℕ). Performs p (step.Link (place - link_place 0)) place (λ n. w) (λ n. w)) (sym c.link_word-word.ensures.word)
    (linked p (λ (n : ℕ). step.Link n) _ k _ _ c.link_place-place.ensures.place
    (steps.performs_link p.seat p.layout p.seen p.words k c.args.seen p.stage c.requires.number c.requires.held c.requires.seen c.requires.open))

pub store-requires-clause-goes : goal.store-requires-clause-goes
store-requires-clause-goes g c = let it = c.args.self.now in let at = g.P.WhichPart.at in
    let p = part_at at (standing_of it) in by_either it.queue.slots p None _ it.hand
    (λ some_slot. by.by_link p.seat p.layout p.seen p.words _ c.args.seen it.queue.slots it.hand p.stage c.requires.seen)

pub returns : goal.returns
returns g c = record {
  step = subst (λ (z : ℕ × ℕ). ValueSteps g.P.WhichPart.at None (step.Link z.0) z.1 c.args.self.now c.store.new.self)
      (λ i. (number_linked _ c.args.number c.link_place-place.ensures.place i, c.link_word-word.ensures.word i)) c.store.ensures;
}
