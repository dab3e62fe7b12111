use Rattle.wq_table.proofs.Common.{◌==◌, ℕ, None, sym, ap, subst, either, Carries, Performs, part_at, GoesBy, standing_of, ValueSteps}
use Rattle.wq_core.specs.declared.step.Step.TheVariants as step
use Rattle.wq_table.specs.SlotSteps.{in_front}
use Rattle.wq_table.proofs.Steps.{number_pushed}
use Rattle.wq_table.proofs.Steps as steps
use Rattle.wq_table.proofs.SlotTold.{deep_in, by_either}
use Rattle.wq_table.proofs.ByKind as by
use Rattle.wq_table.proofs.chair.Chair.push.Goals as goal

pub replace-requires-clause-performs : goal.replace-requires-clause-performs
replace-requires-clause-performs g c = let s = c.self.inside in let it = c.args.self.now in let sits = c.self.invariant in
    let view = c.self.view_is in let at = g.P.WhichPart.at in let p = part_at at (standing_of it) in let k = c.args.number in
    let back = number_pushed _ k c.to_word-word.ensures.word in
    subst (λ (z : ℕ × ℕ). Performs p (step.Push z.0) 0 (λ n. either (n == c.args.seen) z.1 n) (λ n. n)) (λ i.
    (sym back i, sym c.to_word-word.ensures.word i))
    (steps.performs_push p.seat p.layout p.seen p.words k c.args.seen p.stage c.requires.number c.requires.linked)

pub replace-requires-clause-goes : goal.replace-requires-clause-goes
replace-requires-clause-goes g c = let s = c.self.inside in let it = c.args.self.now in let sits = c.self.invariant in
    let view = c.self.view_is in let at = g.P.WhichPart.at in let p = part_at at (standing_of it) in let k = c.args.number in
    subst (λ (n : ℕ). GoesBy it.queue.slots p None (step.Push n) it.hand) (sym (number_pushed _ k c.to_word-word.ensures.word))
    (by_either it.queue.slots p None (step.Push k) it.hand (λ some_slot. let slot = c.requires.slot some_slot in
    subst (GoesBy it.queue.slots p None (step.Push k)) (sym slot.1)
    (by.by_push p.seat p.layout p.seen p.words k c.args.seen it.queue.slots slot.0 _ p.stage c.requires.linked
    (subst (Carries p.layout.items k) (ap in_front slot.1) (c.requires.carries some_slot)) c.requires.number (deep_in s it sits view at some_slot))))

pub returns : goal.returns
returns g c = record {
  step = subst (λ (n : ℕ). ValueSteps g.P.WhichPart.at None (step.Push n) c.replace.result c.args.self.now c.replace.new.self)
      (number_pushed _ c.args.number c.to_word-word.ensures.word) c.replace.ensures;
}
