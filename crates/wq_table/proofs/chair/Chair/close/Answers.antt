use Rattle.wq_table.proofs.Common.{ℕ, None, sym, subst, Performs, part_at, standing_of}
use Rattle.wq_core.specs.declared.step.Step.TheVariants as step
use Rattle.wq_table.proofs.Steps as steps
use Rattle.wq_table.proofs.SlotTold.{by_either}
use Rattle.wq_table.proofs.ByKind as by
use Rattle.wq_table.proofs.chair.Chair.close.Goals as goal

pub swap-requires-clause-performs : goal.swap-requires-clause-performs
swap-requires-clause-performs g c = let it = c.args.self.now in let at = g.P.WhichPart.at in let p = part_at at (standing_of it) in
    subst (λ (w : ℕ). Performs p step.Close 0 (λ _. w) (λ n. n)) (sym c.to_word-word.ensures.word)
    (steps.performs_close p.seat p.layout p.seen p.words p.stage c.requires.unclosed c.requires.walked)

pub swap-requires-clause-goes : goal.swap-requires-clause-goes
swap-requires-clause-goes g c = let it = c.args.self.now in let at = g.P.WhichPart.at in
    let p = part_at at (standing_of it) in by_either it.queue.slots p None step.Close it.hand
    (λ some_slot. by.by_close p.seat p.layout p.seen p.words it.queue.slots it.hand p.stage c.requires.walked)
