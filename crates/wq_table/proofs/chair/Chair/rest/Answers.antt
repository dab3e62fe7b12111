use Rattle.wq_table.proofs.Common.{◌==◌, ℕ, None, sym, subst, either, busy_word, Performs, part_at, standing_of}
use Rattle.wq_core.specs.declared.step.Step.TheVariants as step
use Rattle.wq_table.proofs.Steps as steps
use Rattle.wq_table.proofs.SlotTold.{by_either}
use Rattle.wq_table.proofs.ByKind as by
use Rattle.wq_table.proofs.chair.Chair.rest.Goals as goal

pub replace-requires-clause-performs : goal.replace-requires-clause-performs
replace-requires-clause-performs g c = let it = c.args.self.now in let at = g.P.WhichPart.at in let p = part_at at (standing_of it) in
    subst (λ (w : ℕ). Performs p step.Rest 0 (λ n. either (n == busy_word) w n) (λ n. n)) (sym c.to_word-word.ensures.word)
    (steps.performs_rest p.seat p.layout p.seen p.words p.stage c.requires.open c.requires.walked c.requires.empty c.requires.idle)

pub replace-requires-clause-goes : goal.replace-requires-clause-goes
replace-requires-clause-goes g c = let it = c.args.self.now in let at = g.P.WhichPart.at in
    let p = part_at at (standing_of it) in by_either it.queue.slots p None step.Rest it.hand
    (λ some_slot. by.by_rest p.seat p.layout p.seen p.words it.queue.slots it.hand p.stage c.requires.walked)
