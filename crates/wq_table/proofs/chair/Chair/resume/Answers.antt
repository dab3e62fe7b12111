use Rattle.wq_table.proofs.Common.{None, part_at, standing_of}
use Rattle.wq_core.specs.declared.step.Step.TheVariants as step
use Rattle.wq_table.proofs.Steps as steps
use Rattle.wq_table.proofs.SlotTold.{by_either}
use Rattle.wq_table.proofs.ByKind as by
use Rattle.wq_table.proofs.chair.Chair.resume.Goals as goal

pub swap-requires-clause-performs : goal.swap-requires-clause-performs
swap-requires-clause-performs g c = let it = c.args.self.now in let at = g.P.WhichPart.at in let p = part_at at (standing_of it) in
    steps.performs_resume p.seat p.layout p.seen p.words p.stage c.requires.draining c.requires.walked c.requires.empty c.requires.idle

pub swap-requires-clause-goes : goal.swap-requires-clause-goes
swap-requires-clause-goes g c = let it = c.args.self.now in let at = g.P.WhichPart.at in
    let p = part_at at (standing_of it) in by_either it.queue.slots p None step.Resume it.hand
    (λ some_slot. by.by_resume p.seat p.layout p.seen p.words it.queue.slots it.hand p.stage c.requires.walked)
