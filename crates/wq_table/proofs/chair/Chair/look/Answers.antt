use Rattle.wq_table.proofs.Common.{None, part_at, standing_of}
use Rattle.wq_core.specs.declared.step.Step.TheVariants as step
use Rattle.wq_table.proofs.SlotTold.{by_either}
use Rattle.wq_table.proofs.ByKind as by
use Rattle.wq_table.proofs.chair.Chair.look.Goals as goal

pub load-requires-clause-goes : goal.load-requires-clause-goes
load-requires-clause-goes g c = let it = c.args.self.now in let at = g.P.WhichPart.at in
    let p = part_at at (standing_of it) in by_either it.queue.slots p None step.Look it.hand
    (λ some_slot. by.by_look p.seat p.layout p.seen p.words it.queue.slots it.hand p.stage c.requires.sender)
