use Rattle.wq_table.proofs.Common.{None, part_at, standing_of}
use Rattle.wq_core.specs.declared.step.Step.TheVariants as step
use Rattle.wq_table.proofs.SlotTold.{deep_in, by_either}
use Rattle.wq_table.proofs.ByKind as by
use Rattle.wq_table.proofs.chair.Chair.walk.Goals as goal

pub load-requires-clause-goes : goal.load-requires-clause-goes
load-requires-clause-goes g c = let s = c.self.inside in let it = c.args.self.now in let sits = c.self.invariant in let view = c.self.view_is in
    let at = g.P.WhichPart.at in let p = part_at at (standing_of it) in
    by_either it.queue.slots p None step.Walk it.hand (λ some_slot. by.by_walk p.seat p.layout p.seen p.words c.args.number it.queue.slots it.hand
    p.stage c.requires.next (deep_in s it sits view at some_slot))
