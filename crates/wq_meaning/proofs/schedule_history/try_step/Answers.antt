use Rattle.std.proofs.Common.{rules}
use Rattle.wq_meaning.proofs.Common.{ap, ◌∙◌, inl, inr}
use Rattle.wq_core.proofs.Sound.{layout_after}
use Rattle.wq_meaning.proofs.ScheduleLines.{not_enabled}
use Rattle.wq_meaning.proofs.schedule_history.try_step.Goals as goal

pub returns-in-Ok-clause-same : goal.returns-in-Ok-clause-same
returns-in-Ok-clause-same c = ap (λ m. m.layout) c.in-Ok.ensures.after ∙ layout_after c.args.core.now c.args.seat c.args.step

pub returns-in-Ok-clause-passes : goal.returns-in-Ok-clause-passes
returns-in-Ok-clause-passes c = inl (c.in-Ok.ensures.made.1, c.in-Ok.ensures.after)

pub returns-in-Ok-clause-tried : goal.returns-in-Ok-clause-tried
returns-in-Ok-clause-tried c = (c.in-Ok.ensures.made.1, c.in-Ok.ensures.after, c.in-Ok.ensures.reply)

pub returns-in-Err : goal.returns-in-Err
returns-in-Err c =
    let off = not_enabled c.args.core.now c.args.seat c.args.step c.in-Err.field-0 c.requires c.in-Err.ensures.refused (search rules) in
    record {
      same = ap (λ m. m.layout) c.in-Err.ensures.unchanged;
      passes = inr (off, c.in-Err.ensures.unchanged);
      tried = (off, c.in-Err.ensures.unchanged);
    }
