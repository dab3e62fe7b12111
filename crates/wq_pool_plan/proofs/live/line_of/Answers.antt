use Rattle.std.proofs.Common.{◌∙◌, ◌++◌, ap, List, ℕ}
use Rattle.wq_race.specs.Outcome.{outcome_line}
use Rattle.wq_pool_plan.proofs.live.line_of.Goals as goal

pub returns-clause-line : goal.returns-clause-line
returns-clause-line g c =
    let o = c.in-Ok.outcome in record {
      plan = c.in_ok-plan.plan;
      spells = c.in_ok-plan.ensures.plan;
      outcome = o;
      whole = c.in-Ok.ensures.whole;
      told = c.in-Ok.ensures.told;
      pooled = c.in-Ok.ensures.pooled;
      line_is = c.in_ok-write.ensures.line ∙ ap (λ (old : List ℕ). old ++ outcome_line o) c.new-line.ensures.bytes;
    }
