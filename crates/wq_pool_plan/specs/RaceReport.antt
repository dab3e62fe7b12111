-- What the program makes of a plan's text.
use Rattle.std.specs.Prelude.{◌≡◌, ℕ, ◌+◌, List, take}
use Rattle.wq_plan.specs.declared.plan.Plan.{Plan}
use Rattle.wq_plan.specs.PlanText.{most_plan_bytes, SpellsPlan}
use Rattle.wq_race.specs.declared.outcome.Outcome.{Outcome}
use Rattle.wq_race.specs.Outcome.{outcome_line, IsWhole, TellsRace}
use Rattle.wq_pool_plan.specs.Race.{IsLone}
use Rattle.wq_pool_plan.specs.Outcome.{TellsPlan}

-- The text spells a plan, and this is the line of its outcome. Where one worker has one queue, each of the plan's items was
-- accepted once and ran once, and the outcome tells of that queue's history, book and ledgers, which balance; any other outcome
-- tells of a run of each of the plan's queues.
pub record Races (text line : List ℕ) : Type 0 where
  pub plan : Plan
  pub spells : SpellsPlan text plan
  pub outcome : Outcome
  pub whole : IsLone plan → IsWhole plan outcome
  pub told : IsLone plan → TellsRace plan outcome
  pub pooled : ¬ IsLone plan → TellsPlan plan outcome
  pub line_is : line ≡ outcome_line outcome

-- as much of a reader's bytes as is read: one more than a plan may have
abbrev pub plan_read : List ℕ → List ℕ
plan_read bytes = take (most_plan_bytes + 1) bytes
