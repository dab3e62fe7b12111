-- Which plan a text spells, and why it is refused.
use Rattle.std.specs.Prelude.{◌≡◌, ◌≢◌, ℕ, suc, ◌<◌, ◌≤◌, List, length, codes, Option, Some, None, option_map, option_and_then, IsUtf8}
use Rattle.serde_json.specs.Data.{Data, Members, no_members, member}
use Rattle.serde_json.specs.Read.{read}
use Rattle.serde_json.specs.Find.{get, as_object, as_number, as_u64}
use Rattle.wq_plan.specs.declared.plan.Plan.{Plan}
use Rattle.wq_plan.specs.Plan.{AreInPlanLimits}
use Rattle.wq_plan.specs.declared.plan_text.PlanError.{PlanError}
use Rattle.wq_plan.specs.declared.plan_text.PlanError.TheVariants as error

-- the most bytes of a plan's text
abbrev pub most_plan_bytes : ℕ
most_plan_bytes = 65536

abbrev pub member_count : Members → ℕ
member_count no_members = 0
member_count (member key value ms) = suc (member_count ms)

-- an object of four members
abbrev pub HasFour : Data → Type 0
HasFour d = option_map member_count (as_object d) ≡ Some 4

-- an object of just these four members
pub record HasKeys (d : Data) : Type 0 where
  pub four : HasFour d
  pub queues : get (codes "queues") d ≢ None
  pub workers : get (codes "workers") d ≢ None
  pub senders : get (codes "senders") d ≢ None
  pub own : get (codes "own") d ≢ None

-- the whole number that stands at a key, written with digits alone
abbrev pub whole_number_at : List ℕ → Data → Option ℕ
whole_number_at key d = option_and_then as_u64 (option_and_then as_number (get key d))

-- these are the plan's queues, workers, senders and own items
pub record IsPlan (d : Data) (plan : Plan) : Type 0 where
  pub queues : whole_number_at (codes "queues") d ≡ Some plan.queues
  pub workers : whole_number_at (codes "workers") d ≡ Some plan.workers
  pub senders : whole_number_at (codes "senders") d ≡ Some plan.senders
  pub own : whole_number_at (codes "own") d ≡ Some plan.own
  pub in_limits : AreInPlanLimits plan.queues plan.workers plan.senders plan.own

-- the text is short enough, and this is what it says as JSON
pub record SaysJson (text : List ℕ) (d : Data) : Type 0 where
  pub size : length text ≤ most_plan_bytes
  pub utf8 : IsUtf8 text
  pub reads : read text ≡ Some d

-- the text spells the plan
pub record SpellsPlan (text : List ℕ) (plan : Plan) : Type 0 where
  pub value : Data
  pub says : SaysJson text value
  pub keys : HasKeys value
  pub is_plan : IsPlan value plan

-- the first refusal of a text, in this order: its size, that it is no JSON, its keys, its values
abbrev pub IsNoPlan : List ℕ → PlanError → Type 0
IsNoPlan text error.Size = most_plan_bytes < length text
IsNoPlan text error.Json = (length text ≤ most_plan_bytes) × (IsUtf8 text → read text ≡ None)
IsNoPlan text error.Keys = (d : Data) × SaysJson text d × (¬ HasKeys d)
IsNoPlan text error.Limits = (d : Data) × SaysJson text d × HasKeys d × ((plan : Plan) → ¬ IsPlan d plan)
IsNoPlan text error.Memory = Unit {0}
