-- The members of a value that was read.
use Rattle.std.specs.Prelude.{String}
use Rattle.std.specs.declared.alloc.Global.{Global}
use Rattle.std.proofs.Common.{◌≡◌, refl, suc, List, [], ◌∷◌, length, ap}
use Rattle.serde_json.specs.View.{members_view}
use Rattle.serde_json.specs.declared.value.Value.{Value}
use Rattle.wq_plan.specs.PlanText.{member_count}

pub member_count_members_view : (ms : List (String Global × Value)) → member_count (members_view ms) ≡ length ms
member_count_members_view [] = refl
member_count_members_view (m ∷ ms) = ap suc (member_count_members_view ms)
