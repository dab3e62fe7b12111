use Rattle.wq_race.proofs.Common.{All-push}
use Rattle.wq_pool_plan.proofs.Common.{◌≡◌, [], ◌∷◌, length, sym, ap, subst, arith, length-append, All, Group}
use Rattle.wq_pool_plan.proofs.teams.empty_groups.Goals as goal

pub loop-preserved : goal.loop-preserved
loop-preserved c =
    let groups = c.loop.groups.items in let is = c.in_ok-push.ensures.items in
    let P : Group → Type 0 = λ group. group.senders.items ≡ [] in let group : Group = record { senders = c.in_ok-senders.senders } in (
      omega (arith, ap length is, length-append groups (group ∷ []), c.loop.invariant.0),
      subst (All P) (sym is) (All-push P groups group c.loop.invariant.1 c.in_ok-senders.ensures.items),
    )
