use Rattle.wq_pool_plan.proofs.Common.{◌≡◌, List, length, sym, ◌∙◌, subst, length-map, WorkerId, worker_id, AllSent}
use Rattle.wq_pool_plan.proofs.Sent.{may_run, same_size, all_sent}
use Rattle.wq_pool_plan.proofs.race.run_teams.Goals as goal

pub run_scope-requires-after_bounds : goal.run_scope-requires-after_bounds
run_scope-requires-after_bounds g c κs within =
    let t = c.in_ok-served.ensures in
    may_run c.args.plan c.in_ok-served.field-0 t.teams t.count c.in_ok-pool.pool c.in_ok-pool.callers c.in_ok-pool.ensures.workers c.in_ok-pool.ensures.callers

pub turned-requires : goal.turned-requires
turned-requires g c = λ s d lt.
    let t = c.in_ok-served.ensures in
    same_size c.args.plan c.in_ok-served.field-0 t.teams t.count c.in_ok-groups.groups.items c.in_ok-groups.ensures.groups s d lt

pub returns : goal.returns
returns g c =
    let t = c.in_ok-served.ensures in let plan = c.args.plan in let teams = c.in_ok-served.field-0 in
    let workers = c.in_ok-pool.ensures.workers in
    let sent = all_sent plan teams t.teams t.count c.in_ok-groups.groups.items c.in_ok-by_queue.by_queue.items c.in_ok-groups.programs.items
    c.in_ok-groups.ensures.groups c.in_ok-by_queue.ensures c.in_ok-groups.ensures.programs in
    record {
      have_run = record {
        count = subst (λ (ids : List WorkerId). length ids ≡ plan.queues) (sym workers) (length-map teams.served.items worker_id ∙ t.count);
        sent = subst (λ (ids : List WorkerId). AllSent plan ids c.in_ok-by_queue.by_queue.items c.in_ok-groups.programs.items) (sym workers) sent;
      };
    }
