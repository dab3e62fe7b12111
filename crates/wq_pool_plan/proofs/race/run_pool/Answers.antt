use Rattle.wq_pool_plan.proofs.Common.{◌∙◌, arith}
use Rattle.wq_pool_plan.proofs.race.run_pool.Goals as goal

pub balance_all-requires : goal.balance_all-requires
balance_all-requires g c =
    let run = c.in_ok-pool.ensures.have_run in
    (c.args.plan, c.in_ok-pool.field-0.pool.workers, omega (arith, run.count, c.args.plan.in_limits.few_queues), c.in_ok-finished.ensures, run.sent)

pub returns : goal.returns
returns g c =
    let run = c.in_ok-pool.ensures.have_run in
    let told = c.in_ok-balance_all.ensures c.args.plan c.in_ok-pool.field-0.pool.workers c.in_ok-finished.ensures run.sent in
    record { runs = told.0; count = told.1 ∙ run.count; tells = told.2 }
