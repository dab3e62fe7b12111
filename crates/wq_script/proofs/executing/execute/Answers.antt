use Rattle.wq_script.proofs.Common.{ℕ, ◌+◌, Some, sym, ap, ◌∙◌, subst, ExecutesOne}
use Rattle.wq_script.proofs.Running.{ends_executes, nothing_executes, owes_executes}
use Rattle.wq_script.proofs.executing.execute.Goals as goal

pub returns-in-Item : goal.returns-in-Item
returns-in-Item c =
    let e = c.in-Item.ensures.runs in
    subst (λ (k : ℕ). ExecutesOne c.args.worker.now c.run_one.new.self (Some k)) (sym e.1.0) (ends_executes c.args.worker.now c.run_one.new.self e.0 e.2)

pub returns-in-Barrier : goal.returns-in-Barrier
returns-in-Barrier c =
    let e = c.in-Barrier.ensures.runs in
    subst (λ (k : ℕ). ExecutesOne c.args.worker.now c.run_one.new.self (Some k))
    (sym (ap (λ (n : ℕ). n + c.in-Barrier.barrier) c.requires.items ∙ e.1.0)) (ends_executes c.args.worker.now c.run_one.new.self e.0 e.2)

pub returns-in-Stop : goal.returns-in-Stop
returns-in-Stop c =
    let e = c.in-Stop.ensures.runs in
    subst (λ (k : ℕ). ExecutesOne c.args.worker.now c.run_one.new.self (Some k))
    (e.1 ∙ ((λ i. sym c.requires.items i + sym c.requires.barriers i) ∙ sym c.stop.ensures.number)) (ends_executes c.args.worker.now c.run_one.new.self e.0 e.2)

pub returns-in-Nothing : goal.returns-in-Nothing
returns-in-Nothing c = nothing_executes c.args.worker.now c.run_one.new.self c.in-Nothing.ensures.runs

pub returns-in-Owing : goal.returns-in-Owing
returns-in-Owing c = owes_executes c.args.worker.now c.run_one.new.self c.in-Owing.field-0 c.in-Owing.ensures.runs
