use Rattle.wq_pool_plan.proofs.Common.{◌≡◌, ◌+◌, ◌-◌, length, vec_len, sym, ap, ◌∙◌, subst, arith, All, All-take, All-drop, IsCallerOf}
use Rattle.wq_calls.proofs.Seated.{all_last}
use Rattle.wq_ready.proofs.Callers.{length-new_callers}
use Rattle.wq_pool_plan.proofs.race.make_pool.Goals as goal

pub split_off-requires : goal.split_off-requires
split_off-requires c =
    let made = c.in-Ok.made in
    let count : length made.1.items ≡ c.args.plan.workers + c.args.plan.senders + 1 =
    ap length c.in-Ok.ensures.callers ∙ length-new_callers made.0.ready (c.args.plan.workers + c.args.plan.senders + 1) in
    omega (arith, count, made.1.ok.0, c.in-Some.ensures.len)

pub returns-clause-callers : goal.returns-clause-callers
returns-clause-callers c =
    let made = c.in-Ok.made in let P = IsCallerOf made.0.ready in
    let count : length made.1.items ≡ c.args.plan.workers + c.args.plan.senders + 1 =
    ap length c.in-Ok.ensures.callers ∙ length-new_callers made.0.ready (c.args.plan.workers + c.args.plan.senders + 1) in
    let rest : All P c.pop.new.self.items = subst (All P) (sym c.pop.ensures.rest) (All-take P (vec_len made.1 - 1) made.1.items c.in-Ok.ensures.ready) in
    record {
      of_workers = subst (All P) (sym c.in_ok-senders.ensures.items) (All-take P c.args.plan.workers c.pop.new.self.items rest);
      of_senders = subst (All P) (sym c.in_ok-senders.ensures.tail) (All-drop P c.args.plan.workers c.pop.new.self.items rest);
      of_program = all_last P c.pop.new.self.items c.in-Some.program (subst (All P) c.in-Some.ensures.items c.in-Ok.ensures.ready);
      count = omega (arith, c.in_ok-senders.ensures.tail_len, c.in_ok-senders.senders.ok.0, c.in-Some.ensures.len, count, made.1.ok.0);
    }
