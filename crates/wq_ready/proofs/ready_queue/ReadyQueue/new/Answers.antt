use Rattle.wq_ready.proofs.Common.{◌≡◌, length, All, sym, ap, ◌∙◌, subst, arith, IsCallerOf}
use Rattle.wq_ready.proofs.Kept.{begins, parts_first}
use Rattle.wq_ready.proofs.Callers.{length-new_callers, new_callers-all}
use Rattle.wq_ready.proofs.ready_queue.ReadyQueue.new.Goals as goal

pub ruled-requires-clause-rule : goal.ruled-requires-clause-rule
ruled-requires-clause-rule c = begins

pub another-pass-requires-clause-rule : goal.another-pass-requires-clause-rule
another-pass-requires-clause-rule c = parts_first _ _ _ _ _ c.loop-number.invariant.1 c.requires (omega (arith, c.loop-number-test.true))

pub returns-clause-count : goal.returns-clause-count
returns-clause-count c =
    let done : c.loop-number.number ≡ c.args.size.callers = omega (arith, c.loop-number.auto.number-end, c.loop-number-test.false) in
    ap length c.loop-number.invariant.2 ∙ (length-new_callers _ c.loop-number.number ∙ done)

pub returns-clause-ready : goal.returns-clause-ready
returns-clause-ready c = subst (All (IsCallerOf _)) (sym c.loop-number.invariant.2) (new_callers-all _ c.loop-number.number)
