use Rattle.wq_worker.proofs.Common.{◌≡◌, ℕ, List, [], ◌∷◌, ◌+◌, drop, refl, sym, subst, arith, drop_of_length-le, IsContended, QueuesRest}
use Rattle.std.proofs.Common.{get_or}
use Rattle.wq_worker.proofs.Pair.{both_still}
use Rattle.wq_worker.proofs.Follow.{Sofar, sofar_runs, one_more, was_contended, all_queued}
use Rattle.wq_worker.proofs.steps.queue_rest.Goals as goal
use Rattle.std.proofs.lemmas.List.{drop_more}

pub loop-at-init : goal.loop-at-init
loop-at-init c =
    (c.requires.from, record { queued = []; events = []; split = refl; told = refl; moved = both_still c.args.pair.now c.requires.legal })

pub queue_one-requires-clause-runs : goal.queue_one-requires-clause-runs
queue_one-requires-clause-runs c = sofar_runs _ _ _ _ c.loop-at.invariant.1 c.requires.runs

pub returns-then-not-queue_one-clause-queued : goal.returns-then-not-queue_one-clause-queued
returns-then-not-queue_one-clause-queued c =
    let xs = c.args.follow.now in let at = c.loop-at.at in let ks = drop c.args.from xs in let k = get_or xs at 0 in let js = drop (at + 1) xs in
    let a = c.args.pair.now in let b = c.loop-at.pair in let d = c.queue_one.new.pair in
    let next : drop at xs ≡ k ∷ js = drop_more xs at 0 c.loop-at-test.true in
    subst (λ (z : List ℕ). QueuesRest c.args.tries ks z a d) (sym next)
    (was_contended ks k js c.queue_one.result c.args.tries a b d
    (subst (λ (z : List ℕ). Sofar ks z a b) next c.loop-at.invariant.1) c.if-not-queue_one.true c.queue_one.ensures.queued)

pub loop-at-preserved : goal.loop-at-preserved
loop-at-preserved c =
    let xs = c.args.follow.now in let at = c.loop-at.at in let ks = drop c.args.from xs in let k = get_or xs at 0 in let js = drop (at + 1) xs in
    let a = c.args.pair.now in let b = c.loop-at.pair in let d = c.queue_one.new.pair in
    let next : drop at xs ≡ k ∷ js = drop_more xs at 0 c.loop-at-test.true in (
      omega arith,
      one_more ks k js c.queue_one.result c.args.tries a b d
          (subst (λ (z : List ℕ). Sofar ks z a b) next c.loop-at.invariant.1) c.if-not-queue_one.false c.queue_one.ensures.queued,
    )

pub returns-clause-queued : goal.returns-clause-queued
returns-clause-queued c = all_queued _ _ _ _ _ (drop_of_length-le c.args.follow.now c.loop-at-test.false) c.loop-at.invariant.1

pub returns-then-not-queue_one-clause-contended : goal.returns-then-not-queue_one-clause-contended
returns-then-not-queue_one-clause-contended c less =
    subst (λ (n : ℕ). IsContended n (get_or c.args.follow.now c.loop-at.at 0) c.args.tries c.queue_one.new.pair.seen)
    c.loop-at.invariant.1.moved.number_is (c.queue_one.ensures.contended c.if-not-queue_one.true)
