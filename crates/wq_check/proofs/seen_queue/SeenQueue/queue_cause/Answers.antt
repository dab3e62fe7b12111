use Rattle.wq_check.proofs.Common.{◌≡◌, ℕ, ◌≤◌, ◌∙◌, sym, refl, arith, false≢true}
use Rattle.wq_check.proofs.Looking.{queue_none, queue_next, queue_again, queue_twice}
use Rattle.wq_check.proofs.seen_queue.SeenQueue.queue_cause.Goals as goal

one_of : (n m : ℕ) → n ≡ m → (n ≡ 0 → ⊥) → n ≤ 1 → m ≡ 1
one_of n m same some few = omega (arith, same, some, few)

pub returns-then-times-eq0 : goal.returns-then-times-eq0
returns-then-times-eq0 c = λ t o. queue_none _ t o c.args.number c.requires (sym c.times_of-times.ensures ∙ c.if-times-eq0.true)

pub returns-then-times-gt1 : goal.returns-then-times-gt1
returns-then-times-gt1 c = λ t o. queue_twice _ t o c.args.number c.requires
    (λ none. absurd (omega (arith, none, c.times_of-times.ensures, c.if-times-gt1.true)))
    (λ one. absurd (omega (arith, one, c.times_of-times.ensures, c.if-times-gt1.true)))

pub returns-then-is_next : goal.returns-then-is_next
returns-then-is_next c = λ t o.
    let one = one_of _ _ c.times_of-times.ensures c.if-times-eq0.false c.if-times-gt1.false in
    queue_next _ t o c.args.number c.requires one (c.if-is_next.ensures.0 refl)

pub returns : goal.returns
returns c = λ t o. queue_again _ t o c.args.number c.requires
    (λ none. c.if-times-eq0.false (c.times_of-times.ensures ∙ none)) (λ next. false≢true (c.if-is_next.ensures.1 next))
