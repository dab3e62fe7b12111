use Rattle.wq_worker.proofs.Common.{arith, sym, ◌∙◌, ◌≡◌, ◌<◌, Bool, List, ap, subst, true, false, cond, refl, Layout, Event, shut, Both}
use Rattle.wq_words.specs.declared.answer.Answer.{Answer}
use Rattle.wq_words.specs.declared.answer.Answer.TheVariants as answer
use Rattle.wq_worker.specs.Pair.{Attempts, settled}
use Rattle.wq_worker.proofs.Follow.{told_chain, told_send}
use Rattle.wq_worker.proofs.steps.queue_one.Goals as goal

pub returns-then-is_shut-clause-queued : goal.returns-then-is_shut-clause-queued
returns-then-is_shut-clause-queued c =
    let e = c.chain.ensures in let a = c.args.pair.now in let b = c.chain.new.self in
    let size : c.layout.result.items ≡ a.layout.items = ap (λ (l : Layout). l.items) c.layout.ensures.layout in
    let low : c.args.item < a.layout.items = omega arith in let is_shut : shut a.seen ≡ true = sym c.is_shut.ensures.shut ∙ c.if-is_shut.true in
    told_chain c.args.item c.chain.result a b low is_shut e.answer e.others

pub returns-clause-queued : goal.returns-clause-queued
returns-clause-queued c =
    let e = c.queue_tries-answer.ensures in let a = c.args.pair.now in let d = c.queue_tries-answer.new.self in
    let size : c.layout.result.items ≡ a.layout.items = ap (λ (l : Layout). l.items) c.layout.ensures.layout in
    let low : c.args.item < a.layout.items = omega arith in let opens : shut a.seen ≡ false = sym c.is_shut.ensures.shut ∙ c.if-is_shut.false in
    subst (λ (b : Bool). (x : List Event) × Attempts a.layout.items a.number (shut a.seen) c.args.item b x × Both x (cond b 0 c.args.tries) a d)
    (sym c.is_settled.ensures)
    (told_send c.args.item c.args.tries c.queue_tries-answer.result a d low opens e.answer e.others)

unsettled : (a : Answer) → settled a ≡ false → a ≡ answer.Contended
unsettled (answer.Queued first wakes) is = absurd (cc)
unsettled answer.Pending is = absurd (cc)
unsettled answer.Closed is = absurd (cc)
unsettled answer.Contended is = refl
unsettled answer.Draining is = absurd (cc)

pub returns-clause-contended : goal.returns-clause-contended
returns-clause-contended c is = c.queue_tries-answer.ensures.contended (unsettled c.queue_tries-answer.result (sym c.is_settled.ensures ∙ is))
