use Rattle.wq_live.proofs.Common.{arith, ◌≡◌, ◌<◌, ◌∙◌, ℕ, [], ◌∷◌, ap, sym, subst, barrier_number, Hold, Push, Layout, Answers, Known, Sees, IsPushed}
use Rattle.wq_calls.proofs.Sends.{sees_on, queued_on}
use Rattle.wq_calls.proofs.Held.{queued_held}
use Rattle.wq_calls.proofs.Tried.{answers_same}
use Rattle.wq_calls.proofs.Flushed.{flushed_all}
use Rattle.wq_calls.specs.Answers.{HasFlushed}
use Rattle.wq_words.specs.declared.answer.Answer.TheVariants.{Queued}
use Rattle.wq_live.proofs.sender.Sender.flush.Goals as goal

pub queue_waiting-requires : goal.queue_waiting-requires
queue_waiting-requires g c =
    let number : c.barrier-number.result ≡ barrier_number c.args.self.now.layout c.args.barrier =
    c.barrier-number.ensures.number ∙ ap (λ (v : Known). barrier_number v.layout c.args.barrier) c.self.view_is in
    record { number = omega (arith, number, c.requires.barrier) }

pub flush_done-requires : goal.flush_done-requires
flush_done-requires g c = record {
  barrier = subst (λ (l : Layout). c.args.barrier < l.barriers)
      (sym (c.loop.invariant.2.same.layout_is ∙ c.in-Queued.ensures.answer.0.same.layout_is)) c.requires.barrier;
}

pub loop-preserved : goal.loop-preserved
loop-preserved g c = (
  tt,
  tt,
  sees_on (λ z. []) (λ z. []) 0 0 0 c.queue_waiting.new.self c.loop.self c.flush_done.new.self (omega arith) c.loop.invariant.2 c.flush_done.ensures.seen,
)

pub returns-then-flush_done-clause-answer : goal.returns-then-flush_done-clause-answer
returns-then-flush_done-clause-answer g c = let s = c.args.self.now in let q = c.queue_waiting.new.self in let t = c.flush_done.new.self in
    let first = c.in-Queued.first in let wakes = c.in-Queued.wakes in
    let number : c.barrier-number.result ≡ barrier_number s.layout c.args.barrier =
    c.barrier-number.ensures.number ∙ ap (λ (v : Known). barrier_number v.layout c.args.barrier) c.self.view_is in
    queued_on (barrier_number s.layout c.args.barrier) 0 first wakes s q t
    (subst (λ (k : ℕ). Sees (Hold s.number k ∷ Push s.number k ∷ []) 0 s q × IsPushed s.number k first wakes q.seen) number c.in-Queued.ensures.answer)
    (sees_on (λ z. []) (λ z. []) 0 0 0 q c.loop.self t (omega arith) c.loop.invariant.2 c.flush_done.ensures.seen)

pub returns-then-flush_done-clause-same : goal.returns-then-flush_done-clause-same
returns-then-flush_done-clause-same g c = (returns-then-flush_done-clause-answer g c).0.same

pub returns-then-flush_done-clause-keeps : goal.returns-then-flush_done-clause-keeps
returns-then-flush_done-clause-keeps g c = λ k. let s = c.args.self.now in
    queued_held k (barrier_number s.layout c.args.barrier) 0 (Queued c.in-Queued.first c.in-Queued.wakes) s c.flush_done.new.self
    (returns-then-flush_done-clause-answer g c)

pub returns-then-flush_done-clause-flushed : goal.returns-then-flush_done-clause-flushed
returns-then-flush_done-clause-flushed g c first wakes is =
    subst (λ (l : Layout). HasFlushed (barrier_number l c.args.barrier) c.flush_done.new.self.seen)
    (c.loop.invariant.2.same.layout_is ∙ c.in-Queued.ensures.answer.0.same.layout_is) (c.flush_done.ensures.flushed c.if-flush_done.true)

pub returns-then-flush_done-clause-ended : goal.returns-then-flush_done-clause-ended
returns-then-flush_done-clause-ended g c first wakes is = let told = returns-then-flush_done-clause-answer g c in let s = c.args.self.now in
    flushed_all (barrier_number s.layout c.args.barrier) 0 c.in-Queued.first c.in-Queued.wakes s c.flush_done.new.self told.0 told.1
    (returns-then-flush_done-clause-flushed g c first wakes is)

pub returns : goal.returns
returns g c = let s = c.args.self.now in let q = c.queue_waiting in let e = q.ensures in
    let number : c.barrier-number.result ≡ barrier_number s.layout c.args.barrier =
    c.barrier-number.ensures.number ∙ ap (λ (v : Known). barrier_number v.layout c.args.barrier) c.self.view_is in record {
      answer = subst (λ (k : ℕ). Answers k 0 q.result s q.new.self) number e.answer;
      same = answers_same _ 0 q.result s q.new.self e.answer;
      keeps = e.keeps;
      settled = e.settled;
      flushed = λ first wakes is. absurd (c.in_default.not-Queued first wakes is);
      ended = λ first wakes is. absurd (c.in_default.not-Queued first wakes is);
    }
