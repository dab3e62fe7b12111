use Rattle.wq_values.proofs.Common.{arith, ◌≡◌, ◌<◌, ◌∙◌, ℕ, [], ◌∷◌, None, ap, sym, subst, barrier_number, Hold, Push, IsPushed, Sees, KnownWith, IsBroughtBy}
use Rattle.wq_calls.proofs.Sends.{sees_on, queued_on}
use Rattle.wq_calls.proofs.Tried.{answers_same}
use Rattle.wq_values.proofs.ValueSends.{learnt_on, brought_still}
use Rattle.wq_calls.proofs.Flushed.{flushed_all}
use Rattle.wq_values.proofs.Common.{Layout}
use Rattle.wq_calls.specs.Answers.{Answers, HasFlushed}
use Rattle.wq_calls.specs.KnownWith.{BringsNothing}
use Rattle.wq_values.proofs.value_sender.ValueSender.flush.Goals as goal

pub flush_done-requires : goal.flush_done-requires
flush_done-requires g c = record {
  barrier = subst (λ (l : Layout). c.args.barrier < l.barriers)
      (sym (c.loop.invariant.sees.same.layout_is ∙ c.in-Queued.ensures.answer.0.same.layout_is)) c.requires.barrier;
}

pub loop-preserved : goal.loop-preserved
loop-preserved g c = let q = c.queue_waiting.new.self in let l = c.loop.self in let t = c.flush_done.new.self in record {
  next = tt;
  finite = tt;
  sees = sees_on (λ z. []) (λ z. []) 0 0 0 q.known l.known t.known (omega arith) c.loop.invariant.sees c.flush_done.ensures.seen;
  learnt = learnt_on q l t c.loop.invariant.learnt c.flush_done.ensures.learnt;
}

pub returns-then-flush_done : goal.returns-then-flush_done
returns-then-flush_done g c = let s = c.args.self.now.known in let q = c.queue_waiting.new.self in let l = c.loop.self in let t = c.flush_done.new.self in
    let first = c.in-Queued.first in let wakes = c.in-Queued.wakes in let e = c.in-Queued.ensures in let k = barrier_number s.layout c.args.barrier in
    let number : c.barrier-number.result ≡ k =
    c.barrier-number.ensures.number ∙ ap (λ (v : KnownWith g.row.V.Denot). barrier_number v.known.layout c.args.barrier) c.self.view_is in
    let sees = sees_on (λ z. []) (λ z. []) 0 0 0 q.known l.known t.known (omega arith) c.loop.invariant.sees c.flush_done.ensures.seen in
    let learnt = learnt_on q l t c.loop.invariant.learnt c.flush_done.ensures.learnt in
    let told = queued_on k 0 first wakes s q.known t.known
    (subst (λ (j : ℕ). Sees (Hold s.number j ∷ Push s.number j ∷ []) 0 s q.known × IsPushed s.number j first wakes q.known.seen) number e.answer) sees in
    let flushed = subst (λ (z : Layout). HasFlushed (barrier_number z c.args.barrier) t.known.seen)
    (c.loop.invariant.sees.same.layout_is ∙ e.answer.0.same.layout_is) (c.flush_done.ensures.flushed c.if-flush_done.true) in record {
      answer = told;
      learnt = learnt_on c.args.self.now q t e.learnt learnt;
      nothing = brought_still k first wakes None q t (subst (λ (j : ℕ). IsBroughtBy j first wakes None q) number e.nothing) sees learnt;
      same = told.0.same;
      settled = λ is. absurd cc;
      flushed = λ _ _ is. flushed;
      ended = λ _ _ is. flushed_all k 0 first wakes s t.known told.0 told.1 flushed;
    }

pub returns : goal.returns
returns g c = let s = c.args.self.now.known in let q = c.queue_waiting.new.self in let e = c.queue_waiting.ensures in
    let r = c.queue_waiting.result in let k = barrier_number s.layout c.args.barrier in
    let number : c.barrier-number.result ≡ k =
    c.barrier-number.ensures.number ∙ ap (λ (v : KnownWith g.row.V.Denot). barrier_number v.known.layout c.args.barrier) c.self.view_is in
    let told = subst (λ (j : ℕ). Answers j 0 r s q.known) number e.answer in record {
      answer = told;
      learnt = e.learnt;
      nothing = subst (λ (j : ℕ). BringsNothing j r q) number e.nothing;
      same = answers_same k 0 r s q.known told;
      settled = e.settled;
      flushed = λ first wakes is. absurd (c.in_default.not-Queued first wakes is);
      ended = λ first wakes is. absurd (c.in_default.not-Queued first wakes is);
    }
