use Rattle.wq_live.proofs.Common.{◌≡◌, ℕ, not, ap, sym, ◌∙◌, barrier_number, pending, Known}
use Rattle.std.proofs.lemmas.Bool.{not-true}
use Rattle.wq_calls.proofs.Flushed.{flushed}
use Rattle.wq_calls.proofs.Sends.{sees_held}
use Rattle.wq_live.proofs.sender.Sender.flush_done.Goals as goal

number_is : (c : goal.After-is_number_pending) → c.barrier-number.result ≡ barrier_number c.args.self.now.layout c.args.barrier
number_is c = c.barrier-number.ensures.number ∙ ap (λ (v : Known). barrier_number v.layout c.args.barrier) c.self.view_is

pub returns-clause-clear : goal.returns-clause-clear
returns-clause-clear c = ap not (c.is_number_pending.ensures.pending ∙ ap (λ (k : ℕ). pending c.is_number_pending.new.self.seen k) (number_is c))

pub returns-clause-flushed : goal.returns-clause-flushed
returns-clause-flushed c is =
    flushed c.is_number_pending.new.self.layout
    (barrier_number c.args.self.now.layout c.args.barrier) c.is_number_pending.new.self.seen c.is_number_pending.ensures.seen.legal
    (sym (c.is_number_pending.ensures.pending ∙ ap (λ (k : ℕ). pending c.is_number_pending.new.self.seen k) (number_is c)) ∙
    not-true c.is_number_pending.result is)

pub returns-clause-keeps : goal.returns-clause-keeps
returns-clause-keeps c = λ k. sees_held k 0 c.args.self.now c.is_number_pending.new.self c.is_number_pending.ensures.seen
