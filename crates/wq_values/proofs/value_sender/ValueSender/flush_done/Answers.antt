use Rattle.wq_values.proofs.Common.{ℕ, not, ap, sym, ◌∙◌, pending, barrier_number, KnownWith}
use Rattle.std.proofs.lemmas.Bool.{not-true}
use Rattle.wq_calls.proofs.Flushed.{flushed}
use Rattle.wq_calls.proofs.OwnBrought.{own_stays}
use Rattle.wq_values.proofs.value_sender.ValueSender.flush_done.Goals as goal

pub returns-clause-clear : goal.returns-clause-clear
returns-clause-clear g c =
    let number = c.barrier-number.ensures.number ∙ ap (λ (v : KnownWith g.row.V.Denot). barrier_number v.known.layout c.args.barrier) c.self.view_is in
    ap not (c.is_number_pending.ensures.pending ∙ ap (λ (k : ℕ). pending c.is_number_pending.new.self.known.seen k) number)

pub returns-clause-flushed : goal.returns-clause-flushed
returns-clause-flushed g c is = let t = c.is_number_pending.new.self.known in
    let number = c.barrier-number.ensures.number ∙ ap (λ (v : KnownWith g.row.V.Denot). barrier_number v.known.layout c.args.barrier) c.self.view_is in
    flushed t.layout (barrier_number c.args.self.now.known.layout c.args.barrier) t.seen c.is_number_pending.ensures.seen.legal
    (sym (c.is_number_pending.ensures.pending ∙ ap (λ (k : ℕ). pending t.seen k) number) ∙ not-true c.is_number_pending.result is)

pub returns-clause-own_values : goal.returns-clause-own_values
returns-clause-own_values g c = own_stays 0 c.args.self.now _ c.is_number_pending.ensures.seen c.is_number_pending.ensures.learnt
