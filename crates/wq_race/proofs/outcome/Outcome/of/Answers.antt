use Rattle.wq_race.proofs.Common.{◌≡◌, ℕ, ◌*◌, List, length, sym, ap, ◌∙◌, subst, running_same, Known, LedgerState, MatchBool, Unbalanced, IsUnbalanced}
use Rattle.wq_race.proofs.Common.{sender_counts, IsWhole, All, IsLedgerOf, arith}
use Rattle.wq_ledger.specs.declared.totals.Totals.{Totals}
use Rattle.wq_ledger.specs.Balance.{Balances}
use Rattle.wq_race.proofs.Booking.{sum_same}
use Rattle.wq_race.proofs.Ended.{IsOver, surely, never_unbalanced, tells, ran_all, all_counted, senders_count}
use Rattle.wq_race.proofs.outcome.Outcome.of.Goals as goal

pub meet_senders-requires-clause-one : goal.meet_senders-requires-clause-one
meet_senders-requires-clause-one g c = let run = c.requires.run.1 in λ k d lt. (run.each k d (omega (arith, lt, run.count))).queue_is

pub meet_senders-requires-clause-legal : goal.meet_senders-requires-clause-legal
meet_senders-requires-clause-legal g c = c.requires.run.1.legal

pub destroy-work-requires-clause-seat : goal.destroy-work-requires-clause-seat
destroy-work-requires-clause-seat g c = let run = c.requires.run in
    λ is. omega (arith, is, c.meet_senders.ensures.worker.same.number_is, run.1.number_is, run.0.in_limits.few_senders)

pub destroy-work-requires-clause-idle : goal.destroy-work-requires-clause-idle
destroy-work-requires-clause-idle g c = λ runs. c.requires.run.1.idle
    (running_same c.meet_senders.new.worker.seen c.args.team.worker.seen (sym c.meet_senders.ensures.worker.untouched) runs)

pub destroy-work-requires-clause-legal : goal.destroy-work-requires-clause-legal
destroy-work-requires-clause-legal g c = c.meet_senders.ensures.worker.legal

pub settle-requires-clause-one : goal.settle-requires-clause-one
settle-requires-clause-one g c = let run = c.requires.run.1 in let known = c.meet_senders.ensures.senders in
    λ k d lt. (known.each k d (omega (arith, lt, known.count))).same.queue_is ∙ ((run.each k d (omega (arith, lt, known.count, run.count))).queue_is
    ∙ sym (c.destroy-work.ensures.queue_is ∙ c.meet_senders.ensures.worker.same.queue_is))

pub settle-requires-clause-program : goal.settle-requires-clause-program
settle-requires-clause-program g c = c.requires.run.1.program_queue ∙ sym (c.destroy-work.ensures.queue_is
    ∙ c.meet_senders.ensures.worker.same.queue_is)

pub is_balanced-is_balanced-requires : goal.is_balanced-is_balanced-requires
is_balanced-is_balanced-requires g c = subst (All (IsLedgerOf c.in_ok-book.book.seen)) (sym c.deref-2.ensures.value) c.in_ok-book.ensures.made

pub returns : goal.returns
returns g c = record {
  told = λ plan run.
      let w = c.meet_senders.new.worker in let xs = c.meet_senders.new.senders.items in let work = c.destroy-work.result.0 in
      let book = c.destroy-work.result.1 in let last = c.in_ok-book.book in let ledgers = c.in_ok-book.ledgers.items in
      let over : IsOver plan c.args.team w xs work book last ledgers = record {
        run = run;
        met = c.meet_senders.ensures.worker;
        known = c.meet_senders.ensures.senders;
        ended = c.destroy-work.ensures;
        settled = c.in_ok-book.ensures;
      } in
      let count = senders_count plan c.args.team w xs work book last ledgers over in
      let all = subst (λ (ks : List Known). All (λ (s : Known). (sender_counts s.number s.seen).queued ≡ plan.own) ks)
      (sym c.deref.ensures.value) (all_counted plan c.args.team w xs work book last ledgers over) in
      let long : length c.deref.result.now ≡ plan.senders = ap length c.deref.ensures.value ∙ count in
      let product : length c.deref.result.now * plan.own ≡ plan.senders * plan.own = ap (λ (n : ℕ). n * plan.own) long in
      let never = never_unbalanced plan c.args.team w xs work book last ledgers over in
      let answer = subst (λ (ls : List LedgerState). MatchBool c.is_balanced-is_balanced.result ((totals : Totals) × Balances last ls totals)
      ((fault : Unbalanced) × IsUnbalanced last ls fault)) c.deref-2.ensures.value c.is_balanced-is_balanced.ensures in
      let whole : IsWhole plan _ = record {
        accepted_is = c.queued_by-accepted.ensures.sum
            ∙ (sum_same (λ (s : Known). (sender_counts s.number s.seen).queued) plan.own c.deref.result.now all ∙ product);
        balanced = surely c.is_balanced-is_balanced.result _ _ answer (λ fault. never fault.0 fault.1);
        ran_is = c.from-ran.ensures ∙ (c.count.ensures.ran ∙ ran_all plan c.args.team w xs work book last ledgers over);
      } in
      (whole, tells plan c.args.team w xs work book last ledgers over _ whole answer);
}
