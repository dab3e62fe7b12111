use Rattle.wq_race.proofs.Common.{[], ◌∷◌, ◌++◌, sym, subst, ap, ◌∙◌, All, All-append, All-cons, All-nil, LedgerState, IsLedgerOf}
use Rattle.wq_race.proofs.Booking.{ledger_same}
use Rattle.wq_race.proofs.outcome.enter.Goals as goal

pub returns-clause-made : goal.returns-clause-made
returns-clause-made c =
    let P = IsLedgerOf c.meet-ledger.new.self.seen in let old = c.args.ledgers.now.items in let l = c.meet-ledger.result in
    let before : All P old = λ k d low. c.meet-ledger.ensures.kept _ (c.requires.made k d low) in
    subst (All P) (sym c.in_ok-push.ensures.items) (All-append P old (l ∷ []) before (All-cons P l [] c.meet-ledger.ensures.made (All-nil P)))

pub returns-clause-ledger : goal.returns-clause-ledger
returns-clause-ledger c =
    let m = c.meet-ledger.ensures in
    c.in_ok-push.ensures.items ∙ ap (λ (l : LedgerState). c.args.ledgers.now.items ++ l ∷ [])
    (ledger_same c.args.sender.now c.meet-ledger.new.sender c.meet-ledger.result m.sender m.number m.counts)
