use Rattle.std.proofs.Common.{◌≡◌, [], ◌∷◌, ◌++◌, sym, subst}
use Rattle.std.specs.Prelude.{All}
use Rattle.std.proofs.lemmas.List.Elements.{All-append, All-cons, All-nil}
use Rattle.wq_ledger.specs.Book.{IsLedgerOf}
use Rattle.test_queues.proofs.worker.crew.enter.Goals as goal

pub returns-clause-made : goal.returns-clause-made
returns-clause-made g c =
    let P = IsLedgerOf c.meet-ledger.new.self.seen in let old = c.args.ledgers.now.items in let l = c.meet-ledger.result in
    let before : All P old = λ k d low. c.meet-ledger.ensures.kept _ (c.requires.made k d low) in
    let more : c.push.new.self.items ≡ old ++ l ∷ [] = rw c.expect.ensures at c.push.ensures.items in
    subst (All P) (sym more) (All-append P old (l ∷ []) before (All-cons P l [] c.meet-ledger.ensures.made (All-nil P)))
