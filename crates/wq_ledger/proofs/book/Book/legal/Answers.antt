use Rattle.wq_words.specs.Headline.{KeepsHeadline}
use Rattle.wq_words.proofs.Headlines.{keeps_headline}
use Rattle.wq_ledger.proofs.Common.{◌≡◌, subst, IsLegal, IsComplete, IsLedgerOf, BookState}
use Rattle.wq_words.specs.History.{accepted, begun, ended}
use Rattle.wq_ledger.proofs.Meeting.{parts_run}
use Rattle.wq_ledger.proofs.book.Book.legal.Goals as goal

pub returns-clause-legal : goal.returns-clause-legal
returns-clause-legal c = subst (λ (z : BookState). IsLegal z.layout z.seen) c.self.view_is c.self.invariant.legal

pub returns-clause-complete : goal.returns-clause-complete
returns-clause-complete c = subst (λ (z : BookState). IsComplete z.seen) c.self.view_is c.self.invariant.complete

pub returns-clause-headline : goal.returns-clause-headline
returns-clause-headline c =
    let o = c.self.inside.owner in subst (λ (z : BookState). KeepsHeadline z.seen) c.self.view_is (keeps_headline o.layout o.seen c.self.invariant.legal)

pub returns-clause-own_ledger : goal.returns-clause-own_ledger
returns-clause-own_ledger c = subst (λ (z : BookState). IsLedgerOf z.seen z.own) c.self.view_is c.self.invariant.made

pub returns-clause-all_began : goal.returns-clause-all_began
returns-clause-all_began c =
    let i = c.self.inside in subst (λ (z : BookState). begun z.seen ≡ accepted z.seen) c.self.view_is (parts_run i.owner i.own c.self.invariant).1

pub returns-clause-all_ended : goal.returns-clause-all_ended
returns-clause-all_ended c =
    let i = c.self.inside in subst (λ (z : BookState). ended z.seen ≡ begun z.seen) c.self.view_is (parts_run i.owner i.own c.self.invariant).0
