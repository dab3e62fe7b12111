use Rattle.std.specs.Prelude.{take, length}
use Rattle.wq_words.specs.Headline.{KeepsHeadline}
use Rattle.wq_words.specs.Valued.{AreBrought, IsLegalWith, with_values}
use Rattle.wq_words.specs.History.{accepted, begun, ended}
use Rattle.wq_value_worker.specs.ValueBook.{ValueBookState}
use Rattle.wq_ledger.proofs.Common.{◌≡◌, subst, IsLegal, IsComplete, IsLedgerOf}
use Rattle.wq_ledger.proofs.Meeting.{parts_run}
use Rattle.wq_words.proofs.Valued.{are_brought}
use Rattle.wq_value_worker.proofs.value_book.ValueBook.legal.Goals as goal

pub returns-clause-legal : goal.returns-clause-legal
returns-clause-legal g c = subst (λ (z : ValueBookState g.row.V.Denot). IsLegal z.book.layout z.book.seen) c.self.view_is c.self.invariant.legal

pub returns-clause-complete : goal.returns-clause-complete
returns-clause-complete g c = subst (λ (z : ValueBookState g.row.V.Denot). IsComplete z.book.seen) c.self.view_is c.self.invariant.complete

pub returns-clause-headline : goal.returns-clause-headline
returns-clause-headline g c = subst (λ (z : ValueBookState g.row.V.Denot). KeepsHeadline z.book.seen) c.self.view_is c.legal.ensures.headline

pub returns-clause-own_ledger : goal.returns-clause-own_ledger
returns-clause-own_ledger g c = subst (λ (z : ValueBookState g.row.V.Denot). IsLedgerOf z.book.seen z.book.own) c.self.view_is c.self.invariant.made

pub returns-clause-all_began : goal.returns-clause-all_began
returns-clause-all_began g c =
    let i = c.self.inside in
    subst (λ (z : ValueBookState g.row.V.Denot). begun z.book.seen ≡ accepted z.book.seen) c.self.view_is
    (parts_run i.owner.known i.own c.self.invariant).1

pub returns-clause-all_ended : goal.returns-clause-all_ended
returns-clause-all_ended g c =
    let i = c.self.inside in
    subst (λ (z : ValueBookState g.row.V.Denot). ended z.book.seen ≡ begun z.book.seen) c.self.view_is
    (parts_run i.owner.known i.own c.self.invariant).0

pub returns-clause-values : goal.returns-clause-values
returns-clause-values g c =
    subst (λ (z : ValueBookState g.row.V.Denot). IsLegalWith z.book.layout (with_values z.book.seen z.brought)) c.self.view_is c.legal.ensures.values

pub returns-clause-handed : goal.returns-clause-handed
returns-clause-handed g c =
    subst (λ (z : ValueBookState g.row.V.Denot). take (length (begun z.book.seen)) z.brought ≡ z.brought) c.self.view_is
    (c.done.ensures.handed (c.done.ensures.complete.1 c.self.invariant.complete))

pub returns-clause-whole : goal.returns-clause-whole
returns-clause-whole g c =
    let o = c.self.inside.owner in
    subst (λ (z : ValueBookState g.row.V.Denot). AreBrought z.book.layout.items (accepted z.book.seen) z.brought) c.self.view_is
    (are_brought o.known.layout o.known.seen o.brought c.legal.ensures.matches c.legal.ensures.values)
