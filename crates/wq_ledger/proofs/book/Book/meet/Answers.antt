use Rattle.wq_live.specs.Laws.{IsStillEnd}
use Rattle.wq_ledger.proofs.Common.{ℕ, [], sym, ap, ◌∙◌, subst, Grows, owner_seat, IsLedgerOf, BookState}
use Rattle.wq_ledger.proofs.Meeting.{parts_still, made_still, made_now}
use Rattle.wq_ledger.proofs.book.Book.meet.Goals as goal

pub invariant_of-self : goal.invariant_of-self
invariant_of-self c =
    let i = c.self.inside in parts_still i.owner c.meet_owner.new.owner i.own c.meet_owner.ensures.that c.self.invariant

pub returns-clause-made : goal.returns-clause-made
returns-clause-made c =
    let m = c.meet_owner.ensures in let q = c.meet_owner.new.owner in let u = c.meet_owner.new.self in
    made_now q.seen u.seen u.number c.of.result (sym m.both) (invariant_of-self c).complete.0 (c.of.ensures.number ∙ c.number.ensures.seat)
    (c.of.ensures.counts ∙ c.counts.ensures.counted)

pub returns-clause-kept : goal.returns-clause-kept
returns-clause-kept c ledger made =
    let o = c.self.inside.owner in let m = c.meet_owner.ensures in let q = c.meet_owner.new.owner in
    let old : IsLedgerOf o.seen ledger = subst (λ (z : BookState). IsLedgerOf z.seen ledger) (sym c.self.view_is) made in
    made_still o.number 0 o.seen q.seen ledger m.that.grows old

pub returns-clause-owner : goal.returns-clause-owner
returns-clause-owner c =
    let o = c.self.inside.owner in let m = c.meet_owner.ensures in let q = c.meet_owner.new.owner in
    let g : Grows owner_seat [] 0 o.seen q.seen = subst (λ (z : ℕ). Grows z [] 0 o.seen q.seen) m.seat m.that.grows in
    subst (λ (z : BookState). Grows owner_seat [] 0 z.seen q.seen) c.self.view_is g

pub returns-clause-layout : goal.returns-clause-layout
returns-clause-layout c = sym c.meet_owner.ensures.layout ∙ ap (λ (z : BookState). z.layout) c.self.view_is

pub returns-clause-last : goal.returns-clause-last
returns-clause-last c =
    let q = c.meet_owner.new.owner in subst (λ (z : BookState). IsStillEnd z.seen q.seen) c.self.view_is (c.meet_owner.ensures.last c.self.invariant.complete)
