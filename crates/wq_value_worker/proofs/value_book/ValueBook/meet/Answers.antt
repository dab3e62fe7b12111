use Rattle.std.specs.Prelude.{List}
use mathlib.Core.List.{IsPrefix}
use Rattle.wq_words.specs.declared.event.Event.{Event}
use Rattle.wq_words.specs.Seen.{own}
use Rattle.wq_words.proofs.Seen.{grows_begins}
use Rattle.wq_values.specs.Laws.{IsStillEnd}
use Rattle.wq_values.specs.OwnBrought.{own_brought}
use Rattle.wq_value_worker.specs.ValueBook.{ValueBookState}
use Rattle.wq_ledger.proofs.Common.{ℕ, [], sym, ap, ◌∙◌, subst, Grows, owner_seat, IsLedgerOf}
use Rattle.wq_ledger.proofs.Meeting.{parts_still, made_still, made_now}
use Rattle.wq_calls.proofs.ValueBooks.{brought_still}
use Rattle.wq_value_worker.proofs.value_book.ValueBook.meet.Goals as goal

pub invariant_of-self : goal.invariant_of-self
invariant_of-self g c =
    let i = c.self.inside in parts_still i.owner.known c.meet_owner.new.owner.known i.own c.meet_owner.ensures.that c.self.invariant

pub returns : goal.returns
returns g c =
    let i = c.self.inside in let o = i.owner in let q = c.meet_owner.new.owner in let u = c.meet_owner.new.self.known in
    let m = c.meet_owner.ensures in let is = c.self.view_is in let done = c.self.invariant.complete in
    let number = c.of.ensures.number ∙ c.number.ensures.seat in let counts = c.of.ensures.counts ∙ c.counts.ensures.counted in record {
      made = made_now q.known.seen u.seen u.number c.of.result (sym m.both)
          (parts_still o.known q.known i.own m.that c.self.invariant).complete.0 number counts;
      number = number ∙ m.this.same.number_is;
      counts = counts;
      kept = λ ledger made. made_still o.known.number 0 o.known.seen q.known.seen ledger m.that.grows
          (subst (λ (z : ValueBookState g.row.V.Denot). IsLedgerOf z.book.seen ledger) (sym is) made);
      same = (
        m.that.same.queue_is ∙ ap (λ (z : ValueBookState g.row.V.Denot). z.book.queue) is,
        m.that.same.layout_is ∙ ap (λ (z : ValueBookState g.row.V.Denot). z.book.layout) is,
        ap (λ (z : ValueBookState g.row.V.Denot). z.book.own) is,
      );
      owner = subst (λ (z : ValueBookState g.row.V.Denot). Grows owner_seat [] 0 z.book.seen q.known.seen) is
          (subst (λ (z : ℕ). Grows z [] 0 o.known.seen q.known.seen) m.seat m.that.grows);
      sender = m.this;
      own = m.own.0;
      layout = sym m.layout ∙ ap (λ (z : ValueBookState g.row.V.Denot). z.book.layout) is;
      both = sym m.both;
      last = subst (λ (z : ValueBookState g.row.V.Denot). IsStillEnd z.book.seen q.known.seen) is (m.last done);
      begins = subst (λ (h : List Event). IsPrefix c.args.sender.now.known.seen h) (sym m.both) (grows_begins _ _ _ _ _ m.this.grows);
      in_book = ap (λ (h : List Event). own c.args.sender.now.known.number h) m.both ∙ m.own.0;
      brought = m.end done ∙ ap (λ (z : ValueBookState g.row.V.Denot). z.brought) is;
      of_each = λ s. brought_still s o.known.number 0 o.known.seen q.known.seen o.brought q.brought m.that.grows (m.last done) m.theirs.more
          m.theirs.was_whole ∙ ap (λ (z : ValueBookState g.row.V.Denot). own_brought s z.book.seen z.brought) is;
      both_brought = sym m.brought;
      learnt = m.learnt;
      own_values = m.own_values.0;
    }
