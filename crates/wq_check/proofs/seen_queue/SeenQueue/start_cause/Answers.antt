use Rattle.std.proofs.Common.{◌∙◌, sym}
use Rattle.wq_check.proofs.Looking.{idle-rests, next_is, waits_none, waits_some, first_of}
use Rattle.wq_check.proofs.seen_queue.SeenQueue.start_cause.Goals as goal

pub returns-then-times_of-eq0 : goal.returns-then-times_of-eq0
returns-then-times_of-eq0 c = λ t o.
    let at = rw (← c.self.view_is) at o in
    ((idle-rests _ t at).0 c.in_default.is, waits_none _ t o c.args.number c.requires (sym c.times_of.ensures ∙ c.if-times_of-eq0.true))

pub returns-in-Some-copied : goal.returns-in-Some-copied
returns-in-Some-copied c = λ t o.
    let at = rw (← c.self.view_is) at o in (
      (idle-rests _ t at).0 c.in_default.is,
      waits_some _ t o c.args.number c.requires (λ none. c.if-times_of-eq0.false (c.times_of.ensures ∙ none)),
      sym (next_is _ t at) ∙ (sym c.front.ensures ∙ (sym c.copied.ensures ∙ c.in-Some-copied.is)),
      c.if-next-number.true,
    )

pub returns-in_default-copied : goal.returns-in_default-copied
returns-in_default-copied c = λ t o.
    let at = rw (← c.self.view_is) at o in (
      (idle-rests _ t at).0 c.in_default.is,
      sym (next_is _ t at) ∙ (sym c.front.ensures ∙ (sym c.copied.ensures ∙ rw c.if-next-number.false at c.in-Some-copied.is)),
    )

pub returns-in_default-copied-2 : goal.returns-in_default-copied-2
returns-in_default-copied-2 c = λ t o.
    let waits = waits_some _ t o c.args.number c.requires (λ none. c.if-times_of-eq0.false (c.times_of.ensures ∙ none)) in
    let at = rw (← c.self.view_is) at o in
    absurd (first_of _ t at c.args.number waits (sym c.front.ensures ∙ (sym c.copied.ensures ∙ c.in_default-copied.is)))
