use Rattle.wq_check.proofs.Common.{◌∙◌, sym, refl, false≢true}
use Rattle.wq_check.proofs.Standing.{waiting-waits, idle-rests, next_is, first_of}
use Rattle.wq_check.proofs.queue.Queue.begin_cause.Goals as goal

pub returns-in-Some : goal.returns-in-Some
returns-in-Some c = λ h o. let at = rw (← c.self.view_is) at o in sym at.running_is ∙ c.in-Some.is

pub returns-then-not-is_at : goal.returns-then-not-is_at
returns-then-not-is_at c = λ h o.
    let at = rw (← c.self.view_is) at o in (
      (idle-rests _ h at).0 c.in_default.is,
      λ waits. false≢true (c.if-not-is_at.ensures.1 ((waiting-waits _ h o c.args.number c.requires).1 waits)),
    )

pub returns-in-Some-copied : goal.returns-in-Some-copied
returns-in-Some-copied c = λ h o.
    let at = rw (← c.self.view_is) at o in (
      (idle-rests _ h at).0 c.in_default.is,
      (waiting-waits _ h o c.args.number c.requires).0 (c.if-not-is_at.ensures.0 refl),
      sym (next_is _ h at) ∙ (sym c.front.ensures ∙ (sym c.copied.ensures ∙ c.in-Some-copied.is)),
      c.if-next-number.true,
    )

pub returns-in_default-copied : goal.returns-in_default-copied
returns-in_default-copied c = λ h o.
    let at = rw (← c.self.view_is) at o in (
      (idle-rests _ h at).0 c.in_default.is,
      sym (next_is _ h at) ∙ (sym c.front.ensures ∙ (sym c.copied.ensures ∙ rw c.if-next-number.false at c.in-Some-copied.is)),
    )

pub returns-in_default-copied-2 : goal.returns-in_default-copied-2
returns-in_default-copied-2 c = λ h o.
    let waits = (waiting-waits _ h o c.args.number c.requires).0 (c.if-not-is_at.ensures.0 refl) in
    let at = rw (← c.self.view_is) at o in
    absurd (first_of _ h at c.args.number waits (sym c.front.ensures ∙ (sym c.copied.ensures ∙ c.in_default-copied.is)))
