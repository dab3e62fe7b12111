use Rattle.std.proofs.Common.{refl, inl, inr}
use Rattle.wq_words.specs.declared.event.Event.TheVariants.{Hold, Busy, Push, Back, Close, Drain, Resume, Begin, End, Chain, ChainBusy, Take, Rest}
use Rattle.wq_check.proofs.Following.{after_kept, kept_on, finds_room}
use Rattle.wq_check.proofs.queue.Queue.make.Goals as goal

pub invariant_of-self : goal.invariant_of-self
invariant_of-self c =
    let may = rw (← c.self.view_is, c.in-Hold.is) at c.requires in
    let told = c.self.invariant in
    kept_on _ _ told.1.0 told.1.1 (Hold c.in-Hold.sender c.in-Hold.number) told.0 (may told.1.0 told.1.1) refl

pub invariant_of-self-in-Back-1 : goal.invariant_of-self-in-Back-1
invariant_of-self-in-Back-1 c =
    let may = rw (← c.self.view_is, c.in-Back.is) at c.requires in
    let told = c.self.invariant in
    kept_on _ _ told.1.0 told.1.1 (Back c.in-Back.field-0 c.in-Back.number c.in-Back.field-2) told.0 (may told.1.0 told.1.1) refl

pub invariant_of-self-in-Close-1 : goal.invariant_of-self-in-Close-1
invariant_of-self-in-Close-1 c =
    let may = rw (← c.self.view_is, c.in-Close.is) at c.requires in
    let told = c.self.invariant in
    kept_on _ _ told.1.0 told.1.1 Close told.0 (may told.1.0 told.1.1) refl

pub invariant_of-self-in-Drain-1 : goal.invariant_of-self-in-Drain-1
invariant_of-self-in-Drain-1 c =
    let may = rw (← c.self.view_is, c.in-Drain.is) at c.requires in
    let told = c.self.invariant in
    kept_on _ _ told.1.0 told.1.1 Drain told.0 (may told.1.0 told.1.1) refl

pub invariant_of-self-in-Resume-1 : goal.invariant_of-self-in-Resume-1
invariant_of-self-in-Resume-1 c =
    let may = rw (← c.self.view_is, c.in-Resume.is) at c.requires in
    let told = c.self.invariant in
    kept_on _ _ told.1.0 told.1.1 Resume told.0 (may told.1.0 told.1.1) refl

pub invariant_of-self-in-Begin-1 : goal.invariant_of-self-in-Begin-1
invariant_of-self-in-Begin-1 c =
    let may = rw (← c.self.view_is, c.in-Begin.is) at c.requires in
    let told = c.self.invariant in
    rw (c.pop_front-self-inside.ensures.items) (kept_on _ _ told.1.0 told.1.1 (Begin c.in-Begin.number) told.0 (may told.1.0 told.1.1) refl)

pub invariant_of-self-in-End-1 : goal.invariant_of-self-in-End-1
invariant_of-self-in-End-1 c =
    let may = rw (← c.self.view_is, c.in-End.is) at c.requires in
    let told = c.self.invariant in
    kept_on _ _ told.1.0 told.1.1 (End c.in-End.field-0) told.0 (may told.1.0 told.1.1) refl

pub invariant_of-self-in-Push : goal.invariant_of-self-in-Push
invariant_of-self-in-Push c =
    let k = c.in-Push.number in
    let told = c.self.invariant in
    elim c.in-Push.is [
      | inl pushed ↦
          let may = (rw (← c.self.view_is, pushed.1) at c.requires) told.1.0 told.1.1 in
          let fits = finds_room _ _ told.1.0 told.1.1 (Push pushed.0 k) told.0 may k refl refl in
          rw (c.push_back.ensures.items, fits) (kept_on _ _ told.1.0 told.1.1 (Push pushed.0 k) told.0 may refl)
      | inr chained ↦
          let may = (rw (← c.self.view_is, chained) at c.requires) told.1.0 told.1.1 in
          let fits = finds_room _ _ told.1.0 told.1.1 (Chain k) told.0 may k refl refl in
          rw (c.push_back.ensures.items, fits) (kept_on _ _ told.1.0 told.1.1 (Chain k) told.0 may refl)
    ]

pub returns-in-Hold-clause-told : goal.returns-in-Hold-clause-told
returns-in-Hold-clause-told c = λ h o.
    let at = rw (← c.self.view_is) at o in
    let may = (rw (← c.self.view_is, c.in-Hold.is) at c.requires) h at in
    rw c.in-Hold.is (after_kept _ h at (Hold c.in-Hold.sender c.in-Hold.number) may)

pub returns-in-Back-clause-told : goal.returns-in-Back-clause-told
returns-in-Back-clause-told c = λ h o.
    let at = rw (← c.self.view_is) at o in
    let may = (rw (← c.self.view_is, c.in-Back.is) at c.requires) h at in
    rw c.in-Back.is (after_kept _ h at (Back c.in-Back.field-0 c.in-Back.number c.in-Back.field-2) may)

pub returns-in-Close-clause-told : goal.returns-in-Close-clause-told
returns-in-Close-clause-told c = λ h o.
    let at = rw (← c.self.view_is) at o in
    let may = (rw (← c.self.view_is, c.in-Close.is) at c.requires) h at in
    rw c.in-Close.is (after_kept _ h at Close may)

pub returns-in-Drain-clause-told : goal.returns-in-Drain-clause-told
returns-in-Drain-clause-told c = λ h o.
    let at = rw (← c.self.view_is) at o in
    let may = (rw (← c.self.view_is, c.in-Drain.is) at c.requires) h at in
    rw c.in-Drain.is (after_kept _ h at Drain may)

pub returns-in-Resume-clause-told : goal.returns-in-Resume-clause-told
returns-in-Resume-clause-told c = λ h o.
    let at = rw (← c.self.view_is) at o in
    let may = (rw (← c.self.view_is, c.in-Resume.is) at c.requires) h at in
    rw c.in-Resume.is (after_kept _ h at Resume may)

pub returns-in-Begin-clause-told : goal.returns-in-Begin-clause-told
returns-in-Begin-clause-told c = λ h o.
    let at = rw (← c.self.view_is) at o in
    let may = (rw (← c.self.view_is, c.in-Begin.is) at c.requires) h at in
    rw (c.in-Begin.is, c.pop_front-self-inside.ensures.items) (after_kept _ h at (Begin c.in-Begin.number) may)

pub returns-in-End-clause-told : goal.returns-in-End-clause-told
returns-in-End-clause-told c = λ h o.
    let at = rw (← c.self.view_is) at o in
    let may = (rw (← c.self.view_is, c.in-End.is) at c.requires) h at in
    rw c.in-End.is (after_kept _ h at (End c.in-End.field-0) may)

pub returns-in-Busy-clause-told : goal.returns-in-Busy-clause-told
returns-in-Busy-clause-told c = λ h o. elim c.in-Busy.is [
  | inl busy ↦ rw busy.2 (after_kept _ h o (Busy busy.0 busy.1) ((rw busy.2 at c.requires) h o))
  | inr more ↦ elim more [
    | inl busy ↦ rw busy.1 (after_kept _ h o (ChainBusy busy.0) ((rw busy.1 at c.requires) h o))
    | inr last ↦ elim last [
      | inl takes ↦ rw takes (after_kept _ h o Take ((rw takes at c.requires) h o))
      | inr rests ↦ rw rests (after_kept _ h o Rest ((rw rests at c.requires) h o))
    ]
  ]
]

pub returns-in-Push-clause-told : goal.returns-in-Push-clause-told
returns-in-Push-clause-told c = λ h o.
    let k = c.in-Push.number in
    let at = rw (← c.self.view_is) at o in
    let size = c.self.invariant.0 in
    elim c.in-Push.is [
      | inl pushed ↦
          let may = (rw (← c.self.view_is, pushed.1) at c.requires) h at in
          let fits = finds_room _ _ h at (Push pushed.0 k) size may k refl refl in
          rw (pushed.1, c.push_back.ensures.items, fits) (after_kept _ h at (Push pushed.0 k) may)
      | inr chained ↦
          let may = (rw (← c.self.view_is, chained) at c.requires) h at in
          let fits = finds_room _ _ h at (Chain k) size may k refl refl in
          rw (chained, c.push_back.ensures.items, fits) (after_kept _ h at (Chain k) may)
    ]
