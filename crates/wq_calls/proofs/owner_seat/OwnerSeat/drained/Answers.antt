use Rattle.wq_calls.proofs.Common.{◌≡◌, Bool, true, false, not, IsTrue, refl, ap, ◌∙◌, false≢true, owning, owner_view}
use Rattle.wq_calls.proofs.Final.{owner_ended, owner_rested, owner_finished, owner_empty, owner_quiet, owner_all}
use Rattle.wq_calls.proofs.owner_seat.OwnerSeat.drained.Goals as goal

none_true : (none some : Bool) → some ≡ not none → some ≡ false → IsTrue none
none_true true some is others = refl
none_true false some is others = absurd (cc (is, others))

pub returns-then-self-ne0-clause-drained : goal.returns-then-self-ne0-clause-drained
returns-then-self-ne0-clause-drained g c = let s = owning c.args.self.now in (
  (λ no. absurd (false≢true no)),
  (λ out. absurd (c.if-self-ne0.true (owner_rested s (owner_view s) refl c.requires.owns.queue out.1.1).0)),
)

pub returns-then-self-ne0-clause-finished : goal.returns-then-self-ne0-clause-finished
returns-then-self-ne0-clause-finished g c drains none idle = let s = owning c.args.self.now in
    absurd (c.if-self-ne0.true (owner_finished s (owner_view s) refl c.requires.owns.queue none idle).0)

pub returns-clause-drained : goal.returns-clause-drained
returns-clause-drained g c = let s = owning c.args.self.now in let o = c.requires.owns.queue in
    let drains = c.is_draining.ensures.draining.0 c.if-not-is_draining.false in (
      (λ none. (drains, (drains.0, owner_ended s (owner_view s) refl o drains.0 c.if-self-ne0.false (c.is_none.ensures ∙ ap not none)))),
      (λ out. none_true c.is_none.result _ c.is_none.ensures (owner_rested s (owner_view s) refl o out.1.1).1),
    )

pub returns-clause-all : goal.returns-clause-all
returns-clause-all g c none = let s = owning c.args.self.now in let drains = c.is_draining.ensures.draining.0 c.if-not-is_draining.false in
    owner_all s (owner_view s) refl c.requires.owns.queue
    (drains.0, owner_ended s (owner_view s) refl c.requires.owns.queue drains.0 c.if-self-ne0.false (c.is_none.ensures ∙ ap not none))

pub returns-clause-resumable : goal.returns-clause-resumable
returns-clause-resumable g c none = let s = owning c.args.self.now in let o = c.requires.owns.queue in
    (owner_empty s (owner_view s) refl o c.if-self-ne0.false, owner_quiet s (owner_view s) refl o (c.is_none.ensures ∙ ap not none))

pub returns-clause-finished : goal.returns-clause-finished
returns-clause-finished g c drains none idle = let s = owning c.args.self.now in
    none_true c.is_none.result _ c.is_none.ensures (owner_finished s (owner_view s) refl c.requires.owns.queue none idle).1
