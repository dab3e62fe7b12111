use Rattle.wq_calls.proofs.Common.{sym, refl, ◌∙◌, false≢true, closed_shuts, owning, owner_view}
use Rattle.wq_calls.proofs.Final.{final, owner_complete, owner_rested, owner_finished, closed_known, owner_all}
use Rattle.wq_calls.proofs.owner_seat.OwnerSeat.done.Goals as goal
use Rattle.wq_calls.proofs.owner_seat.OwnerSeat.done.Goals.{then-not-is_closed-via-then-not-is_closed}
use Rattle.wq_calls.proofs.owner_seat.OwnerSeat.done.Goals.{then-not-is_closed-via-else-not-is_closed+then-self-ne0}
use Rattle.wq_calls.proofs.owner_seat.OwnerSeat.done.Goals.{then-not-is_closed-via-else-not-is_closed+else-self-ne0+then-is_some}

pub returns-then-not-is_closed-clause-complete : goal.returns-then-not-is_closed-clause-complete
returns-then-not-is_closed-clause-complete g c = let s = owning c.args.self.now in let o = c.requires.owns.queue in (
  (λ e. absurd (false≢true e)),
  (λ complete. let closes = closed_known s (owner_view s) refl o c.is_closed.result c.is_closed.ensures.closed complete.0 in
      let rest = owner_rested s (owner_view s) refl o complete.1 in elim c.then-not-is_closed.branch [
        | then-not-is_closed-via-then-not-is_closed w ↦ absurd (false≢true (sym w.if-not-is_closed.true ∙ closes))
        | then-not-is_closed-via-else-not-is_closed+then-self-ne0 w ↦ absurd (w.if-self-ne0.true rest.0)
        | then-not-is_closed-via-else-not-is_closed+else-self-ne0+then-is_some w ↦
            absurd (false≢true (sym rest.1 ∙ (sym w.is_some.ensures ∙ w.if-is_some.true)))
      ]),
)

pub returns-then-not-is_closed-clause-finished : goal.returns-then-not-is_closed-clause-finished
returns-then-not-is_closed-clause-finished g c closes none idle = let s = owning c.args.self.now in let o = c.requires.owns.queue in
    let known = closed_known s (owner_view s) refl o c.is_closed.result c.is_closed.ensures.closed closes in
    let rest = owner_finished s (owner_view s) refl o none idle in elim c.then-not-is_closed.branch [
      | then-not-is_closed-via-then-not-is_closed w ↦ absurd (false≢true (sym w.if-not-is_closed.true ∙ known))
      | then-not-is_closed-via-else-not-is_closed+then-self-ne0 w ↦ absurd (w.if-self-ne0.true rest.0)
      | then-not-is_closed-via-else-not-is_closed+else-self-ne0+then-is_some w ↦
          absurd (false≢true (sym rest.1 ∙ (sym w.is_some.ensures ∙ w.if-is_some.true)))
    ]

pub returns-clause-complete : goal.returns-clause-complete
returns-clause-complete g c = let s = owning c.args.self.now in (
  (λ _. owner_complete s (owner_view s) refl c.requires.owns.queue c.is_closed.result c.is_closed.ensures.closed
      c.if-not-is_closed.false c.if-self-ne0.false (sym c.is_some.ensures ∙ c.if-is_some.false)),
  (λ _. refl),
)

pub returns-clause-last : goal.returns-clause-last
returns-clause-last g c = let s = owning c.args.self.now in λ some.
    final (owner_view s).layout (owner_view s).seen ((returns-clause-complete g c).0 some)

pub returns-clause-all : goal.returns-clause-all
returns-clause-all g c = let s = owning c.args.self.now in λ some. let complete = (returns-clause-complete g c).0 some in
    owner_all s (owner_view s) refl c.requires.owns.queue (closed_shuts (owner_view s).seen complete.0, complete.1)
