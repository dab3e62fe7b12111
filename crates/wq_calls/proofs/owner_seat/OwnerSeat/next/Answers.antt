use Rattle.wq_calls.proofs.Common.{refl, ◌≡◌, ℕ, List, [], slice_get, ap, sym, ◌∙◌, arith, owning, owner_view, kept_batch, nil_from_length}
use Rattle.wq_calls.proofs.Hanging.{first_of_row}
use Rattle.wq_calls.proofs.OwnerTells.{owner_batch}
use Rattle.wq_calls.proofs.owner_seat.OwnerSeat.next.Goals as goal

pub returns-then-self-eq0 : goal.returns-then-self-eq0
returns-then-self-eq0 g c = let s = owning c.args.self.now in let o = c.requires.owns.queue in
    let none : kept_batch s.chair.part.stage ≡ [] =
    nil_from_length (kept_batch s.chair.part.stage) (omega (arith, c.if-self-eq0.true, o.has_row.row_is.count_is)) in
    record { first = ap (λ (xs : List ℕ). slice_get xs 0) (sym none ∙ owner_batch s (owner_view (owning c.args.self.now)) refl o) }

pub returns : goal.returns
returns g c = let s = owning c.args.self.now in let o = c.requires.owns.queue in
    let front = first_of_row s.row s.chair.part o.has_row (omega (arith, c.if-self-eq0.false)) in
    record { first = ap (λ (xs : List ℕ). slice_get xs 0) (sym (ap kept_batch front.1) ∙ owner_batch s (owner_view (owning c.args.self.now)) refl o) }
