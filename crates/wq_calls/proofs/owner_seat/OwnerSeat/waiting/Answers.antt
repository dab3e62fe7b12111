use Rattle.wq_calls.proofs.Common.{refl, ℕ, List, ◌≡◌, length, ap, arith, number_count, owning, owner_view, kept_batch}
use Rattle.wq_calls.proofs.Waiting.{stands_walked}
use Rattle.wq_calls.proofs.OwnerTells.{owner_batch}
use Rattle.wq_calls.proofs.owner_seat.OwnerSeat.waiting.Goals as goal

pub returns-clause-count : goal.returns-clause-count
returns-clause-count g c = let s = owning c.args.self.now in let o = c.requires.owns.queue in
    omega (arith, ap (λ (xs : List ℕ). length xs) (owner_batch s (owner_view (owning c.args.self.now)) refl o), o.has_row.row_is.count_is)

pub returns-clause-few : goal.returns-clause-few
returns-clause-few g c = let s = owning c.args.self.now in let o = c.requires.owns.queue in let p = s.chair.part in
    let layout : number_count p.layout ≡ number_count s.layout = ap number_count o.layout_is in
    omega (arith, layout, stands_walked p (kept_batch p.stage) o.stands o.has_row.stage_is, o.has_row.row_is.count_is)
