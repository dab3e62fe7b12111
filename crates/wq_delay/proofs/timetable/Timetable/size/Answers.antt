use Rattle.wq_delay.proofs.Common.{◌≡◌, ℕ, ◌<◌, true, subst, on_table, entries_of, Rows}
use Rattle.wq_delay.proofs.Rows.{in_places}
use Rattle.wq_delay.proofs.Spelled.{entries_rows}
use Rattle.wq_delay.proofs.timetable.Timetable.size.Goals as goal

pub returns-clause-low : goal.returns-clause-low
returns-clause-low c =
    let places = c.self.inside.places.items in
    subst (λ (z : Rows). (k : ℕ) → on_table k z.entries ≡ true → k < z.size) c.self.view_is
    (λ k on. in_places places (entries_of places) k (entries_rows places c.self.invariant.0.apart) on)
