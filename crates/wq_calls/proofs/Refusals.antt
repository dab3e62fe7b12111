-- An owner that does not drain its queue sees no queueing on it refused for a drain.
use Rattle.wq_calls.proofs.Common.{◌≡◌, ℕ, List, [], ◌++◌, length, refl, ap, ◌∙◌, subst, arith, Event, IsShut, owner_seat, own, HasMetDrain}
use Rattle.std.proofs.Common.{◌+◌, ◌-◌, ◌≤◌, cond, take}
use Rattle.std.specs.Prelude.{count_by}
use Rattle.wq_words.specs.Seen.{Grows}
use Rattle.wq_calls.proofs.Phases.{is_phase_change}
use Rattle.std.proofs.Math.Seq.{take-append-add}
use Rattle.std.proofs.lemmas.List.Sums.{sum_by-take-le}
use Rattle.wq_words.proofs.Seen.{count_own}
use Rattle.wq_calls.proofs.PhaseKept.{phase_change_own, open_still, phase_grown}

-- at no moment since it was open has a queue drained that its owner left alone
pub met_none : (n : ℕ) (v w : List Event) → Grows owner_seat [] n v w → ¬ IsShut v → ¬ HasMetDrain v w
met_none n v w g opens met =
    let j = met.0 - length v in
    let front : List Event = take j g.new in
    let none : count_by is_phase_change g.new ≡ 0 = count_own is_phase_change owner_seat phase_change_own g.new ∙ ap (count_by is_phase_change) g.mine in
    let few : count_by is_phase_change front ≤ count_by is_phase_change g.new = sum_by-take-le (λ e. cond {A = ℕ} (is_phase_change e) 1 0) g.new j in
    let same : count_by is_phase_change front ≡ count_by is_phase_change (own owner_seat front) = count_own is_phase_change owner_seat phase_change_own front in
    let h : Grows owner_seat (own owner_seat front) 0 v (v ++ front) = record { new = front; is = refl; mine = refl; theirs = omega arith } in
    let at : met.0 ≡ length v + j = omega (arith, met.1) in
    let is : take met.0 w ≡ v ++ front = (λ i. take (at i) (g.is i)) ∙ take-append-add v g.new j in
    open_still v (v ++ front) (phase_grown (own owner_seat front) 0 v (v ++ front) h (omega (arith, none, few, same))) opens (subst IsShut is met.2.0)
