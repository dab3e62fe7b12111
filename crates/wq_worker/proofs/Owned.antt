-- What has begun and ended, and whether the queue is shut, changes by the owner's events alone.
use Rattle.wq_worker.proofs.Common.{◌≡◌, ℕ, ◌+◌, false, ◌==◌, List, [], ◌++◌, sym, refl, ap, ◌∙◌, arith, or_parts, count_by, append-nil}
use Rattle.wq_worker.proofs.Common.{filter_map-append, Event, begun_by, begun, ended, running, owner_seat, seat_of, own, Grows, count_by-append}
use Rattle.wq_worker.proofs.Common.{is_ours, Adds, is_phase_change}
use Rattle.wq_words.specs.History.{ended_by, is_close, is_drain}
use Rattle.wq_words.proofs.Seen.{filter-filter, own-own, begun_same, ended_same, closed_count, count_own, count_same}
use Rattle.wq_calls.proofs.Owned.{begun_on, ended_on, closes_on}
use Rattle.wq_calls.proofs.PhaseKept.{phase_change_own, SamePhase, drains_on, phase_grown}
use Rattle.wq_words.proofs.ShutOwn.{drain_own}

-- from v to w the owner's events among these were added
pub record OwnerAdds (es v w : List Event) : Type 0 where
  pub begun_is : begun w ≡ begun v ++ begun es
  pub ended_is : ended w ≡ ended v ++ ended es
  pub closes : count_by is_close w ≡ count_by is_close v + count_by is_close es
  pub drains : count_by is_drain w ≡ count_by is_drain v + count_by is_drain es
  -- where they hold neither a close nor a drain nor a resume
  pub phase : count_by is_phase_change es ≡ 0 → SamePhase v w

pub owner_grows : (es : List Event) (n : ℕ) (v w : List Event) → Grows owner_seat es n v w → OwnerAdds es v w
owner_grows es n v w g = record {
  begun_is = begun_on es n v w g;
  ended_is = ended_on es n v w g;
  closes = closes_on es n v w g;
  drains = drains_on es n v w g;
  phase = phase_grown es n v w g;
}

-- one of the two seats grows by its own events among these
pub seat_grown : (s c : ℕ) (es : List Event) (n : ℕ) (v w : List Event) → ((e : Event) → is_ours s e ≡ false → (seat_of e == c) ≡ false)
    → Adds s es n v w → Grows c (own c es) 0 v w
seat_grown s c es n v w one a = record {
  new = a.new;
  is = a.is;
  mine = sym (filter-filter (λ e. seat_of e == c) (is_ours s) one a.new) ∙ ap (own c) a.ours;
  theirs = omega arith;
}

pub owner_grown : (s : ℕ) (es : List Event) (n : ℕ) (v w : List Event) → Adds s es n v w → Grows owner_seat (own owner_seat es) 0 v w
owner_grown s es n v w a =
    seat_grown s owner_seat es n v w (λ e none. (or_parts (seat_of e == s) (seat_of e == owner_seat) none).1) a

pub owner_of_both : (s : ℕ) (es : List Event) (n : ℕ) (v w : List Event) → Adds s es n v w → OwnerAdds es v w
owner_of_both s es n v w a =
    let mine = own owner_seat es in let g = owner_grown s es n v w a in
    record {
      begun_is = begun_on mine 0 v w g ∙ ap (λ (z : List ℕ). begun v ++ z) (begun_same es mine (own-own owner_seat es));
      ended_is = ended_on mine 0 v w g ∙ ap (λ (z : List ℕ). ended v ++ z) (ended_same es mine (own-own owner_seat es));
      closes = omega (arith, closes_on mine 0 v w g, closed_count es mine (own-own owner_seat es));
      drains = omega (arith, drains_on mine 0 v w g, count_same is_drain owner_seat drain_own es mine (own-own owner_seat es));
      phase = λ none. phase_grown mine 0 v w g (sym (count_own is_phase_change owner_seat phase_change_own es) ∙ none);
    }

-- nothing begins or ends by these, and they hold neither a close nor a drain nor a resume
pub record LeavesExecutions (es : List Event) : Type 0 where
  pub begun_none : begun es ≡ []
  pub ended_none : ended es ≡ []
  pub phase_changes_none : count_by is_phase_change es ≡ 0

pub quiet_none : LeavesExecutions []
quiet_none = record { begun_none = refl; ended_none = refl; phase_changes_none = refl }

pub quiet_append : (xs ys : List Event) → LeavesExecutions xs → LeavesExecutions ys → LeavesExecutions (xs ++ ys)
quiet_append xs ys a b = record {
  begun_none = filter_map-append begun_by xs ys ∙ (ap (λ (z : List ℕ). z ++ begun ys) a.begun_none ∙ b.begun_none);
  ended_none = filter_map-append ended_by xs ys ∙ (ap (λ (z : List ℕ). z ++ ended ys) a.ended_none ∙ b.ended_none);
  phase_changes_none = omega (arith, count_by-append is_phase_change xs ys, a.phase_changes_none, b.phase_changes_none);
}

-- what the owner knows is as before
pub record Stays (v w : List Event) : Type 0 where
  pub begun_same : begun w ≡ begun v
  pub ended_same : ended w ≡ ended v
  pub running_same : running w ≡ running v
  pub phase : SamePhase v w

pub quiet_stays : (es v w : List Event) → LeavesExecutions es → OwnerAdds es v w → Stays v w
quiet_stays es v w q o =
    let b : begun w ≡ begun v = o.begun_is ∙ (ap (λ (z : List ℕ). begun v ++ z) q.begun_none ∙ append-nil (begun v)) in
    let e : ended w ≡ ended v = o.ended_is ∙ (ap (λ (z : List ℕ). ended v ++ z) q.ended_none ∙ append-nil (ended v)) in
    record { begun_same = b; ended_same = e; running_same = rw (b, e) refl; phase = o.phase q.phase_changes_none }
