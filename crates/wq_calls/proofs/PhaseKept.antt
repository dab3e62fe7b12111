-- Whether a queue takes pushes changes by closes, drains and resumes alone, which are the owner's.
use Rattle.wq_calls.proofs.Common.{◌≡◌, ℕ, ◌+◌, Bool, true, false, List, sym, refl, ◌∙◌, count_by, Event, Close, Drain, IsClosed, IsShut, IsDraining}
use Rattle.wq_calls.proofs.Common.{owner_seat, seat_of, Grows, shut_from_IsShut, IsShut_from_shut}
use Rattle.wq_words.specs.declared.event.Event.TheVariants.{Resume}
use Rattle.wq_words.specs.History.{shut}
use Rattle.wq_calls.proofs.Phases.{is_phase_change}
use Rattle.std.proofs.Common.{eqb}
use Rattle.wq_words.specs.History.{is_drain, closed}
use Rattle.wq_words.proofs.Closed.{closed_from_IsClosed, IsClosed_from_closed, open_from_closed}
use Rattle.wq_calls.proofs.Counting.{count_on}
use Rattle.wq_calls.proofs.Phases.{closed_quiet, shut_still as shut_quiet}
use Rattle.wq_words.proofs.ShutOwn.{drain_own}

pub phase_change_own : (e : Event) → eqb (seat_of e) owner_seat ≡ false → is_phase_change e ≡ false
phase_change_own Close is = is
phase_change_own Drain is = is
phase_change_own Resume is = is
phase_change_own _ is = refl

-- whether it takes pushes, and whether it is closed, is as before
pub record SamePhase (v w : List Event) : Type 0 where
  pub shut_same : shut w ≡ shut v
  pub closed_same : closed w ≡ closed v

pub phase_still : (v : List Event) → SamePhase v v
phase_still v = record { shut_same = refl; closed_same = refl }

pub phase_on : (u v w : List Event) → SamePhase u v → SamePhase v w → SamePhase u w
phase_on u v w a b = record { shut_same = b.shut_same ∙ a.shut_same; closed_same = b.closed_same ∙ a.closed_same }

module _ (v w : List Event) (s : SamePhase v w) where
  pub shut_still : IsShut v → IsShut w
  shut_still is = IsShut_from_shut w (s.shut_same ∙ shut_from_IsShut v is)

  pub open_still : ¬ IsShut v → ¬ IsShut w
  open_still opens is = opens (IsShut_from_shut v (sym s.shut_same ∙ shut_from_IsShut w is))

  pub closed_still : IsClosed v → IsClosed w
  closed_still is = IsClosed_from_closed w (s.closed_same ∙ closed_from_IsClosed v is)

  pub unclosed_still : ¬ IsClosed v → ¬ IsClosed w
  unclosed_still not is = not (IsClosed_from_closed v (sym s.closed_same ∙ closed_from_IsClosed w is))

-- a queue that takes no push and does not drain is closed
pub closed_else : (h : List Event) → IsShut h → ¬ IsDraining h → IsClosed h
closed_else h is not = go (closed h) refl
  where
    go : (b : Bool) → closed h ≡ b → IsClosed h
    go true e = IsClosed_from_closed h e
    go false e = absurd (not (is, open_from_closed h e))

module _ (es : List Event) (n : ℕ) (v w : List Event) (g : Grows owner_seat es n v w) where
  pub drains_on : count_by is_drain w ≡ count_by is_drain v + count_by is_drain es
  drains_on = count_on is_drain owner_seat drain_own es n v w g

  -- where the owner neither closes nor drains nor resumes
  pub phase_grown : count_by is_phase_change es ≡ 0 → SamePhase v w
  phase_grown none = record { shut_same = shut_quiet es n v w g none; closed_same = closed_quiet es n v w g none }
