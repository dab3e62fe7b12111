-- What was pushed since the last Take, Drain or Resume stands on the list, until the queue is closed.
use Rattle.wq_words.proofs.Common.{◌≡◌, Bool, true, false, List, [], ◌∷◌, ◌++◌, length, sym, refl, ap, ◌∙◌, arith, Layout, Event, IsClosed, IsShut}
use Rattle.wq_words.proofs.Common.{IsDraining, IsLegal}
use Rattle.wq_words.specs.Listed.{listed}
use Rattle.wq_words.proofs.Closed.{shut_from_IsShut, IsShut_from_shut, open_from_shut, IsClosed_from_closed}
use Rattle.wq_words.specs.declared.event.Event.TheVariants as event
use Rattle.wq_words.specs.History.{is_push, shut, fresh}
use Rattle.wq_words.specs.Legal.{IsAllowed}
use Rattle.wq_words.proofs.Closed.{closed_stays, closed_push_yes, shut_quiet}
use Rattle.wq_words.proofs.Legal.{legal_induction}
use Rattle.wq_words.proofs.Listed.{CutsNothing, quiet, fresh_push, fresh_cut, fresh-open, listed-shut}

-- an event that neither pushes nor turns
stays : (h : List Event) (e : Event) → CutsNothing e → is_push e ≡ false → (IsDraining h → fresh h ≡ 0) → IsDraining (h ++ e ∷ []) → fresh (h ++ e ∷ []) ≡ 0
stays h e q none before is =
    let was : IsShut h = IsShut_from_shut h (sym (shut_quiet h e q.no_resume q.no_drain q.no_close) ∙ shut_from_IsShut (h ++ e ∷ []) is.0) in
    let zero = before (was, λ closed. is.1 (closed_stays h e closed)) in
    rw none at (fresh_push h e q) ∙ omega (arith, zero)

drained : (layout : Layout) (h : List Event) (e : Event) → IsAllowed layout h e → (IsDraining h → fresh h ≡ 0) → IsDraining (h ++ e ∷ [])
    → fresh (h ++ e ∷ []) ≡ 0
drained layout h (event.Push s k) allowed before is =
    absurd (allowed.2.1 (IsShut_from_shut h (sym (shut_quiet h (event.Push s k) refl refl refl) ∙ shut_from_IsShut (h ++ event.Push s k ∷ []) is.0)))
drained layout h event.Take allowed before is = fresh_cut h event.Take refl
drained layout h event.Drain allowed before is = fresh_cut h event.Drain refl
drained layout h event.Resume allowed before is = fresh_cut h event.Resume refl
drained layout h event.Close allowed before is = absurd (is.1 (IsClosed_from_closed (h ++ event.Close ∷ []) (closed_push_yes h event.Close refl)))
drained layout h (event.Hold s k) allowed before is = stays h (event.Hold s k) (quiet refl refl refl refl) refl before is
drained layout h (event.Busy s k) allowed before is = stays h (event.Busy s k) (quiet refl refl refl refl) refl before is
drained layout h (event.Back s k why) allowed before is = stays h (event.Back s k why) (quiet refl refl refl refl) refl before is
drained layout h (event.Begin k) allowed before is = stays h (event.Begin k) (quiet refl refl refl refl) refl before is
drained layout h (event.End k) allowed before is = stays h (event.End k) (quiet refl refl refl refl) refl before is
drained layout h (event.Chain k) allowed before is = stays h (event.Chain k) (quiet refl refl refl refl) refl before is
drained layout h (event.ChainBusy k) allowed before is = stays h (event.ChainBusy k) (quiet refl refl refl refl) refl before is
drained layout h event.Rest allowed before is = stays h event.Rest (quiet refl refl refl refl) refl before is

-- nothing is pushed in a drain
none_fresh : (layout : Layout) (h : List Event) → IsLegal layout h → IsDraining h → fresh h ≡ 0
none_fresh layout = legal_induction layout (λ h. IsDraining h → fresh h ≡ 0) (λ is. refl) (λ h e legal allowed before. drained layout h e allowed before)

pub fresh_unclosed : (layout : Layout) (h : List Event) → IsLegal layout h → ¬ IsClosed h → fresh h ≡ length (listed h)
fresh_unclosed layout h legal unclosed = go (shut h) refl
  where
    go : (b : Bool) → shut h ≡ b → fresh h ≡ length (listed h)
    go true is = let shuts = IsShut_from_shut h is in none_fresh layout h legal (shuts, unclosed) ∙ sym (ap length (listed-shut layout h legal shuts))
    go false is = fresh-open layout h legal (open_from_shut h is)
