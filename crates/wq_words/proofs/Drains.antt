-- From a Drain on the queue takes no push before the next Resume.
use Rattle.wq_words.proofs.Common.{◌≡◌, ℕ, zero, suc, ◌+◌, ◌-◌, ◌<◌, ◌≤◌, true, List, [], ◌∷◌, ◌++◌, length, take, Some, slice_get, get_or, refl, sym, ap, ◌∙◌}
use Rattle.wq_words.proofs.Common.{arith, inl, inr, ◌⊎◌, slice_get_within, slice_get-get_or, Layout, Event, Push, Close, Drain, Resume, shut, IsLegal, false}
use Rattle.wq_words.proofs.Common.{not, cond, suffix_len, Take, Rest, is_drain, is_resume, is_close, IsDraining, HasDrained, MayFollow}
use Rattle.wq_words.specs.Headline.{NoPushWithinDrain}
use Rattle.wq_words.proofs.Growing.{take_more_some}
use Rattle.wq_words.proofs.Closed.{shut_close, shut_drain, shut_quiet, shut_resume, shut_from_IsShut, IsShut_from_shut, open_from_shut, closed_stays}
use Rattle.wq_words.proofs.Closed.{closed_push_yes, IsClosed_from_closed}
use Rattle.wq_words.proofs.Legal.{legal_induction}
use Rattle.wq_words.proofs.Rest.{wakes_quiet, wakes_push_work}
use Rattle.wq_words.specs.Rest.{wakes}
use Rattle.std.proofs.lemmas.List.Sums.{sum_by-take-drop}

-- a queue that takes no push goes on so, but for a Resume
pub still_shut : (h : List Event) (e : Event) → shut h ≡ true → (shut (h ++ e ∷ []) ≡ true) ⊎ (e ≡ Resume)
still_shut h Resume is = inr refl
still_shut h Close is = inl (shut_close h Close refl)
still_shut h Drain is = inl (shut_drain h Drain refl refl)
still_shut h _ is = inl (shut_quiet h _ refl refl refl ∙ is)

module _ (h : List Event) where
  abbrev HasResume : ℕ → ℕ → Type 0
  HasResume from to = (resume : ℕ) × (from < resume) × (resume < to) × (slice_get h resume ≡ Some Resume)

  at_next : (place : ℕ) (e : Event) → slice_get h place ≡ Some e → shut (take (place + 1) h) ≡ shut (take place h ++ e ∷ [])
  at_next place e at = ap shut (take_more_some h place e at)

  after_drain : (from : ℕ) → slice_get h from ≡ Some Drain → (n : ℕ) → from + 1 + n ≤ length h
      → (shut (take (from + 1 + n) h) ≡ true) ⊎ HasResume from (from + 1 + n)
  after_drain from at zero le =
      let here : from + 1 + 0 ≡ from + 1 = omega arith in
      inl (ap (λ (i : ℕ). shut (take i h)) here ∙ at_next from Drain at ∙ shut_drain (take from h) Drain refl refl)
  after_drain from at (suc n) le =
      let next : from + 1 + suc n ≡ from + 1 + n + 1 = omega arith in
      let x : Event = get_or h (from + 1 + n) Drain in
      let there : slice_get h (from + 1 + n) ≡ Some x = slice_get-get_or h (from + 1 + n) Drain (omega (arith, le)) in
      elim (after_drain from at n (omega (arith, le))) [
        | inl still ↦
            elim (still_shut (take (from + 1 + n) h) x still) [
              | inl on ↦ inl (ap (λ (i : ℕ). shut (take i h)) next ∙ at_next (from + 1 + n) x there ∙ on)
              | inr resumes ↦ inr (from + 1 + n, omega arith, omega arith, there ∙ ap Some resumes)
            ]
        | inr resume ↦ inr (resume.0, resume.1, omega (arith, resume.2), resume.3)
      ]

  pub no_push_within_drain : (layout : Layout) → IsLegal layout h → NoPushWithinDrain h
  no_push_within_drain layout legal drain push s k less drains pushes =
      let size : push < length h = slice_get_within h push _ pushes in
      let same : drain + 1 + (push - (drain + 1)) ≡ push = omega (arith, less) in
      elim (after_drain drain drains (push - (drain + 1)) (omega (arith, less, size))) [
        | inl still ↦
            absurd ((legal push (Push s k) pushes).2.1 (IsShut_from_shut (take push h) (ap (λ (i : ℕ). shut (take i h)) (sym same) ∙ still)))
        | inr resume ↦ (resume.0, resume.1, omega (arith, resume.2, same), resume.3)
      ]

-- a queue that drains has a Drain
pub has_drained : (h : List Event) → IsDraining h → HasDrained h
has_drained h is =
    let place : ℕ = length h - suffix_len (λ e. not (is_resume e)) h in
    omega (arith, is.0, is.1, sum_by-take-drop (λ e. cond (is_drain e) 1 0) h place)

-- and does not rest: its Drain set it to work, and no Rest may follow before the Resume
pub at_work_draining : (layout : Layout) (h : List Event) → IsLegal layout h → IsDraining h → wakes h ≡ false
at_work_draining layout =
    legal_induction layout (λ h. IsDraining h → wakes h ≡ false) (λ is. absurd (omega (arith, is.0))) (λ h e legal allowed before. more h e allowed.2 before)
  where
    drained_before : (h : List Event) (e : Event) → is_resume e ≡ false → is_drain e ≡ false → is_close e ≡ false → IsDraining (h ++ e ∷ []) → IsDraining h
    drained_before h e no_resume no_drain no_close is = (
      IsShut_from_shut h (sym (shut_quiet h e no_resume no_drain no_close) ∙ shut_from_IsShut (h ++ e ∷ []) is.0),
      λ closes. is.1 (closed_stays h e closes),
    )

    more : (h : List Event) (e : Event) → MayFollow h e → (IsDraining h → wakes h ≡ false) → IsDraining (h ++ e ∷ []) → wakes (h ++ e ∷ []) ≡ false
    more h (Push s k) may before is = wakes_push_work h (Push s k) refl
    more h Take may before is = wakes_push_work h Take refl
    more h Drain may before is = wakes_push_work h Drain refl
    more h Close may before is = absurd (is.1 (IsClosed_from_closed (h ++ Close ∷ []) (closed_push_yes h Close refl)))
    more h Resume may before is = absurd (open_from_shut (h ++ Resume ∷ []) (shut_resume h Resume refl refl may.0.1) is.0)
    more h Rest may before is = absurd (may.0 (drained_before h Rest refl refl refl is).0)
    more h _ may before is = wakes_quiet h _ refl refl ∙ before (drained_before h _ refl refl refl is)
