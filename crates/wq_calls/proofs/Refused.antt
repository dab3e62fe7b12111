-- A refusal for a closed queue comes of one that is closed.
use Rattle.wq_calls.proofs.Common.{◌≡◌, ℕ, ◌+◌, ◌<◌, Bool, false, cond, List, [], ◌∷◌, ◌++◌, refl, ap, arith, eq-eqb, count_by, Layout, Event, Hold, Back}
use Rattle.wq_calls.proofs.Common.{IsClosed, IsLegal, Grows, Known, Answer, Answers, Posted, Posts}
use Rattle.wq_words.specs.declared.event.Why.TheVariants as why
use Rattle.wq_words.specs.declared.answer.Answer.TheVariants as answer
use Rattle.wq_words.specs.declared.answer.Posted.TheVariants as posted
use Rattle.wq_words.specs.Legal.{MayFollow}
use Rattle.wq_words.specs.Counting.{is_closed_by}
use Rattle.wq_words.proofs.Closed.{closed_stays}
use Rattle.wq_words.proofs.Counting.{closed_own}
use Rattle.wq_words.proofs.Growing.{count_by_push}
use Rattle.wq_words.proofs.Legal.{legal_induction}
use Rattle.wq_calls.proofs.Counting.{count_on}

module _ (s : ℕ) where
  passes : (h : List Event) (e : Event) → is_closed_by s e ≡ false → (0 < count_by (is_closed_by s) h → IsClosed h)
      → 0 < count_by (is_closed_by s) (h ++ e ∷ []) → IsClosed (h ++ e ∷ [])
  passes h e none before some = closed_stays h e (before (omega (arith, some, rw none at (count_by_push (is_closed_by s) h e))))

  step : (h : List Event) (e : Event) → MayFollow h e → (0 < count_by (is_closed_by s) h → IsClosed h) → 0 < count_by (is_closed_by s) (h ++ e ∷ [])
      → IsClosed (h ++ e ∷ [])
  step h (Back t k why.Closed) may = λ before some. closed_stays h (Back t k why.Closed) may.1
  step h (Back t k why.Contended) may = passes h (Back t k why.Contended) refl
  step h (Back t k why.Cancelled) may = passes h (Back t k why.Cancelled) refl
  step h (Back t k why.Draining) may = passes h (Back t k why.Draining) refl
  step h _ may = passes h _ refl

  -- where a sender gave a number back since the queue was closed, it is closed
  refused_closed : (layout : Layout) (h : List Event) → IsLegal layout h → 0 < count_by (is_closed_by s) h → IsClosed h
  refused_closed layout =
      legal_induction layout (λ h. 0 < count_by (is_closed_by s) h → IsClosed h) (λ some. absurd (omega (arith, some))) (λ h e _ a before. step h e a.2 before)

  closed_among : (layout : Layout) (es : List Event) (n : ℕ) (v w : List Event) → count_by (is_closed_by s) es ≡ 1 → Grows s es n v w → IsLegal layout w
      → IsClosed w
  closed_among layout es n v w one g legal = refused_closed layout w legal (omega (arith, one, count_on (is_closed_by s) s (closed_own s) es n v w g))

  itself : (k : ℕ) → count_by (is_closed_by s) (Back s k why.Closed ∷ []) ≡ 1
  itself k = ap (λ (b : Bool). 0 + cond {A = ℕ} b 1 0) (eq-eqb s s refl)

  pub closed_by : (layout : Layout) (k n : ℕ) (v w : List Event) → Grows s (Hold s k ∷ Back s k why.Closed ∷ []) n v w → IsLegal layout w → IsClosed w
  closed_by layout k n v w = closed_among layout (Hold s k ∷ Back s k why.Closed ∷ []) n v w (itself k)

  back_closed_by : (layout : Layout) (k n : ℕ) (v w : List Event) → Grows s (Back s k why.Closed ∷ []) n v w → IsLegal layout w → IsClosed w
  back_closed_by layout k n v w = closed_among layout (Back s k why.Closed ∷ []) n v w (itself k)

pub answered_closed : (k tries : ℕ) (a : Answer) (old new : Known) → Answers k tries a old new → a ≡ answer.Closed → IsClosed new.seen
answered_closed k tries answer.Closed old new told is = closed_by old.number new.layout k 0 old.seen new.seen told.grows told.legal
answered_closed k tries (answer.Queued first wakes) old new told is = absurd (cc)
answered_closed k tries answer.Pending old new told is = absurd (cc)
answered_closed k tries answer.Draining old new told is = absurd (cc)
answered_closed k tries answer.Contended old new told is = absurd (cc)

pub posted_closed : (k tries : ℕ) (a : Posted) (old new : Known) → Posts k tries a old new → a ≡ posted.Closed → IsClosed new.seen
posted_closed k tries posted.Closed old new told is = back_closed_by old.number new.layout k 0 old.seen new.seen told.grows told.legal
posted_closed k tries (posted.Queued first wakes) old new told is = absurd (cc)
posted_closed k tries posted.Draining old new told is = absurd (cc)
posted_closed k tries posted.Contended old new told is = absurd (cc)
