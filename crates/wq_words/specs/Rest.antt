-- When a queue rests, and which pushes wake it.
use Rattle.std.specs.Prelude.{◌≡◌, ℕ, ◌+◌, ◌<◌, ◌≤◌, ◌==◌, Bool, true, false, List, take, Some, slice_get, count_by, ◌⊎◌}
use Rattle.std.specs.List.{after_last}
use Rattle.wq_words.specs.declared.event.Event.{Event}
use Rattle.wq_words.specs.declared.event.Event.TheVariants.{Push, Take, Drain, Rest}

abbrev pub is_rest : Event → Bool
is_rest Rest = true
is_rest _ = false

-- it sets the queue to work: a number was pushed, or the owner took what stands on the list
abbrev pub is_work : Event → Bool
is_work (Push s k) = true
is_work Take = true
is_work Drain = true
is_work _ = false

-- the queue rests, so that a push now wakes it: there is no Push, Take or Drain after the last Rest, or at all where there is none
abbrev pub wakes : List Event → Bool
wakes h = count_by is_work (after_last is_rest h) == 0

-- the event at the place is a push that wakes the queue
abbrev pub WakesAt : List Event → ℕ → Type 0
WakesAt h place = (s k : ℕ) × (slice_get h place ≡ Some (Push s k)) × (wakes (take place h) ≡ true)

-- a stretch begins at the place: it is the first of all, or stands behind a Rest
abbrev pub BeginsStretch : List Event → ℕ → Type 0
BeginsStretch h place = (place ≡ 0) ⊎ ((before : ℕ) × (place ≡ before + 1) × (slice_get h before ≡ Some Rest))

-- between two pushes that wake stands a Rest: between two rests that follow one another at most one push wakes
abbrev pub WakesOnce : List Event → Type 0
WakesOnce h = (first second : ℕ) → first < second → WakesAt h first → WakesAt h second
    → (rest : ℕ) × (first < rest) × (rest < second) × (slice_get h rest ≡ Some Rest)

-- the owner takes what stands on the list, and leaves the queue open or draining
abbrev pub IsTaking : Event → Type 0
IsTaking Take = Unit {0}
IsTaking Drain = Unit {0}
IsTaking _ = ⊥

-- where a stretch has a push before its first Take or Drain, one wakes, no later than that push
abbrev pub WakesBeforeTake : List Event → Type 0
WakesBeforeTake h = (from push s k : ℕ) → BeginsStretch h from → from ≤ push → slice_get h push ≡ Some (Push s k)
    → ((place : ℕ) (e : Event) → from ≤ place → place < push → slice_get h place ≡ Some e → ¬ IsTaking e)
    → (place : ℕ) × (from ≤ place) × (place ≤ push) × WakesAt h place

-- after a Take or Drain no push wakes before the next Rest: either sets a resting queue to work without a wake
abbrev pub NoneWakesAfterTake : List Event → Type 0
NoneWakesAfterTake h = (taken push : ℕ) (e : Event) → IsTaking e → taken < push → slice_get h taken ≡ Some e → WakesAt h push
    → (rest : ℕ) × (taken < rest) × (rest < push) × (slice_get h rest ≡ Some Rest)

pub record WakesOnceARest (h : List Event) : Type 0 where
  pub once : WakesOnce h
  pub before_take : WakesBeforeTake h
  pub none_after_take : NoneWakesAfterTake h
