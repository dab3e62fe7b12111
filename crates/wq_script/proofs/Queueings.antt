-- What a queueing was, by the history that it led to.
use Rattle.wq_script.proofs.Common.{◌≡◌, ℕ, ◌+◌, ◌-◌, ◌<◌, Bool, true, false, not, ◌&&◌, cond, ◌==◌, List, [], ◌∷◌, ◌++◌, length, take, drop, arith, inl, inr}
use Rattle.wq_script.proofs.Common.{◌⊎◌, refl, sym, ap, ◌∙◌, subst, append_assoc, if◌then◌else◌, lt-ltb, le-ltb, ne_eqb, Layout, Event, Hold, Busy, Push, Back}
use Rattle.wq_script.proofs.Common.{IsTrue, ◌↔◌, pending, closed, shut, IsClosed, IsShut, IsDraining, first, wakes, IsLegal, legal_next, owner_seat, seat_of, own, own-append, own_one}
use Rattle.wq_script.proofs.Common.{own_same, Answer, HasMetDrain, draining, queue_events, fresh-more, left_nil, right_nil}
use Rattle.std.proofs.Math.Seq.{take-append-add}
use Rattle.std.proofs.lemmas.List.{take-append-drop}
use Rattle.wq_words.specs.History.{IsPending}
use Rattle.wq_words.specs.declared.answer.Answer.TheVariants as answer
use Rattle.wq_words.specs.declared.event.Why.TheVariants as why
use Rattle.wq_words.proofs.Closed.{closed_from_open, closed_from_IsClosed, closed_push_no, closed_shuts, shut_from_IsShut, shut_from_open, open_from_shut}
use Rattle.wq_words.proofs.Closed.{shut_quiet, open_from_closed}
use Rattle.wq_words.proofs.Seen.{closed_same}
use Rattle.wq_words.proofs.ShutOwn.{shut_same}

-- the answers of the tests by which a script's meaning goes
pub not_pending : (h : List Event) (k : ℕ) → ¬ IsPending h k → pending h k ≡ false
not_pending h k clear = le-ltb _ _ (omega (arith, clear))

pub is_pending : (h : List Event) (k : ℕ) → IsPending h k → pending h k ≡ true
is_pending h k is = lt-ltb _ _ is

-- the tests of a queue that takes pushes, of one that is closed, and of one that drains
module _ (h : List Event) where
  pub not_closed : shut h ≡ false → closed h ≡ false
  not_closed is = closed_from_open h (λ closes. open_from_shut h is (closed_shuts h closes))

  pub not_draining : shut h ≡ false → draining h ≡ false
  not_draining is = ap (λ (b : Bool). b && not (closed h)) is

  pub closed_not_draining : closed h ≡ true → draining h ≡ false
  closed_not_draining is = each (shut h) (ap not is)
    where
      each : (b : Bool) → not (closed h) ≡ false → (b && not (closed h)) ≡ false
      each true off = off
      each false off = refl

  pub does_drain : IsDraining h → (closed h ≡ false) × (draining h ≡ true)
  does_drain is =
      let c : closed h ≡ false = closed_from_open h is.1 in
      let s : shut h ≡ true = shut_from_IsShut h is.0 in
      (c, λ i. s i && not (c i))

-- the answer of a seat that knows whether the queue drains
pub drains_as : (h : List Event) (b : Bool) → (IsTrue b ↔ IsDraining h) → (b ≡ false → ¬ IsClosed h → ¬ IsShut h) → b ≡ draining h
drains_as h true is else_open = sym (does_drain h (is.0 refl)).1
drains_as h false is else_open = each (closed h) refl
  where
    each : (c : Bool) → closed h ≡ c → false ≡ draining h
    each true closes = sym (closed_not_draining h closes)
    each false opens = sym (not_draining h (shut_from_open h (else_open refl (open_from_closed h opens))))

-- a number that is no sender's
pub no_owner : (layout : Layout) (s : ℕ) → s < layout.senders → (s == owner_seat) ≡ false
no_owner layout s lt = ne_eqb s owner_seat (λ is. absurd (omega (arith, is, lt, layout.in_limits.2.1)))

-- where the owner made no event of a call, a queue that drained at some moment of it drained before it
pub met_drain : (h es : List Event) → own owner_seat es ≡ [] → HasMetDrain h (h ++ es) → IsDraining h
met_drain h es none met =
    let j : ℕ = met.0 - length h in
    let front : List Event = take j es in
    let at : met.0 ≡ length h + j = omega (arith, met.1) in
    let is : take met.0 (h ++ es) ≡ h ++ front = ap (λ (n : ℕ). take n (h ++ es)) at ∙ take-append-add h es j in
    let still : own owner_seat front ≡ [] = left_nil (own owner_seat front) (own owner_seat (drop j es))
    (sym (own-append owner_seat front (drop j es)) ∙ (ap (own owner_seat) (take-append-drop j es) ∙ none)) in
    let same : own owner_seat (h ++ front) ≡ own owner_seat h = own_same owner_seat h front still in
    let drains : IsDraining (h ++ front) = subst IsDraining is met.2 in
    (shut_same (h ++ front) h (sym same) drains.0, λ closes. drains.1 (closed_same h (h ++ front) same closes))

-- the last of two lists that are one
last_of : (before after g : List Event) (d e : Event) → before ++ d ∷ after ≡ g ++ e ∷ []
    → ((after ≡ []) × (before ≡ g)) ⊎ ((ys : List Event) × (after ≡ ys ++ e ∷ []))
last_of [] after [] d e is = inl (cc, refl)
last_of [] after (y ∷ g) d e is = inr (g, cc)
last_of (b ∷ bs) after [] d e is = let none : bs ++ d ∷ after ≡ [] = cc in absurd (cc (right_nil bs (d ∷ after) none))
last_of (b ∷ bs) after (y ∷ g) d e is = let tails : bs ++ d ∷ after ≡ g ++ e ∷ [] = cc in let heads : b ≡ y = cc in elim (last_of bs after g d e tails) [
  | inl both ↦ inl (both.0, (λ i. heads i ∷ both.1 i))
  | inr more ↦ inr more
]

-- where the seat's last event is the last of all, nothing comes after it
pub last_own : (c : ℕ) (before after g : List Event) (d e : Event) → before ++ d ∷ after ≡ g ++ e ∷ [] → own c after ≡ [] → seat_of e ≡ c
    → (after ≡ []) × (before ≡ g)
last_own c before after g d e is none of = elim (last_of before after g d e is) [
  | inl both ↦ both
  | inr more ↦
      let one : own c (more.0 ++ e ∷ []) ≡ own c more.0 ++ e ∷ [] = own-append c more.0 (e ∷ [])
      ∙ ap (λ (x : List Event). own c more.0 ++ x) (own_one c e of) in
      absurd (cc (right_nil (own c more.0) (e ∷ []) (sym one ∙ (ap (own c) (sym more.1) ∙ none))))
]

-- a hold before the push pushes nothing
pub first_held : (h : List Event) (s k : ℕ) → first (h ++ Hold s k ∷ []) ≡ first h
first_held h s k = ap (λ (n : ℕ). n == 0) (fresh-more h (Hold s k) refl ∙ omega arith)

-- what a queueing adds, and how it is answered, by the tests on which it rests
abbrev pub queue_adds : ℕ → ℕ → (set back drains : Bool) → List Event
queue_adds s k set back drains =
    if set then Busy s k ∷ []
    else if back then Hold s k ∷ Back s k why.Closed ∷ []
    else if drains then Hold s k ∷ Back s k why.Draining ∷ []
    else Hold s k ∷ Push s k ∷ []

abbrev pub queue_says : List Event → (set back drains : Bool) → Answer
queue_says h set back drains =
    if set then answer.Pending
    else if back then answer.Closed
    else if drains then answer.Draining
    else answer.Queued (first h) (wakes h)

module _ (layout : Layout) (h : List Event) (s k : ℕ) where
  pub busy_events : IsLegal layout (h ++ Busy s k ∷ []) → (pending h k ≡ true) × (Busy s k ∷ [] ≡ queue_events s k h)
  busy_events legal =
      let set : pending h k ≡ true = is_pending h k (legal_next layout h (Busy s k) [] legal).2 in
      (set, sym (ap (λ (b : Bool). queue_adds s k b (closed h) (draining h)) set))

  held_clear : (e : Event) → IsLegal layout (h ++ Hold s k ∷ e ∷ []) → pending h k ≡ false
  held_clear e legal = not_pending h k (legal_next layout h (Hold s k) (e ∷ []) legal).2

  second_allowed : (e : Event) → IsLegal layout (h ++ Hold s k ∷ e ∷ []) → IsLegal layout ((h ++ Hold s k ∷ []) ++ e ∷ [])
  second_allowed e legal = subst (λ (x : List Event). IsLegal layout x) (sym (append_assoc h (Hold s k ∷ []) (e ∷ []))) legal

  pub push_events : IsLegal layout (h ++ Hold s k ∷ Push s k ∷ [])
      → (pending h k ≡ false) × (shut h ≡ false) × (Hold s k ∷ Push s k ∷ [] ≡ queue_events s k h)
  push_events legal =
      let clear : pending h k ≡ false = held_clear (Push s k) legal in
      let allowed = legal_next layout (h ++ Hold s k ∷ []) (Push s k) [] (second_allowed (Push s k) legal) in
      let is_open : shut h ≡ false = sym (shut_quiet h (Hold s k) refl refl refl) ∙ shut_from_open (h ++ Hold s k ∷ []) allowed.2.1 in
      let adds : queue_events s k h ≡ Hold s k ∷ Push s k ∷ [] = λ i. queue_adds s k (clear i) (not_closed h is_open i) (not_draining h is_open i) in
      (clear, is_open, sym adds)

  pub refused_events : IsLegal layout (h ++ Hold s k ∷ Back s k why.Closed ∷ [])
      → (pending h k ≡ false) × (closed h ≡ true) × (Hold s k ∷ Back s k why.Closed ∷ [] ≡ queue_events s k h)
  refused_events legal =
      let clear : pending h k ≡ false = held_clear (Back s k why.Closed) legal in
      let allowed = legal_next layout (h ++ Hold s k ∷ []) (Back s k why.Closed) [] (second_allowed (Back s k why.Closed) legal) in
      let so : closed h ≡ true = sym (closed_push_no h (Hold s k) refl) ∙ closed_from_IsClosed (h ++ Hold s k ∷ []) allowed.2.1 in
      let adds : queue_events s k h ≡ Hold s k ∷ Back s k why.Closed ∷ [] = λ i. queue_adds s k (clear i) (so i) (draining h) in
      (clear, so, sym adds)

  pub drained_events : IsLegal layout (h ++ Hold s k ∷ Back s k why.Draining ∷ [])
      → HasMetDrain h (h ++ Hold s k ∷ Back s k why.Draining ∷ [])
      → (pending h k ≡ false) × (closed h ≡ false) × (draining h ≡ true) × (Hold s k ∷ Back s k why.Draining ∷ [] ≡ queue_events s k h)
  drained_events legal met =
      let es : List Event = Hold s k ∷ Back s k why.Draining ∷ [] in
      let clear : pending h k ≡ false = held_clear (Back s k why.Draining) legal in
      let off = no_owner layout s (legal_next layout h (Hold s k) (Back s k why.Draining ∷ []) legal).0 in
      let none : own owner_seat es ≡ [] =
      λ i. cond (off i) (Hold s k ∷ cond (off i) (Back s k why.Draining ∷ []) []) (cond (off i) (Back s k why.Draining ∷ []) []) in
      let so = does_drain h (met_drain h es none met) in
      let adds : queue_events s k h ≡ es = λ i. queue_adds s k (clear i) (so.0 i) (so.1 i) in
      (clear, so.0, so.1, sym adds)
