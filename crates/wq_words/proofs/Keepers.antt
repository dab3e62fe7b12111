-- Each number has one keeper, which the counts of its events tell.
use Rattle.wq_words.proofs.Common.{◌≡◌, ℕ, ◌+◌, ◌<◌, ◌≤◌, ◌==◌, Bool, true, false, cond, if◌then◌else◌, ◌&&◌, add-zero, List, [], ◌∷◌, ◌++◌, refl, ap, arith}
use Rattle.wq_words.proofs.Common.{count_by, sum_by-append, eqb-true, eq-eqb, IsPrefix, nat_tests, Layout, Event, Hold, Push, Back, Take, Close, Begin, Chain}
use Rattle.wq_words.proofs.Common.{accepted, begun, sets_pending, clears_pending, starts_hold, stops_hold, MayFollow, IsLegal, Keeper, Home, Sender, Listed}
use Rattle.wq_words.proofs.Common.{Owner, taken_over, keeper, keeper_after, Drain, fold_push, ne_eqb, sym, ◌≢◌}
use Rattle.wq_words.specs.declared.event.Why.{Why}
use Rattle.wq_words.proofs.Prefixes.{prefix_step}
use Rattle.wq_words.proofs.Order.{RunsInOrder, in_order}
use Rattle.wq_words.proofs.Growing.{growing, count_by_push}
use Rattle.wq_words.proofs.Legal.{legal_induction}
use Rattle.wq_words.proofs.Appended.{at_most_one}

-- the keeper of each number after one event more
pub keeper_push : (h : List Event) (e : Event) (k : ℕ) → keeper (h ++ e ∷ []) k ≡ keeper_after k (keeper h k) e
keeper_push h e k = fold_push (keeper_after k) Home h e

-- the event is about k alone
abbrev pub Spares : ℕ → Event → Type 0
Spares k e = (j : ℕ) (x : Keeper) → j ≢ k → keeper_after j x e ≡ x

-- the event is about k, and leaves it with y
abbrev pub LeavesWith : ℕ → Event → Keeper → Type 0
LeavesWith k e y = Spares k e × ((x : Keeper) → keeper_after k x e ≡ y)

itself : (k : ℕ) → (k == k) ≡ true
itself k = eq-eqb k k refl

apart : (k j : ℕ) → j ≢ k → (k == j) ≡ false
apart k j ne = ne_eqb k j (λ e. ne (sym e))

pub gives_hold : (s k : ℕ) → LeavesWith k (Hold s k) (Sender s)
gives_hold s k = (λ j x ne. rw (apart k j ne) refl, λ x. rw (itself k) refl)

pub gives_push : (s k : ℕ) → LeavesWith k (Push s k) Listed
gives_push s k = (λ j x ne. rw (apart k j ne) refl, λ x. rw (itself k) refl)

pub gives_back : (s k : ℕ) (why : Why) → LeavesWith k (Back s k why) Home
gives_back s k why = (λ j x ne. rw (apart k j ne) refl, λ x. rw (itself k) refl)

pub gives_begin : (k : ℕ) → LeavesWith k (Begin k) Home
gives_begin k = (λ j x ne. rw (apart k j ne) refl, λ x. rw (itself k) refl)

pub gives_chain : (k : ℕ) → LeavesWith k (Chain k) Owner
gives_chain k = (λ j x ne. rw (apart k j ne) refl, λ x. rw (itself k) refl)

-- one where x keeps the number away from home, for sender s, or on the list or with the owner
abbrev pub pending_bit : Keeper → ℕ
pending_bit Home = 0
pending_bit _ = 1

abbrev pub held_bit : ℕ → Keeper → ℕ
held_bit s (Sender t) = cond (t == s) 1 0
held_bit s _ = 0

pub held_once : (s : ℕ) (x : Keeper) → held_bit s x ≤ 1
held_once s (Sender t) = at_most_one (t == s)
held_once s _ = omega arith

abbrev pub queue_bit : Keeper → ℕ
queue_bit Listed = 1
queue_bit Owner = 1
queue_bit _ = 0

-- x is the list or the owner
abbrev pub IsQueue : Keeper → Type 0
IsQueue Listed = Unit {0}
IsQueue Owner = Unit {0}
IsQueue _ = ⊥

pub home_from_bit : (x : Keeper) → pending_bit x ≡ 0 → x ≡ Home
home_from_bit Home e = refl
home_from_bit _ e = absurd (omega arith)

pub sender_from_bit : (s : ℕ) (x : Keeper) → 0 < held_bit s x → x ≡ Sender s
sender_from_bit s (Sender t) e = ap Sender (grind (arith, nat_tests))
sender_from_bit s _ e = absurd (omega arith)

pub queue_from_bit : (x : Keeper) → 0 < queue_bit x → IsQueue x
queue_from_bit Listed e = tt
queue_from_bit Owner e = tt
queue_from_bit _ e = absurd (omega arith)

-- the counts of a number's events tell that x keeps it
abbrev pub CountsTell : ℕ → Keeper → ℕ → ℕ → ℕ → ℕ → ℕ → ℕ → Type 0
CountsTell s x starts stops sets clears enters leaves =
    (starts ≡ stops + held_bit s x) × (sets ≡ clears + pending_bit x) × (enters ≡ leaves + queue_bit x)

abbrev pub IsKept : ℕ → ℕ → List Event → Type 0
IsKept s k h =
    CountsTell s (keeper h k) (count_by (starts_hold s k) h) (count_by (stops_hold s k) h) (count_by (sets_pending k) h) (count_by (clears_pending k) h)
    (count_by (λ j. j == k) (accepted h)) (count_by (λ j. j == k) (begun h))

module _ (s t : ℕ) where
  held : (q : Bool) (x : Keeper) (a b c d e f : ℕ) → (q ≡ true → x ≡ Home) → CountsTell s x a b c d e f
      → CountsTell s (if q then Sender t else x) (a + cond (q && (t == s)) 1 0) (b + 0) (c + cond q 1 0) (d + 0) e f
  held false x a b c d e f fits o = (omega arith, omega arith, omega arith)
  held true Home a b c d e f fits o = (omega arith, omega arith, omega arith)
  held true _ a b c d e f fits o = absurd (cc (fits refl))

  pushed : (q : Bool) (x : Keeper) (a b c d e f : ℕ) → (q ≡ true → x ≡ Sender t) → CountsTell s x a b c d e f
      → CountsTell s (if q then Listed else x) (a + 0) (b + cond (q && (t == s)) 1 0) (c + 0) (d + 0) (e + cond q 1 0) f
  pushed false x a b c d e f fits o = (omega arith, omega arith, omega arith)
  pushed true (Sender u) a b c d e f fits o =
      let u≡t : u ≡ t = cc (fits refl) in
      let o' = rw u≡t at o in (omega arith, omega arith, omega arith)
  pushed true _ a b c d e f fits o = absurd (cc (fits refl))

  returned : (q : Bool) (x : Keeper) (a b c d e f : ℕ) → (q ≡ true → x ≡ Sender t) → CountsTell s x a b c d e f
      → CountsTell s (if q then Home else x) (a + 0) (b + cond (q && (t == s)) 1 0) (c + 0) (d + cond q 1 0) e f
  returned false x a b c d e f fits o = (omega arith, omega arith, omega arith)
  returned true (Sender u) a b c d e f fits o =
      let u≡t : u ≡ t = cc (fits refl) in
      let o' = rw u≡t at o in (omega arith, omega arith, omega arith)
  returned true _ a b c d e f fits o = absurd (cc (fits refl))

module _ (s : ℕ) where
  began : (q : Bool) (x : Keeper) (a b c d e f : ℕ) → (q ≡ true → IsQueue x) → CountsTell s x a b c d e f
      → CountsTell s (if q then Home else x) (a + 0) (b + 0) (c + 0) (d + cond q 1 0) e (f + cond q 1 0)
  began false x a b c d e f fits o = (omega arith, omega arith, omega arith)
  began true Listed a b c d e f fits o = (omega arith, omega arith, omega arith)
  began true Owner a b c d e f fits o = (omega arith, omega arith, omega arith)
  began true _ a b c d e f fits o = absurd (fits refl)

  chained : (q : Bool) (x : Keeper) (a b c d e f : ℕ) → (q ≡ true → x ≡ Home) → CountsTell s x a b c d e f
      → CountsTell s (if q then Owner else x) (a + 0) (b + 0) (c + cond q 1 0) (d + 0) (e + cond q 1 0) f
  chained false x a b c d e f fits o = (omega arith, omega arith, omega arith)
  chained true Home a b c d e f fits o = (omega arith, omega arith, omega arith)
  chained true _ a b c d e f fits o = absurd (cc (fits refl))

  took : (x : Keeper) (a b c d e f : ℕ) → CountsTell s x a b c d e f → CountsTell s (taken_over x) (a + 0) (b + 0) (c + 0) (d + 0) e f
  took Listed a b c d e f o = (omega arith, omega arith, omega arith)
  took _ a b c d e f o = (omega arith, omega arith, omega arith)

-- x may keep k as the event comes
abbrev pub FitsKeeper : ℕ → Keeper → Event → Type 0
FitsKeeper k x (Hold s j) = (j == k) ≡ true → x ≡ Home
FitsKeeper k x (Push s j) = (j == k) ≡ true → x ≡ Sender s
FitsKeeper k x (Back s j why) = (j == k) ≡ true → x ≡ Sender s
FitsKeeper k x (Begin j) = (j == k) ≡ true → IsQueue x
FitsKeeper k x (Chain j) = (j == k) ≡ true → x ≡ Home
FitsKeeper k x _ = Unit {0}

pub kept_after : (s k : ℕ) (h : List Event) (e : Event) → FitsKeeper k (keeper h k) e → IsKept s k h → IsKept s k (h ++ e ∷ [])
kept_after s k h (Hold t j) fits o = simp growing (held s t (j == k) _ _ _ _ _ _ _ fits o)
kept_after s k h (Push t j) fits o = simp growing (pushed s t (j == k) _ _ _ _ _ _ _ fits o)
kept_after s k h (Back t j why) fits o = simp growing (returned s t (j == k) _ _ _ _ _ _ _ fits o)
kept_after s k h Take fits o = simp growing (took s _ _ _ _ _ _ _ o)
kept_after s k h Close fits o = simp growing (took s _ _ _ _ _ _ _ o)
kept_after s k h Drain fits o = simp growing (took s _ _ _ _ _ _ _ o)
kept_after s k h (Begin j) fits o = simp growing (began s (j == k) _ _ _ _ _ _ _ fits o)
kept_after s k h (Chain j) fits o = simp growing (chained s (j == k) _ _ _ _ _ _ _ fits o)
kept_after s k h _ fits o = simp (growing, add-zero) o

count_front : (p : ℕ → Bool) (xs ys : List ℕ) → IsPrefix xs ys → count_by p xs ≤ count_by p ys
count_front p xs ys front = omega (arith, sum_by-append (λ x. cond (p x) 1 0) xs front.0, ap (count_by p) front.1)

pub fits_keeper : (h : List Event) (e : Event) → MayFollow h e → RunsInOrder h → ((s k : ℕ) → IsKept s k h) → (k : ℕ) → FitsKeeper k (keeper h k) e
fits_keeper h (Hold t j) may o kept k = λ same.
    let j≡k = eqb-true j k same in
    rw (← j≡k) (home_from_bit (keeper h j) (omega (arith, (kept t j).1)))
fits_keeper h (Push t j) may o kept k = λ same.
    let j≡k = eqb-true j k same in
    rw (← j≡k) (sender_from_bit t (keeper h j) (omega (arith, (kept t j).0, may.0)))
fits_keeper h (Back t j why) may o kept k = λ same.
    let j≡k = eqb-true j k same in
    rw (← j≡k) (sender_from_bit t (keeper h j) (omega (arith, (kept t j).0, may.0)))
fits_keeper h (Begin j) may o kept k = λ same.
    let j≡k = eqb-true j k same in
    let front = prefix_step (begun h) (accepted h) j o.begun_first may.1 in
    let more = count_front (λ i. i == j) (begun h ++ j ∷ []) (accepted h) front in
    rw (← j≡k) (queue_from_bit (keeper h j) (omega (arith, (kept 0 j).2, more, rw (eq-eqb j j refl) at (count_by_push (λ i. i == j) (begun h) j))))
fits_keeper h (Chain j) may o kept k = λ same.
    let j≡k = eqb-true j k same in
    rw (← j≡k) (home_from_bit (keeper h j) (omega (arith, (kept 0 j).1, may.2)))
fits_keeper h _ may o kept k = tt

-- the counts of each number's events tell who keeps it
pub kept : (layout : Layout) (h : List Event) → IsLegal layout h → (s k : ℕ) → IsKept s k h
kept layout =
    legal_induction layout (λ h. (s k : ℕ) → IsKept s k h) (λ s k. (refl, refl, refl))
    (λ h e legal allowed before s k. kept_after s k h e (fits_keeper h e allowed.2 (in_order layout h legal) before k) (before s k))
