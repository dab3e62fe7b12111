-- What a barrier that is not pending says of what was accepted before it.
use Rattle.wq_calls.proofs.Common.{◌≡◌, ℕ, ◌≤◌, Bool, false, cond, ◌==◌, List, [], ◌∷◌, ◌++◌, length, refl, ap, ◌∙◌, arith, eq-eqb, length-append}
use Rattle.wq_calls.proofs.Common.{count_by, sum_by-append, sum_by-cons, IsPrefix, Layout, Event, Push, accepted, begun, ended, pending, IsLegal}
use Rattle.wq_calls.proofs.Common.{accepted-append, append_assoc, sym, in_order, kept}
use Rattle.std.proofs.lemmas.Bool.Decides.{nat_tests}
use Rattle.wq_words.specs.History.{sets_pending, clears_pending}
use Rattle.wq_words.specs.Keeper.{Keeper, keeper}
use Rattle.wq_words.proofs.Keepers.{pending_bit, queue_bit, home_from_bit}
use Rattle.wq_calls.specs.Answers.{HasFlushed, IsPushed}
use Rattle.wq_calls.specs.Known.{Known, Sees}
use Rattle.wq_words.specs.Seen.{own}
use Rattle.wq_words.proofs.Prefixes.{prefix_on, prefix_self}
use Rattle.wq_calls.proofs.Common.{◌<◌, sym, Hold, own-append}

-- an element among others is counted
counts_it : (k : ℕ) (xs ys zs : List ℕ) → zs ≡ xs ++ k ∷ ys → 1 ≤ count_by (λ j. j == k) zs
counts_it k xs ys zs is =
    let a = ap (count_by (λ j. j == k)) is in let b = sum_by-append (λ j. cond (j == k) 1 0) xs (k ∷ ys) in
    let d = sum_by-cons (λ j. cond (j == k) 1 0) k ys in
    let e : ◌≡◌ {A = ℕ} (cond (k == k) 1 0) 1 = ap (λ (x : Bool). cond x 1 0) (eq-eqb k k refl) in omega arith

-- where what is left has no k, the k stands in front of it
in_front : (xs rest ys zs : List ℕ) (k : ℕ) → xs ++ rest ≡ ys ++ k ∷ zs → count_by (λ j. j == k) rest ≡ 0 → (after : List ℕ) × (xs ≡ ys ++ k ∷ after)
in_front [] rest ys zs k is none = let some = counts_it k ys zs rest is in absurd (omega arith)
in_front (x ∷ xs) rest [] zs k is none = let same : x ≡ k = cc in (xs, ap (λ (y : ℕ). y ∷ xs) same)
in_front (x ∷ xs) rest (y ∷ ys) zs k is none = let same : x ≡ y = cc in let tails : xs ++ rest ≡ ys ++ k ∷ zs = cc in
    let more = in_front xs rest ys zs k tails none in (more.0, λ i. same i ∷ more.1 i)

-- of two beginnings of one list the shorter begins the longer
shorter : (xs ys us bs : List ℕ) → ys ++ bs ≡ xs ++ us → length xs ≤ length ys → IsPrefix xs ys
shorter [] ys us bs is less = (ys, refl)
shorter (x ∷ xs) [] us bs is less = absurd (omega arith)
shorter (x ∷ xs) (y ∷ ys) us bs is less = let same : x ≡ y = cc in let tails : ys ++ bs ≡ xs ++ us = cc in
    let more = shorter xs ys us bs tails (omega arith) in (more.0, λ i. same i ∷ more.1 i)

bits : (x : Keeper) → pending_bit x ≡ 0 → queue_bit x ≡ 0
bits x none = ap queue_bit (home_from_bit x none)

pub flushed : (layout : Layout) (k : ℕ) (h : List Event) → IsLegal layout h → pending h k ≡ false → HasFlushed k h
flushed layout k h legal clear s before after is =
    let counts = kept layout h legal 0 k in let order = in_order layout h legal in let begun_first = order.begun_first in
    let ended_first = order.ended_first in
    let less : count_by (sets_pending k) h ≤ count_by (clears_pending k) h = grind (arith, nat_tests, clear) in
    let home = bits (keeper h k) (omega (arith, counts.1)) in
    let sums = sum_by-append (λ (j : ℕ). cond (j == k) 1 0) (begun h) begun_first.0 in
    let all : count_by (λ j. j == k) (begun h ++ begun_first.0) ≡ count_by (λ j. j == k) (accepted h) = ap (count_by (λ j. j == k)) begun_first.1 in
    let none : count_by (λ j. j == k) begun_first.0 ≡ 0 = omega (arith, counts.2) in
    let parts : accepted h ≡ accepted before ++ k ∷ accepted after = ap accepted is ∙ accepted-append before (Push s k ∷ after) in
    let front = in_front (begun h) begun_first.0 (accepted before) (accepted after) k (begun_first.1 ∙ parts) none in
    let long : length (begun h) ≡ length (accepted before ++ k ∷ front.0) = ap length front.1 in let sum = length-append (accepted before) (k ∷ front.0) in
    let one = order.one_at_a_time in
    shorter (accepted before) (ended h) (k ∷ front.0) ended_first.0 (ended_first.1 ∙ front.1) (omega arith)

-- where a list goes on behind what was seen with events of a seat, and behind an event of it comes none of that seat, what was seen
-- begins what stands before that event
seen_before : (c : ℕ) (u new before after : List Event) (e : Event) → u ++ new ≡ before ++ e ∷ after → own c after ≡ [] → 0 < length (own c new)
    → IsPrefix u before
seen_before c [] new before after e is none some = (before, refl)
seen_before c (x ∷ u) new [] after e is none some =
    let tails : u ++ new ≡ after = cc in
    let own_is = ap (λ (h : List Event). length (own c h)) tails in
    absurd (omega (
      arith,
      own_is,
      ap (λ (h : List Event). length h) none,
      ap (λ (h : List Event). length h) (own-append c u new),
      length-append (own c u) (own c new),
      some,
    ))
seen_before c (x ∷ u) new (y ∷ before) after e is none some =
    let heads : x ≡ y = cc in let tails : u ++ new ≡ before ++ e ∷ after = cc in
    let more = seen_before c u new before after e tails none some in (more.0, λ i. heads i ∷ more.1 i)

-- once a barrier has run that a call queued, all has ended that had been accepted before the call
pub flushed_later : (k n : ℕ) (first wakes : Bool) (old mid : Known) (h : List Event) → Sees (Hold old.number k ∷ Push old.number k ∷ []) n old mid
    → IsPushed old.number k first wakes mid.seen → IsPrefix mid.seen h → HasFlushed k h → IsPrefix (accepted old.seen) (ended h)
flushed_later k n first wakes old mid h sees pushed more flush =
    let g = sees.grows in let s = old.number in
    let front = seen_before s old.seen g.new pushed.before pushed.after (Push s k) (sym g.is ∙ pushed.is) pushed.last
    (omega (arith, ap (λ (z : List Event). length z) g.mine)) in
    prefix_on (accepted old.seen) (accepted pushed.before) (ended h) (accepted front.0, sym (accepted-append old.seen front.0) ∙ ap accepted front.1)
    (flush s pushed.before (pushed.after ++ more.0) (sym more.1 ∙ (ap (λ (z : List Event). z ++ more.0) pushed.is ∙
    append_assoc pushed.before (Push s k ∷ pushed.after) more.0)))

pub flushed_all : (k n : ℕ) (first wakes : Bool) (old new : Known) → Sees (Hold old.number k ∷ Push old.number k ∷ []) n old new
    → IsPushed old.number k first wakes new.seen → HasFlushed k new.seen → IsPrefix (accepted old.seen) (ended new.seen)
flushed_all k n first wakes old new sees pushed = flushed_later k n first wakes old new new.seen sees pushed (prefix_self new.seen)
