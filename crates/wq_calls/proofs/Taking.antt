-- What a take or a close and the walk after it leave.
use Rattle.wq_calls.proofs.Common.{◌≡◌, ℕ, ◌+◌, ◌-◌, ◌<◌, ◌≤◌, Bool, true, false, ◌==◌, if◌then◌else◌, List, [], ◌∷◌, ◌++◌, length, Option, None, Some}
use Rattle.wq_calls.proofs.Common.{refl, ap, ◌∙◌, subst, arith, append_assoc, sym, append-nil, eqb-true, Layout, Event, number_count, accepted, begun}
use Rattle.wq_calls.proofs.Common.{listed, IsLegal, Step, link_word, number_at, head_at, item_of, Machine, after, IsSound, Part, Owns, owner_seat, own}
use Rattle.wq_calls.proofs.Common.{Grows, seat_at, HasStage, Makes, TakesAll, Stands, OnlySees, walking}
use Rattle.std.proofs.Common.{◌^◌}
use Rattle.wq_core.specs.Words.{TakesPushes}
use Rattle.wq_core.proofs.Heads.{item_linked}
use Rattle.wq_calls.proofs.Growing.{grows_on}
use Rattle.wq_calls.proofs.Tells.{Tells, TellsSo, tells_then, seen_after}
use Rattle.wq_calls.proofs.OwnerTells.{stands_batch, stands_legal, pair_owner, Swaps, after_swaps}
use Rattle.wq_calls.proofs.Waiting.{stands_walking}
use Rattle.wq_calls.proofs.Taken.{walked_lengths, CutsAll}

-- a step and what was seen after it
pub followed : (xs : List Event) (n : ℕ) (p q r : Part) → TellsSo xs n p q → OnlySees q r → Stands r → TellsSo xs n p r
followed xs n p q r told follows stands = record {
  layout_is = follows.layout_is ∙ told.layout_is;
  seat_is = follows.seat_is ∙ told.seat_is;
  grows = subst (λ (ys : List Event). Grows p.seat ys n p.seen r.seen) (append-nil xs)
      (grows_on p.seat xs [] n 0 n p.seen q.seen r.seen (omega arith) told.grows (subst (λ (c : ℕ). Grows c [] 0 q.seen r.seen) told.seat_is follows.grows));
  legal = subst (λ (l : Layout). IsLegal l r.seen) (follows.layout_is ∙ told.layout_is) (stands_legal r stands);
}

module _ (word : ℕ) (p q r : Part) (ks js : List ℕ) (count : ℕ) (mine : p.seat ≡ owner_seat) (stage : p.stage ≡ Owns None [] ks)
    (follows : OnlySees q r) (stands : Stands r) (stage' : r.stage ≡ Owns None [] js) (total : count + length ks ≡ length js) where
  lengths : (m : Machine) → IsSound m → HasStage m p.seat p.stage
      → length (accepted m.history) ≡ length (begun m.history) + length ks + length (listed m.history)
  lengths m sound keeps =
      let kept : HasStage m p.seat (Owns None [] ks) = subst (HasStage m p.seat) stage keeps in let same = ap (λ (x : List ℕ). length x) kept.3 in
      omega (arith, walked_lengths m sound kept.1)

  none_after : q.seat ≡ p.seat → own owner_seat follows.grows.new ≡ []
  none_after seat = subst (λ (c : ℕ). own c follows.grows.new ≡ []) (seat ∙ mine) follows.grows.mine

  -- what has been seen in the end, where the step added the event e
  seen_then : (st : Step) (e : Event) (makes : Makes st word p q) (n : Machine) → after makes.before (seat_at p.seat p.stage) st ≡ n
      → n.history ≡ makes.before.history ++ e ∷ [] → r.seen ≡ makes.before.history ++ e ∷ follows.grows.new
  seen_then st e makes n is adds = let m = makes.before in
      follows.grows.is ∙ (ap (λ (x : List Event). x ++ follows.grows.new) (seen_after st word p q makes n (e ∷ []) is adds) ∙
      append_assoc m.history (e ∷ []) follows.grows.new)

  pub cut_takes : (st : Step) (wd : ℕ) (e : Event) → Swaps st wd e → CutsAll e → Makes st word p q → TakesAll e count r.seen
  cut_takes st wd e swaps cuts makes = let m = makes.before in
      cuts r.layout m.history follows.grows.new r.seen ks js count (stands_legal r stands)
      (seen_then st e makes _ (after_swaps st wd e swaps m p.seat p.stage (pair_owner p.stage ks stage)) refl) (none_after makes.seat_is)
      (lengths m makes.sound makes.fits.keeps) (stands_batch r js stands stage') total

-- what was seen without an event of one's own, and a step after it
pub sees_tells : (p q : Part) → OnlySees p q → Stands q → Tells [] p q
sees_tells p q follows stands = record {
  layout_is = follows.layout_is;
  seat_is = follows.seat_is;
  grows = follows.grows;
  legal = subst (λ (l : Layout). IsLegal l q.seen) follows.layout_is (stands_legal q stands);
}

pub sees_then : (ys : ℕ → List Event) (p q r : Part) → OnlySees p q → Stands q → Tells (ys q.seat) q r → Tells (ys p.seat) p r
sees_then ys p q r follows stands told = tells_then ys 0 0 p q r (sees_tells p q follows stands) told

-- the step and the walk after it, for the calls
pub layout_at : (l l' : Layout) (n : ℕ) → l ≡ l' → number_count l ≤ n → number_count l' ≤ n
layout_at l l' n is less = subst (λ (x : Layout). number_count x ≤ n) is less

pub follows_none : (p : Part) → OnlySees p p
follows_none p = record { layout_is = refl; seat_is = refl; grows = record { new = []; is = sym (append-nil p.seen); mine = refl; theirs = omega arith } }

pub follows_both : (p q r : Part) → OnlySees p q → OnlySees q r → OnlySees p r
follows_both p q r a b = record {
  layout_is = b.layout_is ∙ a.layout_is;
  seat_is = b.seat_is ∙ a.seat_is;
  grows = grows_on p.seat [] [] 0 0 0 p.seen q.seen r.seen (omega arith) a.grows (subst (λ (c : ℕ). Grows c [] 0 q.seen r.seen) a.seat_is b.grows);
}

pub follows_on : (p q r : Part) → OnlySees p q → Tells [] q r → OnlySees p r
follows_on p q r follows told = follows_both p q r follows record { layout_is = told.layout_is; seat_is = told.seat_is; grows = told.grows }

-- a queue has few numbers
pub number_small : (l : Layout) → number_count l < 70000
number_small l = let items = l.in_limits.0.1 in let barriers = l.in_limits.1.1 in omega arith

-- what a walk found leads to one of them, or to none
pub walking_small : (word : ℕ) (walked ks : List ℕ) (p : Part) → Stands p → p.stage ≡ walking (number_at word) walked ks → word ≤ 2 ^ 32
walking_small word walked ks p stands is = go (word == 0) refl
  where
    go : (b : Bool) → (word == 0) ≡ b → word ≤ 2 ^ 32
    go true zero = omega (arith, eqb-true word 0 zero)
    go false more =
        let stage = is ∙ ap (λ (b : Bool). walking (if b then None else Some (word - 1)) walked ks) more in
        omega (arith, (stands_walking p (word - 1) walked ks stands stage).0, number_small p.layout)

-- and so does the head that was found, where it has a number
pub head_small : (found : ℕ) (walked ks : List ℕ) (p : Part) → Stands p → p.stage ≡ walking (item_of (head_at found)) walked ks
    → TakesPushes found → link_word found ≤ 2 ^ 32
head_small found walked ks p stands is takes =
    walking_small (link_word found) walked ks p stands (is ∙ ap (λ (k : Option ℕ). walking k walked ks) (item_linked found takes))
