-- A book that meets senders.
use Rattle.wq_race.proofs.Common.{◌≡◌, ℕ, suc, ◌+◌, ◌*◌, List, [], ◌∷◌, length, refl, sym, ap, ◌∙◌, arith, All, sum_by, sum_by-cons, append-nil, owner_seat}
use Rattle.wq_race.proofs.Common.{Grows, Known, Sees, sender_counts, LedgerState, BookState, HasHeard, ledger_of, grows_same, prefix_on}
use Rattle.wq_race.proofs.Common.{IsPrefix, Event, IsTold}
use Rattle.wq_calls.proofs.Counting.{counts_none}

pub heard_still : (b : BookState) → HasHeard b b
heard_still b = record { queue_is = refl; layout_is = refl; own_is = refl; begins = ([], append-nil b.seen); untouched = refl }

pub heard_one : (a b : BookState) → (b.queue ≡ a.queue) × (b.layout ≡ a.layout) × (b.own ≡ a.own) → Grows owner_seat [] 0 a.seen b.seen → HasHeard a b
heard_one a b same g = record {
  queue_is = same.0;
  layout_is = same.1;
  own_is = same.2;
  begins = (g.new, sym g.is);
  untouched = grows_same owner_seat 0 a.seen b.seen g;
}

pub heard_on : (a b c : BookState) → HasHeard a b → HasHeard b c → HasHeard a c
heard_on a b c x y = record {
  queue_is = y.queue_is ∙ x.queue_is;
  layout_is = y.layout_is ∙ x.layout_is;
  own_is = y.own_is ∙ x.own_is;
  begins = prefix_on a.seen b.seen c.seen x.begins y.begins;
  untouched = y.untouched ∙ x.untouched;
}

-- a sender that made no event has the ledger that it had
pub ledger_same : (a b : Known) (l : LedgerState) → Sees [] 0 a b → l.number ≡ a.number → l.counts ≡ sender_counts b.number b.seen → l ≡ ledger_of a
ledger_same a b l s number counts =
    let same : sender_counts a.number a.seen ≡ sender_counts a.number b.seen = counts_none a.number 0 a.seen b.seen
    (sender_counts a.number a.seen) refl s.grows in
    let now : l.counts ≡ sender_counts a.number a.seen = counts ∙ (ap (λ (n : ℕ). sender_counts n b.seen) s.same.number_is ∙ sym same) in
    λ i. record { number = number i; counts = now i }

-- what the senders queued in all, where each queued as many
pub sum_same : (f : Known → ℕ) (c : ℕ) (xs : List Known) → All (λ (x : Known). f x ≡ c) xs → sum_by f xs ≡ length xs * c
sum_same f c [] all = omega arith
sum_same f c (x ∷ xs) all =
    let here : f x ≡ c = all 0 x (omega arith) in
    let rest : sum_by f xs ≡ length xs * c = sum_same f c xs (λ i d lt. all (suc i) d (omega (arith, lt))) in
    let step : suc (length xs) * c ≡ length xs * c + c = omega arith in
    omega (arith, sum_by-cons f x xs, here, rest, step)

-- a sender of which a history tells is told of in each later one
pub told_on : (old now new : List Event) (xs : List Known) → IsPrefix now new → All (IsTold old now) xs → All (IsTold old new) xs
told_on old now new xs more all i d lt = let t = all i d lt in (t.0, t.1, prefix_on t.0 now new t.2 more, t.3)
