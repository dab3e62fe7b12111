-- A pair of which one seat made steps.
use Rattle.wq_worker.proofs.Common.{ℕ, ◌+◌, List, [], ◌++◌, refl, ◌∙◌, subst, Event, IsLegal, Sees, KnownPair, pair_owner, pair_sender, Adds, Both}
use Rattle.wq_worker.proofs.Seats.{adds_owner, adds_sender, adds_on, adds_none}

pub both_still : (p : KnownPair) → IsLegal p.layout p.seen → Both [] 0 p p
both_still p legal = record { queue_is = refl; layout_is = refl; number_is = refl; adds = adds_none p.number p.seen; legal = legal }

pub both_on : (xs ys : List Event) (n m : ℕ) (old mid new : KnownPair) → Both xs n old mid → Both ys m mid new → Both (xs ++ ys) (n + m) old new
both_on xs ys n m old mid new a b = record {
  queue_is = b.queue_is ∙ a.queue_is;
  layout_is = b.layout_is ∙ a.layout_is;
  number_is = b.number_is ∙ a.number_is;
  adds = adds_on old.number xs ys n m old.seen mid.seen new.seen a.adds (subst (λ (z : ℕ). Adds z ys m mid.seen new.seen) a.number_is b.adds);
  legal = b.legal;
}

-- the owner made steps
pub by_owner : (xs : List Event) (n m : ℕ) (old new : KnownPair) → Sees xs n (pair_owner old) (pair_owner new)
    → Sees [] m (pair_sender old) (pair_sender new) → Both xs 0 old new
by_owner xs n m old new a b = record {
  queue_is = a.same.queue_is;
  layout_is = a.same.layout_is;
  number_is = b.same.number_is;
  adds = adds_owner old.number xs n m old.seen new.seen a.grows b.grows;
  legal = a.legal;
}

-- the sender made steps
pub by_sender : (xs : List Event) (n m : ℕ) (old new : KnownPair) → Sees xs n (pair_sender old) (pair_sender new)
    → Sees [] m (pair_owner old) (pair_owner new) → Both xs n old new
by_sender xs n m old new a b = record {
  queue_is = a.same.queue_is;
  layout_is = a.same.layout_is;
  number_is = a.same.number_is;
  adds = adds_sender old.number xs n m old.seen new.seen a.grows b.grows;
  legal = a.legal;
}
