-- Meetings of a worker and the senders of its queue.
use Rattle.wq_race.proofs.Common.{◌≡◌, ℕ, List, [], refl, sym, ◌∙◌, subst, append-nil, IsPrefix, Event, IsLegal, owner_seat, own, Known, Sees, WorkerState}
use Rattle.wq_race.proofs.Common.{Moves, RunCounter, HasMet, IsKnown, prefix_on, grows_same, own_more, none_of, worker_still, worker_on, moves_same, prefix_self}

pub met_still : (a : WorkerState RunCounter) → IsLegal a.layout a.seen → HasMet a a
met_still a legal = record { same = worker_still a; begins = prefix_self a.seen; unsent = refl; untouched = refl; legal = legal }

pub met_more : (a b c : WorkerState RunCounter) → HasMet a b → Moves [] 0 b c → HasMet a c
met_more a b c x m =
    let none = none_of b.number m.adds.new m.adds.ours in
    let mine = own_more b.number b.seen m.adds.new c.seen m.adds.is none.0 in
    record {
      same = worker_on a b c x.same (moves_same [] 0 b c m);
      begins = prefix_on a.seen b.seen c.seen x.begins (m.adds.new, sym m.adds.is);
      unsent = subst (λ (s : ℕ). own s c.seen ≡ own s b.seen) x.same.number_is mine ∙ x.unsent;
      untouched = own_more owner_seat b.seen m.adds.new c.seen m.adds.is none.1 ∙ x.untouched;
      legal = m.legal;
    }

pub known_one : (a b : Known) (seen : List Event) → Sees [] 0 a b → b.seen ≡ seen → IsKnown seen a b
known_one a b seen s both = record {
  same = s.same;
  mine = grows_same a.number 0 a.seen b.seen s.grows;
  known = ([], append-nil b.seen ∙ both);
  legal = s.legal;
}

pub known_more : (a b : Known) (v w : List Event) → IsPrefix v w → IsKnown v a b → IsKnown w a b
known_more a b v w more k = record { same = k.same; mine = k.mine; known = prefix_on b.seen v w k.known more; legal = k.legal }
