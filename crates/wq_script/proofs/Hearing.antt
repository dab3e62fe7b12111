-- Seats that make no event, and hear what others have seen.
use Rattle.wq_script.proofs.Common.{◌≡◌, ℕ, ◌<◌, List, [], length, get_or, set, arith, inl, inr, refl, sym, ap, ◌∙◌, subst, get_or-set_other, get_or-set_same}
use Rattle.wq_script.proofs.Common.{get_or_default, length-set, cases_eq, IsPrefix, Event, owner_seat, own, prefix_self, prefix_on, Known, Sees, WorkerState}
use Rattle.wq_script.proofs.Common.{Moves, DelayState, KeepsTable, StaysSilent, Hears, AllHear, IsSameTable, worker_sender, worker_owner}
use Rattle.wq_words.proofs.Seen.{none_of, grows_begins, grows_same, own_more}
use Rattle.wq_calls.proofs.Sends.{same_none, same_on}

pub stays_refl : (k : Known) → StaysSilent k k
stays_refl k = record { same = same_none k; begins = prefix_self k.seen; mine = refl }

pub stays_on : (a b c : Known) → StaysSilent a b → StaysSilent b c → StaysSilent a c
stays_on a b c x y = record {
  same = same_on a b c x.same y.same;
  begins = prefix_on a.seen b.seen c.seen x.begins y.begins;
  mine = subst (λ (n : ℕ). own n c.seen ≡ own n b.seen) x.same.number_is y.mine ∙ x.mine;
}

pub sees_stays : (n : ℕ) (a b : Known) → Sees [] n a b → StaysSilent a b
sees_stays n a b s = record { same = s.same; begins = grows_begins a.number [] n a.seen b.seen s.grows; mine = grows_same a.number n a.seen b.seen s.grows }

-- a seat that the hub met has heard all that the hub had seen
pub hears_hub : (told : List Event) (hub hub' k k' : Known) → IsPrefix told hub.seen → Sees [] 0 hub hub' → Sees [] 0 k k' → k'.seen ≡ hub'.seen
    → Hears told k k'
hears_hub told hub hub' k k' knows this that both = record {
  stays = sees_stays 0 k k' that;
  knows = subst (λ (x : List Event). IsPrefix told x) (sym both) (prefix_on told hub.seen hub'.seen knows (sees_stays 0 hub hub' this).begins);
}

pub same_table_on : (a b c : DelayState) → IsSameTable a b → IsSameTable b c → IsSameTable a c
same_table_on a b c x y = y ∙ x

pub keeps_same : (xs : List Event) (n : ℕ) (a b : DelayState) → KeepsTable xs n a b → IsSameTable a b
keeps_same xs n a b k = k.table_is

-- a part of what all were told
pub all_hear_less : (told more : List Event) (olds news : List Known) → IsPrefix told more → AllHear more olds news → AllHear told olds news
all_hear_less told more olds news less all = record {
  count = all.count;
  each = λ i d lt. let h = all.each i d lt in record { stays = h.stays; knows = prefix_on told more (get_or news i d).seen less h.knows };
}

pub all_hear_on : (told : List Event) (xs ys zs : List Known) → AllHear [] xs ys → AllHear told ys zs → AllHear told xs zs
all_hear_on told xs ys zs a b = record {
  count = b.count ∙ a.count;
  each = λ i d lt. let x = a.each i d lt in let y = b.each i d (omega (arith, lt, a.count)) in
      record { stays = stays_on (get_or xs i d) (get_or ys i d) (get_or zs i d) x.stays y.stays; knows = y.knows };
}

-- one of them made no event since
pub all_hear_set : (told : List Event) (olds news : List Known) (p : ℕ) (d : Known) (k : Known) → p < length news → AllHear told olds news
    → StaysSilent (get_or news p d) k → AllHear told olds (set news p k)
all_hear_set told olds news p e k here all stays = record {
  count = length-set news p k ∙ all.count;
  each = λ i d lt. elim (cases_eq i p) [
    | inl is ↦
        let h = all.each i d lt in
        let at : get_or (set news p k) i d ≡ k = ap (λ (j : ℕ). get_or (set news p k) j d) is ∙ get_or-set_same news p k d here in
        let was : get_or news p e ≡ get_or news i d = get_or_default news p e d here ∙ ap (λ (j : ℕ). get_or news j d) (sym is) in
        let s : StaysSilent (get_or news i d) k = subst (λ (x : Known). StaysSilent x k) was stays in
        subst (λ (x : Known). Hears told (get_or olds i d) x) (sym at)
        record { stays = stays_on (get_or olds i d) (get_or news i d) k h.stays s; knows = prefix_on told (get_or news i d).seen k.seen h.knows s.begins }
    | inr ne ↦ subst (λ (x : Known). Hears told (get_or olds i d) x) (sym (get_or-set_other news p i k d ne)) (all.each i d lt)
  ];
}

pub all_hear_nothing : (xs : List Known) → AllHear [] xs xs
all_hear_nothing xs = record { count = refl; each = λ i d lt. record { stays = stays_refl (get_or xs i d); knows = ((get_or xs i d).seen, refl) } }

-- a worker's seats, where neither made an event
pub moves_stay : {W : Type 0} (n : ℕ) (a b : WorkerState W) → Moves [] n a b → StaysSilent (worker_sender a) (worker_sender b)
    × StaysSilent (worker_owner a) (worker_owner b)
moves_stay n a b m =
    let none = none_of a.number m.adds.new m.adds.ours in
    let begins : IsPrefix a.seen b.seen = (m.adds.new, sym m.adds.is) in (
      record {
        same = record { queue_is = m.queue; layout_is = m.layout; number_is = m.number };
        begins = begins;
        mine = own_more a.number a.seen m.adds.new b.seen m.adds.is none.0;
      },
      record {
        same = record { queue_is = m.queue; layout_is = m.layout; number_is = refl };
        begins = begins;
        mine = own_more owner_seat a.seen m.adds.new b.seen m.adds.is none.1;
      },
    )

-- each of them is of the queue that it was of
pub queue_heard : (told : List Event) (olds news : List Known) → AllHear told olds news → (i : ℕ) (d : Known) → i < length olds
    → (get_or news i d).queue ≡ (get_or olds i d).queue
queue_heard told olds news all i d lt = (all.each i d lt).stays.same.queue_is
