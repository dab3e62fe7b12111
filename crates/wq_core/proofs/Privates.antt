-- What follows the keepers of the numbers: the item words, and what the senders keep in private.
use Rattle.wq_core.proofs.Common.{TakesPushes, HasSeenCause, IsCause, cause_stays, subst, Closed, Draining, ◌≡◌, ◌≢◌, ℕ, ◌<◌, ◌==◌, Bool, true, false}
use Rattle.wq_core.proofs.Common.{List, [], ◌∷◌, ◌++◌, length, get_or, set, None, Some, Option, if◌then◌else◌, refl, sym, ap, ◌∙◌, arith, inl, inr}
use Rattle.wq_core.proofs.Common.{get_or-set_other, get_or-set_same, eqb-false, cases_eq, Why, Event, Keeper, Sender, keeper_after, keeper, Private}
use Rattle.wq_core.proofs.Common.{link_place, link_to, nothing_seen, other_than, unlinked}
use Rattle.wq_words.proofs.Keepers.{LeavesWith, Spares, keeper_push}

-- at the place of each number the list has what f says of its keeper
abbrev pub FollowKeepers : {X : Type 0} → (Keeper → X) → X → (ℕ → ℕ) → ℕ → List X → List Event → Type 0
FollowKeepers f default place n xs h = (k : ℕ) → k < n → get_or xs (place k) default ≡ f (keeper h k)

module _ {X : Type 0} (f : Keeper → X) (default : X) (place : ℕ → ℕ) (n : ℕ) (xs : List X) (h : List Event) (e : Event) where
  -- what is stored of k is as its new keeper wants it, and every other is as it was
  pub follow_give : (k : ℕ) (y : Keeper) → ((j : ℕ) → place j ≡ place k → j ≡ k) → place k < length xs → LeavesWith k e y
      → FollowKeepers f default place n xs h → FollowKeepers f default place n (set xs (place k) (f y)) (h ++ e ∷ [])
  follow_give k y own in' gives old j lt =
      elim (cases_eq j k) [
        | inl same ↦ rw (same, keeper_push h e k, gives.1 (keeper h k)) (get_or-set_same xs (place k) (f y) default in')
        | inr ne ↦ rw (keeper_push h e j, gives.0 j (keeper h j) ne, get_or-set_other xs (place k) (place j) (f y) default (λ e. ne (own j e))) (old j lt)
      ]

  -- what is as it should be need not be written
  pub follow_same : (k : ℕ) (y : Keeper) → LeavesWith k e y → f y ≡ f (keeper h k) → FollowKeepers f default place n xs h
      → FollowKeepers f default place n xs (h ++ e ∷ [])
  follow_same k y gives same_bit old j lt =
      elim (cases_eq j k) [
        | inl same ↦ rw (same, keeper_push h e k, gives.1 (keeper h k), same_bit) (let o = old j lt in rw same at o)
        | inr ne ↦ rw (keeper_push h e j, gives.0 j (keeper h j) ne) (old j lt)
      ]

  -- the event changes nothing that f says
  pub follow_quiet : ((j : ℕ) (x : Keeper) → f (keeper_after j x e) ≡ f x) → FollowKeepers f default place n xs h
      → FollowKeepers f default place n xs (h ++ e ∷ [])
  follow_quiet quiet old k lt = rw (keeper_push h e k) (old k lt ∙ sym (quiet k (keeper h k)))

-- another word is written
pub follow_set : {X : Type 0} (f : Keeper → X) (default : X) (place : ℕ → ℕ) (n : ℕ) (xs : List X) (h : List Event) (i : ℕ) (v : X)
    → ((j : ℕ) → j < n → place j ≢ i)
    → FollowKeepers f default place n xs h → FollowKeepers f default place n (set xs i v) h
follow_set f default place n xs h i v other old k lt = get_or-set_other xs i (place k) v default (other k lt) ∙ old k lt

-- what sender s linked is a number of the queue that it keeps, and its link leads to the head that it has seen, which is that of a
-- queue that takes pushes
abbrev pub Linked : ℕ → List ℕ → Private → List Event → ℕ → ℕ → Type 0
Linked n words p h s k =
    (k < n) × (keeper h k ≡ Sender s) × (link_to p.seen ≡ Some (get_or words (link_place k) 0)) × TakesPushes (get_or words (link_place k) 0)

abbrev pub AreLinked : ℕ → List ℕ → List Private → List Event → Type 0
AreLinked n words seats h = (s k : ℕ) → (get_or seats s nothing_seen).linked ≡ Some k → Linked n words (get_or seats s nothing_seen) h s k

-- what a sender has seen as a cause to give a number back is one
abbrev pub AreSeen : List Private → List Event → Type 0
AreSeen seats h = (s : ℕ) (why : Why) → HasSeenCause why (get_or seats s nothing_seen).seen → IsCause h why

-- a word that is no link is written
pub linked_set : (n : ℕ) (words : List ℕ) (seats : List Private) (h : List Event) (i v : ℕ) → ((j : ℕ) → j < n → link_place j ≢ i)
    → AreLinked n words seats h → AreLinked n (set words i v) seats h
linked_set n words seats h i v other old s k is =
    let o = old s k is in
    let same : get_or (set words i v) (link_place k) 0 ≡ get_or words (link_place k) 0 = get_or-set_other words i (link_place k) v 0 (other k o.0) in
    (o.0, o.1, o.2 ∙ ap Some (sym same), subst TakesPushes (sym same) o.3)

-- the event is about no number
pub linked_quiet : (n : ℕ) (words : List ℕ) (seats : List Private) (h : List Event) (e : Event)
    → ((j s : ℕ) → keeper_after j (Sender s) e ≡ Sender s) → AreLinked n words seats h → AreLinked n words seats (h ++ e ∷ [])
linked_quiet n words seats h e quiet old s k is =
    let o = old s k is in
    (o.0, keeper_push h e k ∙ ap (λ x. keeper_after k x e) o.1 ∙ quiet k s, o.2, o.3)

-- the event is about a number that no sender keeps
pub linked_spares : (n : ℕ) (words : List ℕ) (seats : List Private) (h : List Event) (e : Event) (k : ℕ) → Spares k e
    → ((s : ℕ) → keeper h k ≡ Sender s → ⊥) → AreLinked n words seats h → AreLinked n words seats (h ++ e ∷ [])
linked_spares n words seats h e k spares free old s j is =
    let o = old s j is in
    let ne : j ≢ k = λ same. free s (rw same at (o.1)) in
    (o.0, keeper_push h e j ∙ spares j (keeper h j) ne ∙ o.1, o.2, o.3)

-- what seat s now keeps in private it has linked before, and not k
abbrev pub KeepsLinked : Private → Private → ℕ → Type 0
KeepsLinked old new k = (j : ℕ) → new.linked ≡ Some j → (j ≢ k) × (old.linked ≡ Some j) × (new.seen ≡ old.seen)

-- sender s gives the number k away
pub linked_give : (n : ℕ) (words : List ℕ) (seats : List Private) (h : List Event) (e : Event) (s k : ℕ) (p : Private) → s < length seats
    → Spares k e → keeper h k ≡ Sender s → KeepsLinked (get_or seats s nothing_seen) p k
    → AreLinked n words seats h → AreLinked n words (set seats s p) (h ++ e ∷ [])
linked_give n words seats h e s k p in' spares mine keeps old t j is =
    elim (cases_eq t s) [ inl same ↦ own same | inr ne ↦ others ne ]
  where
    own : t ≡ s → Linked n words (get_or (set seats s p) t nothing_seen) (h ++ e ∷ []) t j
    own same =
        let here : get_or (set seats s p) t nothing_seen ≡ p = rw same (get_or-set_same seats s p nothing_seen in') in
        let kept = keeps j (rw here at is) in
        let o = old s j (kept.1) in
        (o.0, keeper_push h e j ∙ spares j (keeper h j) (kept.0) ∙ rw same (o.1), rw here (ap link_to (kept.2) ∙ o.2), o.3)

    others : t ≢ s → Linked n words (get_or (set seats s p) t nothing_seen) (h ++ e ∷ []) t j
    others ne =
        let there : get_or (set seats s p) t nothing_seen ≡ get_or seats t nothing_seen = get_or-set_other seats s t p nothing_seen ne in
        let o = old t j (rw there at is) in
        let apart' : j ≢ k = λ e'. let m : Sender t ≡ Sender s = sym (o.1) ∙ ap (keeper h) e' ∙ mine in ne (cc m) in
        (o.0, keeper_push h e j ∙ spares j (keeper h j) apart' ∙ o.1, rw there (o.2), o.3)

-- sender s links a number that it keeps
pub linked_link : (n : ℕ) (words : List ℕ) (seats : List Private) (h : List Event) (s k w : ℕ) → s < length seats → k < n
    → link_place k < length words → keeper h k ≡ Sender s → link_to (get_or seats s nothing_seen).seen ≡ Some w → TakesPushes w
    → AreLinked n words seats h → AreLinked n (set words (link_place k) w) (set seats s (record (get_or seats s nothing_seen) { linked = Some k })) h
linked_link n words seats h s k w in' number room mine seen takes old t j is =
    elim (cases_eq t s) [ inl same ↦ own same | inr ne ↦ others ne ]
  where
    p : Private
    p = record (get_or seats s nothing_seen) { linked = Some k }

    spelled : get_or (set words (link_place k) w) (link_place k) 0 ≡ w
    spelled = get_or-set_same words (link_place k) w 0 room

    own : t ≡ s → Linked n (set words (link_place k) w) (get_or (set seats s p) t nothing_seen) h t j
    own same =
        let here : get_or (set seats s p) t nothing_seen ≡ p = rw same (get_or-set_same seats s p nothing_seen in') in
        let linked : Some k ≡ Some j = rw here at is in
        let k≡j : k ≡ j = cc linked in
        rw (here, ← k≡j, same, spelled) (number, mine, seen, takes)

    others : t ≢ s → Linked n (set words (link_place k) w) (get_or (set seats s p) t nothing_seen) h t j
    others ne =
        let there : get_or (set seats s p) t nothing_seen ≡ get_or seats t nothing_seen = get_or-set_other seats s t p nothing_seen ne in
        let o = old t j (rw there at is) in
        let apart' : j ≢ k = λ e'. let m : Sender t ≡ Sender s = sym (o.1) ∙ ap (keeper h) e' ∙ mine in ne (cc m) in
        let kept : get_or (set words (link_place k) w) (link_place j) 0 ≡ get_or words (link_place j) 0 =
        get_or-set_other words (link_place k) (link_place j) w 0 (λ e. apart' (omega (arith, e))) in
        rw (there, kept) o

-- sender s forgets what it linked
pub linked_forget : (n : ℕ) (words : List ℕ) (seats : List Private) (h : List Event) (s : ℕ) (p : Private) → s < length seats → p.linked ≡ None
    → AreLinked n words seats h → AreLinked n words (set seats s p) h
linked_forget n words seats h s p in' none old t j is =
    elim (cases_eq t s) [
      | inl same ↦
          let here : get_or (set seats s p) t nothing_seen ≡ p = rw same (get_or-set_same seats s p nothing_seen in') in
          absurd (cc (none, rw here at is))
      | inr ne ↦
          let there : get_or (set seats s p) t nothing_seen ≡ get_or seats t nothing_seen = get_or-set_other seats s t p nothing_seen ne in
          rw there (old t j (rw there at is))
    ]

pub seen_after : (seats : List Private) (h : List Event) (e : Event) → AreSeen seats h → AreSeen seats (h ++ e ∷ [])
seen_after seats h e old s why is = cause_stays h e why (old s why is)

pub seen_set : (seats : List Private) (h : List Event) (s : ℕ) (p : Private) → s < length seats → ((why : Why) → HasSeenCause why p.seen → IsCause h why)
    → AreSeen seats h → AreSeen (set seats s p) h
seen_set seats h s p in' new old t why is =
    elim (cases_eq t s) [
      | inl same ↦
          let here : get_or (set seats s p) t nothing_seen ≡ p = rw same (get_or-set_same seats s p nothing_seen in') in
          new why (rw here at is)
      | inr ne ↦
          let there : get_or (set seats s p) t nothing_seen ≡ get_or seats t nothing_seen = get_or-set_other seats s t p nothing_seen ne in
          old t why (rw there at is)
    ]

-- who has seen nothing has seen no cause
pub none_seen : (h : List Event) (why : Why) → HasSeenCause why None → IsCause h why
none_seen h Closed is = absurd cc
none_seen h Draining is = absurd cc
none_seen h _ is = tt

-- what a sender keeps linked once it has given k back
pub keeps_unlinked : (p : Private) (k : ℕ) → KeepsLinked p (unlinked p k) k
keeps_unlinked p k j is = go p.linked refl is
  where
    some : (i : ℕ) → p.linked ≡ Some i → (q : Bool) → (i == k) ≡ q → (if q then None else Some i) ≡ Some j
        → (j ≢ k) × (p.linked ≡ Some j) × ((unlinked p k).seen ≡ p.seen)
    some i was true same e = absurd cc
    some i was false other e =
        let i≡j : i ≡ j = cc e in
        (λ j≡k. eqb-false i k other (i≡j ∙ j≡k), was ∙ e, refl)

    go : (l : Option ℕ) → p.linked ≡ l → other_than k l ≡ Some j → (j ≢ k) × (p.linked ≡ Some j) × ((unlinked p k).seen ≡ p.seen)
    go None was e = absurd cc
    go (Some i) was e = some i was (i == k) refl e
