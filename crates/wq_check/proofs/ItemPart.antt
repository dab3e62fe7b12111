-- A history without its barriers and the stop item: a trace that shows it is legal too.
use Rattle.wq_check.proofs.Common.{◌≡◌, ◌↔◌, ℕ, zero, suc, ◌<◌, ◌≤◌, Bool, true, false, List, [], ◌∷◌, ◌++◌, length, drop, slice_get, Some}
use Rattle.wq_check.proofs.Common.{refl, sym, ap, ◌∙◌, arith, length-append, append-nil, Layout, Event, accepted, begun, ended, running, IsLegal}
use Rattle.wq_check.proofs.Common.{slice_get_append, slice_get_last, in_order, Mark, Queue, Start, End, queued, started, returned, number_of, IsLegalTrace}
use Rattle.wq_check.proofs.Common.{times, unbegun}
use Rattle.std.specs.Prelude.{filter, nat_lt}
use Rattle.std.proofs.lemmas.Bool.{ltb-true}
use Rattle.std.proofs.lemmas.List.{drop_at}
use Rattle.std.proofs.lemmas.List.Elements.{filter-append}
use Rattle.wq_words.specs.declared.event.Event.TheVariants as event
use Rattle.wq_words.specs.History.{accepted_by, begun_by, ended_by}
use Rattle.wq_words.specs.Legal.{IsAllowed}
use Rattle.std.proofs.lemmas.List.{same_from_push}
use Rattle.wq_words.proofs.Legal.{legal_induction}
use Rattle.wq_words.proofs.Order.{RunsInOrder, idle-same}
use Rattle.wq_words.proofs.Prefixes.{prefix_whole}
use Rattle.wq_check.specs.Shows.{is_of_items, item_part, ShowsItemsOfLegalHistory}
use Rattle.wq_check.proofs.Lists.{drop_some}
use Rattle.wq_words.proofs.Filters.{filter_map-filter, length-filter-le}
use Rattle.wq_words.proofs.Times.{times-filter}
use Rattle.wq_check.proofs.Shown.{trace_items}
use Rattle.wq_check.proofs.Unshown.{TakesTurns, shown, not_unbegun}

-- all that stand there are below n
abbrev AreBelow : ℕ → List ℕ → Type 0
AreBelow n xs = (i k : ℕ) → slice_get xs i ≡ Some k → k < n

kept_below : (n : ℕ) (xs : List ℕ) → AreBelow n (filter (λ k. nat_lt k n) xs)
kept_below n [] = λ i k at. absurd cc
kept_below n (x ∷ xs) = go (nat_lt x n) refl (kept_below n xs)
  where
    go : (b : Bool) → nat_lt x n ≡ b → AreBelow n (filter (λ k. nat_lt k n) xs) → AreBelow n (filter (λ k. nat_lt k n) (x ∷ xs))
    go true is rest = rw is first
      where
        first : AreBelow n (x ∷ filter (λ k. nat_lt k n) xs)
        first zero k at = let same : x ≡ k = cc at in rw (← same) (ltb-true x n is)
        first (suc i) k at = rest i k at
    go false is rest = rw is rest

-- marks are of items where all that was queued, started and returned are
marks_below : (n : ℕ) (t : List Mark) → AreBelow n (queued t) → AreBelow n (started t) → AreBelow n (returned t)
    → (place : ℕ) (m : Mark) → slice_get t place ≡ Some m → number_of m < n
marks_below n [] q s r place m at = absurd cc
marks_below n (Queue k ∷ t) q s r zero m at = let same : Queue k ≡ m = cc at in rw (← same) (q 0 k refl)
marks_below n (Start k ∷ t) q s r zero m at = let same : Start k ≡ m = cc at in rw (← same) (s 0 k refl)
marks_below n (End k ∷ t) q s r zero m at = let same : End k ≡ m = cc at in rw (← same) (r 0 k refl)
marks_below n (Queue k ∷ t) q s r (suc place) m at = marks_below n t (λ i. q (suc i)) s r place m at
marks_below n (Start k ∷ t) q s r (suc place) m at = marks_below n t q (λ i. s (suc i)) r place m at
marks_below n (End k ∷ t) q s r (suc place) m at = marks_below n t q s (λ i. r (suc i)) place m at

accepts_of : (layout : Layout) (e : Event) (k : ℕ) → accepted_by e ≡ Some k → is_of_items layout e ≡ nat_lt k layout.items
accepts_of layout (event.Push s j) k is = let same : j ≡ k = cc is in ap (λ i. nat_lt i layout.items) same
accepts_of layout (event.Chain j) k is = let same : j ≡ k = cc is in ap (λ i. nat_lt i layout.items) same
accepts_of layout _ k is = absurd cc

begins_of : (layout : Layout) (e : Event) (k : ℕ) → begun_by e ≡ Some k → is_of_items layout e ≡ nat_lt k layout.items
begins_of layout (event.Begin j) k is = let same : j ≡ k = cc is in ap (λ i. nat_lt i layout.items) same
begins_of layout _ k is = absurd cc

ends_of : (layout : Layout) (e : Event) (k : ℕ) → ended_by e ≡ Some k → is_of_items layout e ≡ nat_lt k layout.items
ends_of layout (event.End j) k is = let same : j ≡ k = cc is in ap (λ i. nat_lt i layout.items) same
ends_of layout _ k is = absurd cc

module _ (layout : Layout) where
  abbrev is_item : ℕ → Bool
  is_item k = nat_lt k layout.items

  abbrev items_in : List ℕ → List ℕ
  items_in ks = filter is_item ks

  accepted_part : (h : List Event) → accepted (item_part layout h) ≡ items_in (accepted h)
  accepted_part = filter_map-filter accepted_by (is_of_items layout) is_item (accepts_of layout)

  begun_part : (h : List Event) → begun (item_part layout h) ≡ items_in (begun h)
  begun_part = filter_map-filter begun_by (is_of_items layout) is_item (begins_of layout)

  ended_part : (h : List Event) → ended (item_part layout h) ≡ items_in (ended h)
  ended_part = filter_map-filter ended_by (is_of_items layout) is_item (ends_of layout)

  parts : (xs ys zs : List ℕ) → xs ++ ys ≡ zs → items_in xs ++ items_in ys ≡ items_in zs
  parts xs ys zs is = sym (filter-append is_item xs ys) ∙ ap items_in is

  module _ (h : List Event) (legal : IsLegal layout h) where
    part_in_order : RunsInOrder (item_part layout h)
    part_in_order =
        let i = in_order layout h legal in
        let rest = i.ended_first.0 in
        let whole = parts (ended h) rest (begun h) i.ended_first.1 in
        let one : length rest ≤ 1 = omega (arith, ap length i.ended_first.1, length-append (ended h) rest, i.one_at_a_time) in
        rw (accepted_part h, begun_part h, ended_part h) (record {
          begun_first = (items_in i.begun_first.0, parts (begun h) i.begun_first.0 (accepted h) i.begun_first.1);
          ended_first = (items_in rest, whole);
          one_at_a_time = omega (arith, one, ap length whole, length-append (items_in (ended h)) (items_in rest), length-filter-le is_item rest);
        })

    unbegun_part : unbegun (item_part layout h) ≡ items_in (unbegun h)
    unbegun_part =
        let front = (in_order layout h legal).begun_first in
        let n = length (items_in (begun h)) in
        let rest : unbegun h ≡ front.0 = ap (drop (length (begun h))) (sym front.1) ∙ drop_at (begun h) front.0 (length (begun h)) refl in
        let kept : drop n (items_in (accepted h)) ≡ items_in front.0 =
        ap (drop n) (sym (parts (begun h) front.0 (accepted h) front.1)) ∙ drop_at (items_in (begun h)) (items_in front.0) n refl in
        rw (accepted_part h, begun_part h) (kept ∙ ap items_in (sym rest))

    part_waits_not : (k : ℕ) → times k (unbegun h) ≡ 0 → times k (unbegun (item_part layout h)) ≡ 0
    part_waits_not k none = rw unbegun_part (omega (arith, none, times-filter k is_item (unbegun h)))

    part_rests : length (ended h) ≡ length (begun h) → length (ended (item_part layout h)) ≡ length (begun (item_part layout h))
    part_rests same =
        let whole = prefix_whole (ended h) (begun h) (in_order layout h legal).ended_first (omega (arith, same)) in
        rw (begun_part h, ended_part h) (ap (λ ks. length (items_in ks)) whole)

    part_runs : (k : ℕ) → is_item k ≡ true → running h ≡ Some k → running (item_part layout h) ≡ Some k
    part_runs k item runs =
        let front = (in_order layout h legal).ended_first in
        let n = length (ended h) in
        let behind = drop (suc n) (begun h) in
        let after : front.0 ≡ k ∷ behind = sym (drop_at (ended h) front.0 n refl) ∙ (ap (drop n) front.1 ∙ drop_some (begun h) n k runs) in
        let first : items_in front.0 ≡ k ∷ items_in behind = ap items_in after ∙ rw item refl in
        let whole : items_in (begun h) ≡ items_in (ended h) ++ k ∷ items_in behind =
        sym (parts (ended h) front.0 (begun h) front.1) ∙ ap (λ ks. items_in (ended h) ++ ks) first in
        rw (begun_part h, ended_part h, whole) (slice_get_last (items_in (ended h)) k (items_in behind))

  -- a legal history has this part
  abbrev IsPart : List Event → Type 0
  IsPart g = (h : List Event) × IsLegal layout h × (item_part layout h ≡ g)

  -- the last event of the part came where the events before it are the part of the history
  record CameLast (g : List Event) (e : Event) : Type 0 where
    pub before : List Event
    pub legal : IsLegal layout before
    pub allowed : IsAllowed layout before e
    pub is : item_part layout before ≡ g
    pub item : is_of_items layout e ≡ true

  came_last : (h : List Event) → IsLegal layout h → (g : List Event) (e : Event) → item_part layout h ≡ g ++ e ∷ [] → CameLast g e
  came_last = legal_induction layout (λ h. (g : List Event) (e : Event) → item_part layout h ≡ g ++ e ∷ [] → CameLast g e) none more
    where
      none : (g : List Event) (e : Event) → [] ≡ g ++ e ∷ [] → CameLast g e
      none g e is = absurd (omega (arith, ap (length {A = Event}) is, length-append g (e ∷ [])))

      more : (h : List Event) (f : Event) → IsLegal layout h → IsAllowed layout h f
          → ((g : List Event) (e : Event) → item_part layout h ≡ g ++ e ∷ [] → CameLast g e)
          → (g : List Event) (e : Event) → item_part layout (h ++ f ∷ []) ≡ g ++ e ∷ [] → CameLast g e
      more h f legal allowed before g e is = go (is_of_items layout f) refl
        where
          go : (b : Bool) → is_of_items layout f ≡ b → CameLast g e
          go true item =
              let grown : item_part layout (h ++ f ∷ []) ≡ item_part layout h ++ f ∷ [] = filter-append (is_of_items layout) h (f ∷ []) ∙ rw item refl in
              let both = same_from_push (item_part layout h) g f e (sym grown ∙ is) in
              record { before = h; legal = legal; allowed = rw (← both.1) allowed; is = both.0; item = rw (← both.1) item }
          go false other =
              let grown : item_part layout (h ++ f ∷ []) ≡ item_part layout h ++ [] = filter-append (is_of_items layout) h (f ∷ []) ∙ rw other refl in
              before g e (sym (grown ∙ append-nil (item_part layout h)) ∙ is)

  part_turns : TakesTurns IsPart
  part_turns = record {
    front = λ g e p. let c = came_last p.0 p.1 g e p.2 in (c.before, c.legal, c.is);
    ordered = λ g p. rw (← p.2) (part_in_order p.0 p.1);
    accepts = λ g e k p is. let c = came_last p.0 p.1 g e p.2 in
        rw (← c.is) (part_waits_not c.before c.legal k (not_unbegun layout c.before c.legal e k c.allowed is));
    begins = λ g k p. let c = came_last p.0 p.1 g (event.Begin k) p.2 in
        rw (← c.is) (part_rests c.before c.legal ((idle-same layout c.before c.legal).0 c.allowed.2.0));
    ends = λ g k p. let c = came_last p.0 p.1 g (event.End k) p.2 in
        rw (← c.is) (part_runs c.before c.legal k c.item c.allowed.2);
  }

  items_legal : (t : List Mark) → ShowsItemsOfLegalHistory layout t → IsLegalTrace layout t
  items_legal t (h, legal, shows) place m at =
      let o = shown IsPart part_turns t (item_part layout h) shows (h, legal, refl) in
      let is_queued : queued t ≡ items_in (accepted h) = sym o.queued_is ∙ accepted_part h in
      let is_started : started t ++ o.early ≡ items_in (begun h) = sym o.started_is ∙ begun_part h in
      let is_returned : returned t ≡ items_in (ended h) = sym o.returned_is ∙ ended_part h in
      let q : AreBelow layout.items (queued t) = rw is_queued (kept_below layout.items (accepted h)) in
      let s : AreBelow layout.items (started t ++ o.early) = rw is_started (kept_below layout.items (begun h)) in
      let r : AreBelow layout.items (returned t) = rw is_returned (kept_below layout.items (ended h)) in
      (marks_below layout.items t q (λ i k there. s i k (slice_get_append (started t) o.early i k there)) r place m at, o.rules place m at)

-- a trace is legal by the items alone, and not by the barriers and senders
same_items : (layout queue : Layout) (t : List Mark) → layout.items ≡ queue.items → IsLegalTrace layout t → IsLegalTrace queue t
same_items layout queue t same legal place m at = let both = legal place m at in (omega (arith, both.0, same), both.1)

pub of_items : (layout queue : Layout) (t : List Mark) → layout.items ≡ queue.items → (IsLegalTrace layout t ↔ ShowsItemsOfLegalHistory queue t)
of_items layout queue t same = (
  λ legal. trace_items queue t (same_items layout queue t same legal),
  λ shows. same_items queue layout t (sym same) (items_legal queue t shows),
)
