-- Each legal history keeps the headline.
use Rattle.wq_words.proofs.Common.{◌≡◌, ◌≢◌, ℕ, zero, suc, ◌+◌, ◌<◌, ◌≤◌, ◌==◌, Bool, true, false, cond, List, [], ◌∷◌, ◌++◌, length, take, drop, Some}
use Rattle.wq_words.proofs.Common.{slice_get, refl, sym, ap, ◌∙◌, inl, inr, arith, take-append-drop, count_by, take-take, take_all, length-take, length_push}
use Rattle.wq_words.proofs.Common.{take-append-le, sum_by-cons, cases_lt, eqb-true, eq-eqb, and_parts, nat_tests, slice_get_within, IsPrefix, Layout, Event}
use Rattle.wq_words.proofs.Common.{Hold, Push, Close, Begin, End, accepted_by, begun_by, ended_by, accepted, begun, ended, starts_hold, stops_hold, is_close}
use Rattle.wq_words.proofs.Common.{IsPending, Holds, IsAllowed, IsLegal, Keeper, Sender, keeper, Resume, HasRunOut}
use Rattle.wq_words.specs.Headline.{NeverOverlaps, Executes, KeepsSenderOrder, NoPushFollowsClose, IsOwnHold, EachPushHasHold, HasOneHolder, KeepsHeadline}
use Rattle.wq_words.proofs.Growing.{count_by_push, filter_map_push_some, take_more_some, slice_get_push, slice_get_append, slice_get_last, take_append}
use Rattle.wq_words.proofs.Growing.{take_length}
use Rattle.wq_words.proofs.Legal.{legal_front, legal_induction}
use Rattle.wq_words.proofs.Prefixes.{prefix_length, prefix_whole}
use Rattle.wq_words.proofs.Order.{RunsInOrder, in_order}
use Rattle.wq_words.proofs.Keepers.{held_bit, kept}
use Rattle.wq_words.proofs.Closed.{closed_shuts}
use Rattle.wq_words.proofs.Drains.{no_push_within_drain}
use Rattle.wq_words.proofs.Places.{keeper_from_keeps}
use Rattle.wq_words.proofs.Ranks.{filter_map_rank, ComesFrom, comes_from, length-filter_map-take, filter_map-take-prefix, slice_get-prefix, slice_get-take}
use Rattle.wq_words.proofs.Ranks.{slice_get-some}

counted : {X : Type 0} (p : X → Bool) (xs : List X) (i n : ℕ) (x : X) → slice_get xs i ≡ Some x → p x ≡ true → i < n → 0 < count_by p (take n xs)
counted p [] i n x at is lt = absurd cc
counted p (y ∷ xs) i zero x at is lt = absurd (omega arith)
counted p (y ∷ xs) zero (suc n) x at is lt =
    let same : p y ≡ true = cc in
    omega (arith, rw same at (sum_by-cons (λ z. cond (p z) 1 0) y (take n xs)))
counted p (y ∷ xs) (suc i) (suc n) x at is lt = omega (arith, sum_by-cons (λ z. cond (p z) 1 0) y (take n xs), counted p xs i n x at is (omega arith))

pub legal_take : (layout : Layout) (h : List Event) (n : ℕ) → IsLegal layout h → IsLegal layout (take n h)
legal_take layout h n legal = legal_front layout (take n h) (drop n h) (rw take-append-drop legal)

complete_in_order : (h : List Event) → RunsInOrder h → HasRunOut h → (ended h ≡ begun h) × (begun h ≡ accepted h)
complete_in_order h o done =
    let e = prefix_length (ended h) (begun h) o.ended_first in
    let b = prefix_length (begun h) (accepted h) o.begun_first in
    (prefix_whole (ended h) (begun h) o.ended_first (omega arith), prefix_whole (begun h) (accepted h) o.begun_first (omega arith))

-- only a Begin begins, and only an End ends
begin_from_begun_by : (e : Event) (k : ℕ) → begun_by e ≡ Some k → e ≡ Begin k
begin_from_begun_by (Begin j) k is = cc
begin_from_begun_by _ k is = absurd cc

end_from_ended_by : (e : Event) (k : ℕ) → ended_by e ≡ Some k → e ≡ End k
end_from_ended_by (End j) k is = cc
end_from_ended_by _ k is = absurd cc

hold_from_starts_hold : (s k : ℕ) (e : Event) → starts_hold s k e ≡ true → e ≡ Hold s k
hold_from_starts_hold s k (Hold t j) is = let same = and_parts (j == k) (t == s) is in cc (eqb-true j k same.0, eqb-true t s same.1)
hold_from_starts_hold s k _ is = absurd cc

-- who holds a number at the end of a history has held it since a Hold of its own
abbrev HasHold : ℕ → ℕ → List Event → Type 0
HasHold s k h = Holds h s k → (hold : ℕ) × IsOwnHold h s k hold (length h)

has_hold_new : (h : List Event) (s k : ℕ) → ¬ IsPending h k → Holds (h ++ Hold s k ∷ []) s k
    → (hold : ℕ) × IsOwnHold (h ++ Hold s k ∷ []) s k hold (length (h ++ Hold s k ∷ []))
has_hold_new h s k idle holds = (
  length h,
  record {
    earlier = omega (arith, length_push h (Hold s k));
    by_sender = slice_get_last h (Hold s k) [];
    found_idle = rw take_length idle;
    held_since = λ moment lt le.
        let all : take moment (h ++ Hold s k ∷ []) ≡ h ++ Hold s k ∷ [] = take_all moment (h ++ Hold s k ∷ []) (omega (arith, length_push h (Hold s k))) in
        rw all holds;
    its_own = λ between lt less at. absurd (omega (arith, length_push h (Hold s k)));
  },
)

has_hold_old : (h : List Event) (e : Event) (s k : ℕ) → e ≢ Push s k → Holds (h ++ e ∷ []) s k → (hold : ℕ) × IsOwnHold h s k hold (length h)
    → (hold : ℕ) × IsOwnHold (h ++ e ∷ []) s k hold (length (h ++ e ∷ []))
has_hold_old h e s k other holds (hold, o) = (
  hold,
  record {
    earlier = omega (arith, o.earlier, length_push h e);
    by_sender = slice_get_append h (e ∷ []) hold (Hold s k) o.by_sender;
    found_idle = rw (take_append h (e ∷ []) hold (Hold s k) o.by_sender) o.found_idle;
    held_since = λ moment lt le.
        elim (cases_lt (length h) moment) [
          | inl past ↦ let all : take moment (h ++ e ∷ []) ≡ h ++ e ∷ [] = take_all moment (h ++ e ∷ []) (omega (arith, length_push h e)) in rw all holds
          | inr within ↦
              let same : take moment (h ++ e ∷ []) ≡ take moment h = take-append-le moment h (e ∷ []) within in rw same (o.held_since moment lt within)
        ];
    its_own = λ between lt less at.
        elim (slice_get_push h e (Push s k) between at) [
          | inl old ↦ o.its_own between lt (slice_get_within h between (Push s k) old) old
          | inr new ↦ other new.1
        ];
  },
)

has_hold_push : (layout : Layout) (s k : ℕ) (h : List Event) (e : Event) → IsLegal layout h → IsAllowed layout h e → HasHold s k h → HasHold s k (h ++ e ∷ [])
has_hold_push layout s k h e legal allowed before holds = by (starts_hold s k e) refl
  where
    one : held_bit s (keeper h k) ≤ 1
    one = bit (keeper h k)
      where
        bit : (x : Keeper) → held_bit s x ≤ 1
        bit (Sender t) = grind (arith, nat_tests)
        bit _ = omega arith

    by : (b : Bool) → starts_hold s k e ≡ b → (hold : ℕ) × IsOwnHold (h ++ e ∷ []) s k hold (length (h ++ e ∷ []))
    by true is =
        let same : e ≡ Hold s k = hold_from_starts_hold s k e is in
        let idle : ¬ IsPending h k = (rw same at allowed).2 in
        let holds' : Holds (h ++ Hold s k ∷ []) s k = rw same at holds in
        rw same (has_hold_new h s k idle holds')
    by false is =
        let starts = rw is at (count_by_push (starts_hold s k) h e) in
        let stops = count_by_push (stops_hold s k) h e in
        let held : Holds h s k = omega (arith, starts, stops, holds) in
        let other : e ≢ Push s k = λ same.
        let stop : stops_hold s k e ≡ true = rw (same, eq-eqb k k refl, eq-eqb s s refl) refl in
        let stops' = rw stop at stops in
        omega (arith, starts, stops', holds, (kept layout h legal s k).0, one) in
        has_hold_old h e s k other holds (before held)

has_hold : (layout : Layout) (h : List Event) → IsLegal layout h → (s k : ℕ) → HasHold s k h
has_hold layout h legal s k =
    legal_induction layout (HasHold s k) (λ none. absurd (omega (arith, none))) (λ h e before allowed o. has_hold_push layout s k h e before allowed o) h legal

pub push_of_held : (layout : Layout) (h : List Event) → IsLegal layout h → EachPushHasHold h
push_of_held layout h legal push s k at = whole (has_hold layout (take push h) (legal_take layout h push legal) s k (legal push (Push s k) at).2.0)
  where
    within : push < length h
    within = slice_get_within h push (Push s k) at

    size : length (take push h) ≡ push
    size = omega (arith, length-take push h, within)

    whole : (hold : ℕ) × IsOwnHold (take push h) s k hold (length (take push h)) → (hold : ℕ) × IsOwnHold h s k hold push
    whole (hold, o) =
        let lt : hold < push = omega (arith, o.earlier, size) in (
          hold,
          record {
            earlier = lt;
            by_sender = sym (slice_get-take h push hold lt) ∙ o.by_sender;
            found_idle = rw (take-take hold push h (omega arith)) at o.found_idle;
            held_since = λ moment less le. rw (take-take moment push h le) at (o.held_since moment less (omega (arith, size)));
            its_own = λ between less before is. o.its_own between less (omega (arith, size)) (slice_get-take h push between before ∙ is);
          },
        )

-- a place of a beginning of a history is one of the history
at_take : (h : List Event) (n i : ℕ) (e : Event) → slice_get (take n h) i ≡ Some e → (i < n) × (slice_get h i ≡ Some e)
at_take h n i e at =
    let lt : i < n = omega (arith, slice_get_within (take n h) i e at, length-take n h) in
    (lt, sym (slice_get-take h n i lt) ∙ at)

-- of a beginning of a list, both have the same at a place within the beginning
same_at : (xs ys : List ℕ) (i j k : ℕ) → IsPrefix xs ys → slice_get xs i ≡ Some j → slice_get ys i ≡ Some k → j ≡ k
same_at xs ys i j k p a b = cc (slice_get-prefix xs ys i j p a, b)

module _ (layout : Layout) (h : List Event) (legal : IsLegal layout h) where
  order_at : (n : ℕ) → RunsInOrder (take n h)
  order_at n = in_order layout (take n h) (legal_take layout h n legal)

  -- the Begin at a place makes one more begun
  begun_more : (i k : ℕ) → slice_get h i ≡ Some (Begin k) → length (begun (take (i + 1) h)) ≡ length (begun (take i h)) + 1
  begun_more i k at =
      let more : take (i + 1) h ≡ take i h ++ Begin k ∷ [] = take_more_some h i (Begin k) at in
      ap (λ l. length (begun l)) more ∙ ap length (filter_map_push_some begun_by (take i h) (Begin k) k refl) ∙ length_push (begun (take i h)) k

  ended_more : (i k : ℕ) → slice_get h i ≡ Some (End k) → length (ended (take (i + 1) h)) ≡ length (ended (take i h)) + 1
  ended_more i k at =
      let more : take (i + 1) h ≡ take i h ++ End k ∷ [] = take_more_some h i (End k) at in
      ap (λ l. length (ended l)) more ∙ ap length (filter_map_push_some ended_by (take i h) (End k) k refl) ∙ length_push (ended (take i h)) k

  pub never_overlaps : NeverOverlaps h
  never_overlaps first second j k lt at there = found (comes_from ended_by (take second h) (length (begun (take first h))) some.0 some.1)
    where
      rested_first : length (ended (take first h)) ≡ length (begun (take first h))
      rested_first = omega (arith, (legal first (Begin j) at).2.0, prefix_length (ended (take first h)) (begun (take first h)) (order_at first).ended_first)

      some : (y : ℕ) × (slice_get (ended (take second h)) (length (begun (take first h))) ≡ Some y)
      some =
          slice_get-some (ended (take second h)) (length (begun (take first h)))
          (omega (arith, (legal second (Begin k) there).2.0, begun_more first j at, length-filter_map-take begun_by h (first + 1) second (omega arith)))

      began : slice_get (begun (take second h)) (length (begun (take first h))) ≡ Some j
      began =
          let here : slice_get (take second h) first ≡ Some (Begin j) = slice_get-take h second first lt ∙ at in
          rw (take-take first second h (omega arith)) at (filter_map_rank begun_by (take second h) first (Begin j) j here refl)

      found : ComesFrom ended_by (take second h) (length (begun (take first h))) some.0
          → (end : ℕ) × (first < end) × (end < second) × (slice_get h end ≡ Some (End j))
      found f =
          let number : some.0 ≡ j =
          same_at (ended (take second h)) (begun (take second h)) (length (begun (take first h))) some.0 j (order_at second).ended_first some.1 began in
          let is : slice_get h f.0 ≡ Some (End j) =
          (at_take h second f.0 f.1 f.2).1 ∙ ap Some (end_from_ended_by f.1 some.0 f.3) ∙ ap (λ i. Some (End i)) number in
          let before : f.0 < second = (at_take h second f.0 f.1 f.2).0 in
          let rank : length (ended (take f.0 h)) ≡ length (begun (take first h)) = rw (take-take f.0 second h (omega arith)) at f.4 in
          let after : first ≤ f.0 = elim (cases_lt f.0 first) [
            | inl less ↦ absurd (omega (arith, ended_more f.0 j is, rank, rested_first, length-filter_map-take ended_by h (f.0 + 1) first (omega arith)))
            | inr ge ↦ ge
          ] in
          elim (cases_lt first f.0) [
            | inl less ↦ (f.0, less, before, is)
            | inr ge ↦ let e : f.0 ≡ first = omega arith in absurd (cc (e, is, at))
          ]

  accepted_more : (i s k : ℕ) → slice_get h i ≡ Some (Push s k) → length (accepted (take (i + 1) h)) ≡ length (accepted (take i h)) + 1
  accepted_more i s k at =
      let more : take (i + 1) h ≡ take i h ++ Push s k ∷ [] = take_more_some h i (Push s k) at in
      ap (λ l. length (accepted l)) more ∙ ap length (filter_map_push_some accepted_by (take i h) (Push s k) k refl) ∙ length_push (accepted (take i h)) k

  pub keeps_sender_order : KeepsSenderOrder h
  keeps_sender_order s j k i first second begin lt at there begins executes =
      found (comes_from begun_by (take begin h) (length (accepted (take first h))) some.0 some.1)
    where
      some : (y : ℕ) × (slice_get (begun (take begin h)) (length (accepted (take first h))) ≡ Some y)
      some =
          slice_get-some (begun (take begin h)) (length (accepted (take first h)))
          (omega (arith, executes, accepted_more first s j at, length-filter_map-take accepted_by h (first + 1) second (omega arith)))

      pushed : slice_get (accepted h) (length (accepted (take first h))) ≡ Some j
      pushed = filter_map_rank accepted_by h first (Push s j) j at refl

      number : some.0 ≡ j
      number =
          let within =
          slice_get-prefix (begun (take begin h)) (accepted (take begin h)) (length (accepted (take first h))) some.0 (order_at begin).begun_first some.1 in
          same_at (accepted (take begin h)) (accepted h) (length (accepted (take first h))) some.0 j (filter_map-take-prefix accepted_by h begin) within pushed

      found : ComesFrom begun_by (take begin h) (length (accepted (take first h))) some.0
          → (before : ℕ) × (before < begin) × (slice_get h before ≡ Some (Begin j)) × Executes h before first
      found f =
          let is : slice_get h f.0 ≡ Some (Begin j) =
          (at_take h begin f.0 f.1 f.2).1 ∙ ap Some (begin_from_begun_by f.1 some.0 f.3) ∙ ap (λ i. Some (Begin i)) number in
          let before : f.0 < begin = (at_take h begin f.0 f.1 f.2).0 in
          (f.0, before, is, rw (take-take f.0 begin h (omega arith)) at f.4)

  pub no_push_follows_close : NoPushFollowsClose h
  no_push_follows_close place close s k push closes =
      elim (cases_lt place close) [
        | inl lt ↦ lt
        | inr le ↦ elim (cases_lt close place) [
          | inl lt ↦ absurd ((legal place (Push s k) push).2.1 (closed_shuts (take place h) (counted is_close h close place Close closes refl lt)))
          | inr ge ↦ let e : place ≡ close = omega arith in absurd (cc (e, push, closes))
        ]
      ]

  pub has_one_holder : HasOneHolder h
  has_one_holder moment s t k a b =
      let one = keeper_from_keeps layout (take moment h) (legal_take layout h moment legal) k (Sender s) a in
      let two = keeper_from_keeps layout (take moment h) (legal_take layout h moment legal) k (Sender t) b in
      same one two
    where
      same : {x : Keeper} → x ≡ Sender s → x ≡ Sender t → s ≡ t
      same a b = cc

  pub keeps_headline : KeepsHeadline h
  keeps_headline = record {
    begun_in_order = (in_order layout h legal).begun_first;
    ended_in_order = (in_order layout h legal).ended_first;
    no_overlap = never_overlaps;
    sender_order = keeps_sender_order;
    no_push_after_close = no_push_follows_close;
    no_push_within_drain = no_push_within_drain h layout legal;
    push_of_held = push_of_held layout h legal;
    one_holder = has_one_holder;
    done = λ moment ended_all. complete_in_order (take moment h) (in_order layout (take moment h) (legal_take layout h moment legal)) ended_all;
    resumed = λ resume at. (let may = (legal resume Resume at).2 in (may.0.0, may.1));
  }
