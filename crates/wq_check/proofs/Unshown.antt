-- A trace of a legal history keeps to the three rules.
use Rattle.wq_check.proofs.Common.{◌≡◌, ℕ, ◌+◌, ◌<◌, ◌≤◌, List, [], ◌∷◌, ◌++◌, length, drop, take, slice_get, Some, None, refl, sym, ap, ◌∙◌, arith}
use Rattle.wq_check.proofs.Common.{inl, inr, length-append, append-nil, drop-drop, cases_lt, eq-eqb, slice_get_within, Layout, Event, accepted, begun}
use Rattle.wq_check.proofs.Common.{ended, running, IsLegal, Home, Sender, keeper, growing, slice_get_append, slice_get_last, take_length}
use Rattle.wq_check.proofs.Common.{in_order, queue_bit, Mark, Queue, Start, End, queued, started, returned, unseen, MayShow}
use Rattle.wq_check.proofs.Common.{surely_unbegun, times, times-append, unbegun}
use Rattle.std.proofs.lemmas.List.{take-append-drop}
use Rattle.wq_words.specs.declared.event.Event.TheVariants as event
use Rattle.wq_words.specs.History.{accepted_by, begun_by, ended_by}
use Rattle.wq_words.specs.Legal.{IsAllowed}
use Rattle.wq_words.proofs.Growing.{filter_map_push_some, filter_map_push_none, slice_get_push, take_append}
use Rattle.wq_words.proofs.Legal.{legal_front, legal_next}
use Rattle.wq_words.proofs.Order.{RunsInOrder, idle-same}
use Rattle.wq_words.proofs.Places.{keeper_from_keeps}
use Rattle.wq_check.specs.Trace.{queued_by, started_by, returned_by, FollowsRules}
use Rattle.wq_check.specs.Shows.{Shows, nothing, hides, queues, begins, starts, ends, ShowsLegalHistory}
use Rattle.wq_words.proofs.Times.{none_from_times}
use Rattle.wq_words.proofs.Waits.{waits_bit}
use Rattle.wq_check.proofs.Shown.{nil_end, one_of, zero_or}

-- histories in which numbers begin and end in their order, one at a time, and none is accepted while it waits
pub record TakesTurns (P : List Event → Type 0) : Type 0 where
  pub front : (h : List Event) (e : Event) → P (h ++ e ∷ []) → P h
  pub ordered : (h : List Event) → P h → RunsInOrder h
  pub accepts : (h : List Event) (e : Event) (k : ℕ) → P (h ++ e ∷ []) → accepted_by e ≡ Some k → times k (unbegun h) ≡ 0
  pub begins : (h : List Event) (k : ℕ) → P (h ++ event.Begin k ∷ []) → length (ended h) ≡ length (begun h)
  pub ends : (h : List Event) (k : ℕ) → P (h ++ event.End k ∷ []) → running h ≡ Some k

pub record Shown (t : List Mark) (h : List Event) : Type 0 where
  pub queued_is : accepted h ≡ queued t
  pub returned_is : ended h ≡ returned t
  pub early : List ℕ
  pub started_is : begun h ≡ started t ++ early
  pub few : length early ≤ 1
  pub idle : 0 < length early → length (started t) ≡ length (returned t)
  pub rules : FollowsRules t

rules_push : (t : List Mark) (m : Mark) → FollowsRules t → MayShow t m → FollowsRules (t ++ m ∷ [])
rules_push t m rules may place f at =
    elim (slice_get_push t m f place at) [
      | inl old ↦ rw (take_append t (m ∷ []) place f old) (rules place f old)
      | inr new ↦ rw (new.0, take_length t (m ∷ []), ← new.1) may
    ]

sizes : (t : List Mark) (h : List Event) (o : Shown t h) → length (begun h) ≡ length (started t) + length o.early
sizes t h o = ap length o.started_is ∙ length-append (started t) o.early

-- what is passed over holds none, so neither does what is behind more of it
pub fewer : (k n m : ℕ) (xs : List ℕ) → times k (drop n xs) ≡ 0 → times k (drop (n + m) xs) ≡ 0
fewer k n m xs none =
    let parts : times k (drop n xs) ≡ times k (take m (drop n xs)) + times k (drop m (drop n xs)) =
    ap (times k) (sym (take-append-drop m (drop n xs))) ∙ times-append k (take m (drop n xs)) (drop m (drop n xs)) in
    let behind : times k (drop m (drop n xs)) ≡ times k (drop (n + m) xs) = ap (times k) (drop-drop m n xs) in
    omega arith

module _ (t : List Mark) (h : List Event) (i : RunsInOrder h) (o : Shown t h) where
  may_queue : (k : ℕ) → times k (unbegun h) ≡ 0 → MayShow t (Queue k)
  may_queue k waits = none_from_times k (surely_unbegun t) not_unbegun
    where
      not_unbegun : times k (surely_unbegun t) ≡ 0
      not_unbegun =
          let none : times k (drop (length (begun h)) (queued t)) ≡ 0 = ap (λ xs. times k (drop (length (begun h)) xs)) (sym o.queued_is) ∙ waits in
          elim (cases_lt (length o.early) 1) [
            | inl less ↦
                let place : length (begun h) ≡ length (started t) = omega (arith, sizes t h o) in
                fewer k (length (started t)) (unseen t) (queued t) (ap (λ n. times k (drop n (queued t))) (sym place) ∙ none)
            | inr some ↦
                let one : unseen t ≡ 1 = rw (eq-eqb _ _ (o.idle (omega (arith, some)))) refl in
                let place : length (started t) + unseen t ≡ length (begun h) = omega (arith, sizes t h o, o.few, some, one) in
                ap (λ n. times k (drop n (queued t))) place ∙ none
          ]

  may_start : (k : ℕ) → running h ≡ Some k → length (begun h) ≡ length (started t) + 1 → MayShow t (Start k)
  may_start k runs more =
      let within : length (ended h) < length (begun h) = slice_get_within (begun h) (length (ended h)) k runs in
      let place : length (ended h) ≡ length (started t) = omega (arith, within, more, i.one_at_a_time) in
      let there : slice_get (accepted h) (length (ended h)) ≡ Some k =
      ap (λ xs. slice_get xs (length (ended h))) (sym i.begun_first.1) ∙ slice_get_append (begun h) i.begun_first.0 (length (ended h)) k runs in
      (sym place ∙ ap length o.returned_is, ap (slice_get (queued t)) (sym place) ∙ (ap (λ xs. slice_get xs (length (ended h))) (sym o.queued_is) ∙ there))

  may_end : (k : ℕ) → running h ≡ Some k → length (begun h) ≡ length (started t) → MayShow t (End k)
  may_end k runs same =
      let is : begun h ≡ started t = o.started_is ∙ nil_end (started t) o.early (omega (arith, sizes t h o)) in
      ap (λ xs. slice_get xs (length (returned t))) (sym is) ∙ (ap (λ xs. slice_get (begun h) (length xs)) (sym o.returned_is) ∙ runs)

-- what accepts a number neither begins nor ends one
accepts_alone : (e : Event) (k : ℕ) → accepted_by e ≡ Some k → (begun_by e ≡ None) × (ended_by e ≡ None)
accepts_alone (event.Begin j) k is = absurd cc
accepts_alone (event.End j) k is = absurd cc
accepts_alone _ k is = (refl, refl)

pub shown : (P : List Event → Type 0) → TakesTurns P → (t : List Mark) (h : List Event) → Shows t h → P h → Shown t h
shown P turns _ _ nothing has = record {
  queued_is = refl;
  returned_is = refl;
  early = [];
  started_is = refl;
  few = omega arith;
  idle = λ some. absurd (omega arith);
  rules = λ place m at. absurd cc;
}
shown P turns _ _ (hides t h e s hidden) has =
    let o = shown P turns t h s (turns.front h e has) in
    record {
      queued_is = filter_map_push_none accepted_by h e hidden.accepts ∙ (append-nil (accepted h) ∙ o.queued_is);
      returned_is = filter_map_push_none ended_by h e hidden.ends ∙ (append-nil (ended h) ∙ o.returned_is);
      early = o.early;
      started_is = filter_map_push_none begun_by h e hidden.begins ∙ (append-nil (begun h) ∙ o.started_is);
      few = o.few;
      idle = o.idle;
      rules = o.rules;
    }
shown P turns _ _ (queues t h e k s is) has =
    let before = turns.front h e has in
    let o = shown P turns t h s before in
    let alone = accepts_alone e k is in
    record {
      queued_is = filter_map_push_some accepted_by h e k is ∙ (ap (λ xs. xs ++ k ∷ []) o.queued_is ∙ sym (filter_map_push_some queued_by t (Queue k) k refl));
      returned_is = filter_map_push_none ended_by h e alone.1 ∙ (append-nil (ended h) ∙ (o.returned_is
          ∙ sym (filter_map_push_none returned_by t (Queue k) refl ∙ append-nil (returned t))));
      early = o.early;
      started_is = filter_map_push_none begun_by h e alone.0 ∙ (append-nil (begun h) ∙ (o.started_is
          ∙ ap (λ xs. xs ++ o.early) (sym (filter_map_push_none started_by t (Queue k) refl ∙ append-nil (started t)))));
      few = o.few;
      idle = λ some. simp growing (o.idle some);
      rules = rules_push t (Queue k) o.rules (may_queue t h (turns.ordered h before) o k (turns.accepts h e k has is));
    }
shown P turns _ _ (begins t h k s) has =
    let o = shown P turns t h s (turns.front h (event.Begin k) has) in
    let rests = turns.begins h k has in
    let none : length o.early ≡ 0 = zero_or (length o.early) (λ some. omega (arith, some, rests, o.idle some, sizes t h o, ap length o.returned_is)) in
    record {
      queued_is = simp growing o.queued_is;
      returned_is = simp growing o.returned_is;
      early = k ∷ [];
      started_is = simp growing (ap (λ xs. xs ++ k ∷ []) (o.started_is ∙ nil_end (started t) o.early none));
      few = omega arith;
      idle = λ some. omega (arith, rests, none, sizes t h o, ap length o.returned_is);
      rules = o.rules;
    }
shown P turns _ _ (starts t h k s runs more) has =
    let o = shown P turns t h s has in
    let i = turns.ordered h has in
    let one : length o.early ≡ 1 = omega (arith, sizes t h o, more) in
    let j = one_of o.early one in
    let is : begun h ≡ started t ++ j.0 ∷ [] = o.started_is ∙ ap (λ xs. started t ++ xs) j.1 in
    let within : length (ended h) < length (begun h) = slice_get_within (begun h) (length (ended h)) k runs in
    let place : length (ended h) ≡ length (started t) = omega (arith, within, more, i.one_at_a_time) in
    let here : slice_get (begun h) (length (ended h)) ≡ Some j.0 =
    ap (slice_get (begun h)) place ∙ (ap (λ xs. slice_get xs (length (started t))) is ∙ slice_get_last (started t) j.0 []) in
    let same : j.0 ≡ k = cc (here, runs) in
    record {
      queued_is = simp growing o.queued_is;
      returned_is = simp growing o.returned_is;
      early = [];
      started_is = simp growing (is ∙ ap (λ n. started t ++ n ∷ []) same);
      few = omega arith;
      idle = λ some. absurd (omega arith);
      rules = rules_push t (Start k) o.rules (may_start t h i o k runs more);
    }
shown P turns _ _ (ends t h k s same) has =
    let before = turns.front h (event.End k) has in
    let o = shown P turns t h s before in
    let none : length o.early ≡ 0 = omega (arith, sizes t h o, same) in
    record {
      queued_is = simp growing o.queued_is;
      returned_is = simp growing (ap (λ xs. xs ++ k ∷ []) o.returned_is);
      early = [];
      started_is = simp growing (o.started_is ∙ nil_end (started t) o.early none);
      few = omega arith;
      idle = λ some. absurd (omega arith);
      rules = rules_push t (End k) o.rules (may_end t h (turns.ordered h before) o k (turns.ends h k has) same);
    }

-- what is accepted does not wait yet
module _ (layout : Layout) (h : List Event) (legal : IsLegal layout h) where
  waits_not : (e : Event) (k : ℕ) → IsAllowed layout h e → accepted_by e ≡ Some k → queue_bit (keeper h k) ≡ 0
  waits_not (event.Push s j) k a is =
      let same : j ≡ k = cc is in
      let held : keeper h k ≡ Sender s = rw (← same) (keeper_from_keeps layout h legal j (Sender s) a.2.0) in
      ap queue_bit held
  waits_not (event.Chain j) k a is =
      let same : j ≡ k = cc is in
      let home : keeper h k ≡ Home = rw (← same) (keeper_from_keeps layout h legal j Home a.2.2) in
      ap queue_bit home
  waits_not _ k a is = absurd cc

  pub not_unbegun : (e : Event) (k : ℕ) → IsAllowed layout h e → accepted_by e ≡ Some k → times k (unbegun h) ≡ 0
  not_unbegun e k a is = waits_bit layout h legal k ∙ waits_not e k a is

legal_turns : (layout : Layout) → TakesTurns (IsLegal layout)
legal_turns layout = record {
  front = λ h e legal. legal_front layout h (e ∷ []) legal;
  ordered = in_order layout;
  accepts = λ h e k legal is. not_unbegun layout h (legal_front layout h (e ∷ []) legal) e k (legal_next layout h e [] legal) is;
  begins = λ h k legal. (idle-same layout h (legal_front layout h (event.Begin k ∷ []) legal)).0 (legal_next layout h (event.Begin k) [] legal).2.0;
  ends = λ h k legal. (legal_next layout h (event.End k) [] legal).2;
}

pub history_shown : (layout : Layout) (t : List Mark) (has : ShowsLegalHistory layout t) → Shown t has.0
history_shown layout t has = shown (IsLegal layout) (legal_turns layout) t has.0 has.2 has.1

pub history_rules : (layout : Layout) (t : List Mark) → ShowsLegalHistory layout t → FollowsRules t
history_rules layout t has = (history_shown layout t has).rules
