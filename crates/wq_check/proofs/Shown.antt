-- A trace that keeps to its rules shows a legal history.
use Rattle.wq_check.proofs.Common.{◌≡◌, ◌≢◌, ℕ, zero, suc, ◌+◌, ◌<◌, ◌≤◌, ◌==◌, Bool, true, false, cond, List, [], ◌∷◌, ◌++◌, length, drop, slice_get}
use Rattle.wq_check.proofs.Common.{Some, refl, sym, ap, ◌∙◌, arith, inl, inr, subst, length-append, append-nil, eq-eqb, ne_eqb, cases_eq, cases_lt}
use Rattle.wq_check.proofs.Common.{slice_get_within, Layout, Event, number_count, accepted, begun, ended, running, IsRunning, IsLegal, Keeper, Home}
use Rattle.wq_check.proofs.Common.{Sender, Listed, Owner, keeper, growing, count_by_push, slice_get_append, slice_get_last, take_length, in_order}
use Rattle.wq_check.proofs.Common.{queue_bit, kept, Mark, Queue, Start, End, queued, started, returned, unseen, MayShow, number_of, IsLegalTrace}
use Rattle.wq_check.proofs.Common.{surely_unbegun, times, times-cons}
use Rattle.std.proofs.Common.{append_assoc, count_by}
use Rattle.std.proofs.lemmas.Bool.{lt-ltb}
use Rattle.std.proofs.lemmas.List.Elements.{filter-append}
use Rattle.wq_words.specs.declared.event.Event.TheVariants as event
use Rattle.wq_words.specs.History.{next, shut, starts_hold, stops_hold, IsPending, Holds, IsShut}
use Rattle.wq_words.proofs.Legal.{legal_nil, legal_push}
use Rattle.wq_words.proofs.Closed.{shut_quiet, open_from_shut}
use Rattle.wq_words.proofs.Places.{keeps_from_keeper}
use Rattle.wq_words.proofs.Appended.{count_by-append}
use Rattle.wq_check.specs.Shows.{Shows, nothing, hides, queues, begins, starts, ends, ShowsLegalHistory, is_of_items, item_part, ShowsItemsOfLegalHistory}
use Rattle.wq_words.proofs.Waits.{waits_bit}
use Rattle.wq_words.proofs.Times.{times_from_none}

-- the history shows the trace, and at most one execution has begun whose start was not seen
pub record ShowsTrace (layout : Layout) (t : List Mark) (h : List Event) : Type 0 where
  pub shows : Shows t h
  pub legal : IsLegal layout h
  pub queued_is : accepted h ≡ queued t
  pub returned_is : ended h ≡ returned t
  pub early : List ℕ
  pub started_is : begun h ≡ started t ++ early
  pub few : length early ≤ 1
  pub idle : 0 < length early → length (started t) ≡ length (returned t)
  pub free : (s k : ℕ) → ¬ Holds h s k
  pub opens : shut h ≡ false
  pub items : item_part layout h ≡ h

module _ (layout : Layout) (h : List Event) (legal : IsLegal layout h) (k : ℕ) where
  by_keeper : (x : Keeper) → keeper h k ≡ x → ((s : ℕ) → ¬ Holds h s k) → queue_bit x ≡ 0 → ¬ IsPending h k
  by_keeper Home e free none = keeps_from_keeper layout h legal k Home e
  by_keeper (Sender s) e free none = absurd (free s (keeps_from_keeper layout h legal k (Sender s) e))
  by_keeper Listed e free none = absurd (omega arith)
  by_keeper Owner e free none = absurd (omega arith)

  pub idle_number : ((s : ℕ) → ¬ Holds h s k) → times k (drop (length (begun h)) (accepted h)) ≡ 0 → ¬ IsPending h k
  idle_number free none = by_keeper (keeper h k) refl free (sym (waits_bit layout h legal k) ∙ none)

  pub holds_once : Holds (h ++ event.Hold 0 k ∷ []) 0 k
  holds_once =
      let t = (kept layout h legal 0 k).0 in
      let same : (k == k) ≡ true = eq-eqb k k refl in
      let more : count_by (starts_hold 0 k) (h ++ event.Hold 0 k ∷ []) ≡ count_by (starts_hold 0 k) h + 1 =
      count_by_push (starts_hold 0 k) h (event.Hold 0 k) ∙ rw same refl in
      omega (arith, t, more, count_by_push (stops_hold 0 k) h (event.Hold 0 k))

free_hold : (h : List Event) (j : ℕ) → ((s k : ℕ) → ¬ Holds h s k) → (s k : ℕ) → ¬ Holds (h ++ event.Hold 0 j ∷ event.Push 0 j ∷ []) s k
free_hold h j free s k holds =
    let both = event.Hold 0 j ∷ event.Push 0 j ∷ [] in
    free s k (omega (arith, holds, count_by-append (starts_hold s k) h both, count_by-append (stops_hold s k) h both))

-- an event of an item comes to the part of items
part_push : (layout : Layout) (h : List Event) (e : Event) → is_of_items layout e ≡ true → item_part layout h ≡ h → item_part layout (h ++ e ∷ []) ≡ h ++ e ∷ []
part_push layout h e item only = filter-append (is_of_items layout) h (e ∷ []) ∙ rw item (ap (λ g. g ++ e ∷ []) only)

-- what stands first of what is left, and only there
only_first : (k n : ℕ) (xs : List ℕ) → 1 ≤ times k (drop n xs) → times k (drop (suc n) xs) ≡ 0 → slice_get xs n ≡ Some k
only_first k zero [] some none = absurd (omega arith)
only_first k zero (x ∷ xs) some none =
    elim (cases_eq x k) [
      | inl same ↦ ap Some same
      | inr ne ↦ let zero' : ◌≡◌ {A = ℕ} (cond (x == k) 1 0) 0 = ap (λ (b : Bool). cond b 1 0) (ne_eqb x k ne) in
          absurd (omega (arith, some, none, times-cons k x xs))
    ]
only_first k (suc n) [] some none = absurd (omega arith)
only_first k (suc n) (x ∷ xs) some none = only_first k n xs some none

pub nil_end : (xs ys : List ℕ) → length ys ≡ 0 → xs ++ ys ≡ xs
nil_end xs [] e = append-nil xs
nil_end xs (y ∷ ys) e = absurd (omega arith)

-- a list of one element
pub one_of : (xs : List ℕ) → length xs ≡ 1 → (x : ℕ) × (xs ≡ x ∷ [])
one_of [] e = absurd (omega arith)
one_of (x ∷ []) e = (x, refl)
one_of (x ∷ y ∷ xs) e = absurd (omega arith)

pub zero_or : (n : ℕ) → (0 < n → ⊥) → n ≡ 0
zero_or n never = omega (arith, never)

module _ (layout : Layout) (t : List Mark) (h : List Event) (o : ShowsTrace layout t h) where
  pub sizes : length (begun h) ≡ length (started t) + length o.early
  sizes = ap length o.started_is ∙ length-append (started t) o.early

  -- the next one begins, and its start was not seen
  pub unseen_begin : (k : ℕ) → k < layout.items → length (started t) ≡ length (returned t) → length o.early ≡ 0
      → slice_get (queued t) (length (started t)) ≡ Some k
      → (o' : ShowsTrace layout t (h ++ event.Begin k ∷ [])) × (length o'.early ≡ 1)
  unseen_begin k small rests none at =
      let rest : ¬ IsRunning h = λ runs. absurd (omega (arith, runs, sizes, ap length o.returned_is)) in
      let place : length (begun h) ≡ length (started t) = omega (arith, sizes) in
      let first : next h ≡ Some k = ap (slice_get (accepted h)) place ∙ (ap (λ xs. slice_get xs (length (started t))) o.queued_is ∙ at) in (
        record {
          shows = begins t h k o.shows;
          legal = legal_push layout h (event.Begin k) o.legal (tt, omega (arith, small), (rest, first));
          queued_is = simp growing o.queued_is;
          returned_is = simp growing o.returned_is;
          early = k ∷ [];
          started_is = simp growing (ap (λ xs. xs ++ k ∷ []) (o.started_is ∙ nil_end (started t) o.early none));
          few = omega arith;
          idle = λ _. rests;
          free = λ s j holds. o.free s j (omega (
            arith,
            holds,
            count_by_push (starts_hold s j) h (event.Begin k),
            count_by_push (stops_hold s j) h (event.Begin k),
          ));
          opens = shut_quiet h (event.Begin k) refl refl refl ∙ o.opens;
          items = part_push layout h (event.Begin k) (lt-ltb k layout.items small) o.items;
        },
        refl,
      )

  -- a number that does not wait is queued
  pub queue_more : (k : ℕ) → k < layout.items → times k (drop (length (begun h)) (accepted h)) ≡ 0
      → ShowsTrace layout (t ++ Queue k ∷ []) (h ++ event.Hold 0 k ∷ event.Push 0 k ∷ [])
  queue_more k small none =
      let seat : 0 < layout.senders = omega (arith, layout.in_limits.2.0) in
      let number : k < number_count layout = omega (arith, small) in
      let opens' : shut (h ++ event.Hold 0 k ∷ []) ≡ false = shut_quiet h (event.Hold 0 k) refl refl refl ∙ o.opens in
      let held = legal_push layout h (event.Hold 0 k) o.legal (seat, number, idle_number layout h o.legal k (λ s. o.free s k) none) in
      let open' : ¬ IsShut (h ++ event.Hold 0 k ∷ []) = open_from_shut (h ++ event.Hold 0 k ∷ []) opens' in
      let pushed = legal_push layout (h ++ event.Hold 0 k ∷ []) (event.Push 0 k) held (seat, number, (holds_once layout h o.legal k, open')) in
      record {
        shows = subst (Shows (t ++ Queue k ∷ [])) (append_assoc h (event.Hold 0 k ∷ []) (event.Push 0 k ∷ []))
            (queues t (h ++ event.Hold 0 k ∷ []) (event.Push 0 k) k
            (hides t h (event.Hold 0 k) o.shows (record { accepts = refl; begins = refl; ends = refl })) refl);
        legal = subst (IsLegal layout) (append_assoc h (event.Hold 0 k ∷ []) (event.Push 0 k ∷ [])) pushed;
        queued_is = simp growing (ap (λ xs. xs ++ k ∷ []) o.queued_is);
        returned_is = simp growing o.returned_is;
        early = o.early;
        started_is = simp growing o.started_is;
        few = o.few;
        idle = λ some. simp growing (o.idle some);
        free = free_hold h k o.free;
        opens = subst (λ g. shut g ≡ false) (append_assoc h (event.Hold 0 k ∷ []) (event.Push 0 k ∷ []))
            (shut_quiet (h ++ event.Hold 0 k ∷ []) (event.Push 0 k) refl refl refl ∙ opens');
        items = filter-append (is_of_items layout) h (event.Hold 0 k ∷ event.Push 0 k ∷ []) ∙ rw (lt-ltb k layout.items small)
            (ap (λ g. g ++ event.Hold 0 k ∷ event.Push 0 k ∷ []) o.items);
      }

  -- the start of an execution that had begun unseen
  pub start_seen : (k : ℕ) → length o.early ≡ 1 → slice_get (queued t) (length (started t)) ≡ Some k → ShowsTrace layout (t ++ Start k ∷ []) h
  start_seen k one at =
      let j = one_of o.early one in
      let is : begun h ≡ started t ++ j.0 ∷ [] = o.started_is ∙ ap (λ xs. started t ++ xs) j.1 in
      let here : slice_get (begun h) (length (started t)) ≡ Some j.0 =
      ap (λ xs. slice_get xs (length (started t))) is ∙ slice_get_last (started t) j.0 [] in
      let front = (in_order layout h o.legal).begun_first in
      let there : slice_get (accepted h) (length (started t)) ≡ Some j.0 =
      ap (λ xs. slice_get xs (length (started t))) (sym front.1) ∙ slice_get_append (begun h) front.0 (length (started t)) j.0 here in
      let same : j.0 ≡ k = cc (there, at, ap (λ xs. slice_get xs (length (started t))) o.queued_is) in
      let place : length (ended h) ≡ length (started t) = ap length o.returned_is ∙ sym (o.idle (omega (arith, one))) in
      let runs : running h ≡ Some k = ap (slice_get (begun h)) place ∙ (here ∙ ap Some same) in
      let all : begun h ≡ started t ++ k ∷ [] = is ∙ ap (λ i. started t ++ i ∷ []) same in
      record {
        shows = starts t h k o.shows runs (ap length all ∙ length-append (started t) (k ∷ []));
        legal = o.legal;
        queued_is = simp growing o.queued_is;
        returned_is = simp growing o.returned_is;
        early = [];
        started_is = simp growing all;
        few = omega arith;
        idle = λ some. absurd (omega arith);
        free = o.free;
        opens = o.opens;
        items = o.items;
      }

  pub end_seen : (k : ℕ) → k < layout.items → slice_get (started t) (length (returned t)) ≡ Some k → ShowsTrace layout (t ++ End k ∷ []) (h ++ event.End k ∷ [])
  end_seen k small at =
      let within : length (returned t) < length (started t) = slice_get_within (started t) (length (returned t)) k at in
      let none : length o.early ≡ 0 = none_early within in
      let is : begun h ≡ started t = o.started_is ∙ nil_end (started t) o.early none in
      let runs : running h ≡ Some k = ap (slice_get (begun h)) (ap length o.returned_is) ∙ (ap (λ xs. slice_get xs (length (returned t))) is ∙ at) in
      record {
        shows = ends t h k o.shows (ap length is);
        legal = legal_push layout h (event.End k) o.legal (tt, omega (arith, small), runs);
        queued_is = simp growing o.queued_is;
        returned_is = simp growing (ap (λ xs. xs ++ k ∷ []) o.returned_is);
        early = [];
        started_is = simp growing is;
        few = omega arith;
        idle = λ some. absurd (omega arith);
        free = λ s j holds. o.free s j (omega (arith, holds, count_by_push (starts_hold s j) h (event.End k), count_by_push (stops_hold s j) h (event.End k)));
        opens = shut_quiet h (event.End k) refl refl refl ∙ o.opens;
        items = part_push layout h (event.End k) (lt-ltb k layout.items small) o.items;
      }
    where
      none_early : length (returned t) < length (started t) → length o.early ≡ 0
      none_early within = zero_or (length o.early) (λ some. omega (arith, within, o.idle some))

-- how many executions may have begun unseen: one where as many have returned as were started, and else none
pub same_unseen : (t : List Mark) → length (started t) ≡ length (returned t) → unseen t ≡ 1
same_unseen t e = rw (eq-eqb _ _ e) refl

pub other_unseen : (t : List Mark) → length (started t) ≢ length (returned t) → unseen t ≡ 0
other_unseen t ne = rw (ne_eqb _ _ ne) refl

abbrev pub Next : Layout → List Mark → Type 0
Next layout t = (h : List Event) × ShowsTrace layout t h

module _ (layout : Layout) (t : List Mark) (h : List Event) (o : ShowsTrace layout t h) where
  start_more : (k : ℕ) → k < layout.items → MayShow t (Start k) → Next layout (t ++ Start k ∷ [])
  start_more k small may =
      elim (cases_lt (length o.early) 1) [
        | inl less ↦
            let more = unseen_begin layout t h o k small may.0 (omega arith) may.1 in
            (h ++ event.Begin k ∷ [], start_seen layout t (h ++ event.Begin k ∷ []) more.0 k more.1 may.1)
        | inr some ↦ (h, start_seen layout t h o k (omega (arith, some, o.few)) may.1)
      ]

  -- where as many are passed over as have begun, a number that may be queued does not wait
  waits_none : (k : ℕ) → MayShow t (Queue k) → length (begun h) ≡ length (started t) + unseen t → times k (drop (length (begun h)) (accepted h)) ≡ 0
  waits_none k may same =
      ap (λ n. times k (drop n (accepted h))) same ∙
      (ap (λ xs. times k (drop (length (started t) + unseen t) xs)) o.queued_is ∙ times_from_none k (surely_unbegun t) may)

  -- a number that seems to wait is the next one, and begins unseen
  queue_next : (k : ℕ) → k < layout.items → MayShow t (Queue k) → 1 ≤ times k (drop (length (begun h)) (accepted h)) → Next layout (t ++ Queue k ∷ [])
  queue_next k small may some =
      elim (cases_eq (length (started t)) (length (returned t))) [
        | inr ne ↦
            let none : length o.early ≡ 0 = zero_or (length o.early) (λ one. ne (o.idle one)) in
            absurd (omega (arith, some, waits_none k may (omega (arith, sizes layout t h o, none, other_unseen t ne))))
        | inl e ↦
            elim (cases_lt (length o.early) 1) [
              | inr one ↦ absurd (omega (arith, some, waits_none k may (omega (arith, sizes layout t h o, one, o.few, same_unseen t e))))
              | inl less ↦
                  let place : length (begun h) ≡ length (started t) = omega (arith, sizes layout t h o) in
                  let there : times k (drop (length (started t)) (queued t)) ≡ times k (drop (length (begun h)) (accepted h)) =
                  ap (λ n. times k (drop n (queued t))) (sym place) ∙ ap (λ xs. times k (drop (length (begun h)) xs)) (sym o.queued_is) in
                  let on : length (started t) + unseen t ≡ suc (length (started t)) = omega (arith, same_unseen t e) in
                  let behind : times k (drop (suc (length (started t))) (queued t)) ≡ 0 =
                  ap (λ n. times k (drop n (queued t))) (sym on) ∙ times_from_none k (surely_unbegun t) may in
                  let at = only_first k (length (started t)) (queued t) (omega (arith, some, there)) behind in
                  let more = unseen_begin layout t h o k small e (omega arith) at in
                  let begun' = h ++ event.Begin k ∷ [] in
                  let size : length (begun begun') ≡ suc (length (started t)) = omega (arith, sizes layout t begun' more.0, more.1) in
                  let none : times k (drop (length (begun begun')) (accepted begun')) ≡ 0 =
                  ap (λ n. times k (drop n (accepted begun'))) size ∙ (ap (λ xs. times k (drop (suc (length (started t))) xs)) more.0.queued_is ∙ behind) in
                  (begun' ++ event.Hold 0 k ∷ event.Push 0 k ∷ [], queue_more layout t begun' more.0 k small none)
            ]
      ]

  queue_on : (k : ℕ) → k < layout.items → MayShow t (Queue k) → Next layout (t ++ Queue k ∷ [])
  queue_on k small may =
      elim (cases_lt (times k (drop (length (begun h)) (accepted h))) 1) [
        | inl none ↦ (h ++ event.Hold 0 k ∷ event.Push 0 k ∷ [], queue_more layout t h o k small (omega arith))
        | inr some ↦ queue_next k small may some
      ]

  pub mark_more : (m : Mark) → number_of m < layout.items → MayShow t m → Next layout (t ++ m ∷ [])
  mark_more (Queue k) small may = queue_on k small may
  mark_more (Start k) small may = start_more k small may
  mark_more (End k) small may = (h ++ event.End k ∷ [], end_seen layout t h o k small may)

opening : (layout : Layout) → ShowsTrace layout [] []
opening layout = record {
  shows = nothing;
  legal = legal_nil layout;
  queued_is = refl;
  returned_is = refl;
  early = [];
  started_is = refl;
  few = omega arith;
  idle = λ some. absurd (omega arith);
  free = λ s k holds. absurd (omega (arith, holds));
  opens = refl;
  items = refl;
}

go : (layout : Layout) (seen rest : List Mark) → Next layout seen → IsLegalTrace layout (seen ++ rest) → Next layout (seen ++ rest)
go layout seen [] n legal = subst (Next layout) (sym (append-nil seen)) n
go layout seen (m ∷ rest) n legal =
    let here = rw (take_length seen (m ∷ rest)) at (legal (length seen) m (slice_get_last seen m rest)) in
    let legal' : IsLegalTrace layout ((seen ++ m ∷ []) ++ rest) = subst (IsLegalTrace layout) (sym (append_assoc seen (m ∷ []) rest)) legal in
    subst (Next layout) (append_assoc seen (m ∷ []) rest) (go layout (seen ++ m ∷ []) rest (mark_more layout seen n.0 n.1 m here.0 here.1) legal')

module _ (layout : Layout) (t : List Mark) (legal : IsLegalTrace layout t) where
  told : Next layout t
  told = go layout [] t ([], opening layout) legal

  pub trace_history : ShowsLegalHistory layout t
  trace_history = (told.0, told.1.legal, told.1.shows)

  pub trace_items : ShowsItemsOfLegalHistory layout t
  trace_items = (told.0, told.1.legal, subst (Shows t) (sym told.1.items) told.1.shows)
