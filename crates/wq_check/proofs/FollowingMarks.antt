-- How a queue looks once a mark was shown.
use Rattle.wq_check.proofs.Common.{◌≡◌, ℕ, ◌+◌, ◌-◌, ◌<◌, ◌≤◌, ◌==◌, Bool, cond, List, [], ◌∷◌, ◌++◌, length, drop, replicate, get_or, slice_get}
use Rattle.wq_check.proofs.Common.{Some, None, refl, sym, ap, ◌∙◌, arith, inl, inr, length-append, drop-drop, slice_get_past, eq-eqb, ne_eqb}
use Rattle.wq_check.proofs.Common.{cases_eq, Layout, number_count, growing, slice_get_last, take_length, Mark, Queue, Start, End, queued, started}
use Rattle.wq_check.proofs.Common.{returned, MayShow, number_of, IsLegalTrace, times, times-append, times-cons, all_alike}
use Rattle.std.proofs.Common.{set}
use Rattle.std.proofs.Common.{length-set}
use Rattle.std.proofs.lemmas.List.{length-replicate, get_or-set_other, get_or-set_same, drop-append-le}
use Rattle.std.proofs.lemmas.List.Sums.{count_by-le-length}
use Rattle.circular_buffer.specs.Buffer.{keep_last}
use Rattle.wq_words.proofs.Growing.{slice_get_push, take_append}
use Rattle.wq_check.specs.Trace.{next_start}
use Rattle.wq_check.specs.TraceChecked.{SeenState, seen_state, LooksAfter}
use Rattle.wq_check.proofs.Looking.{lengths, next_is}

-- the queue once the mark was shown
abbrev pub after_mark : SeenState → Mark → SeenState
after_mark c (Queue k) = record c { times = set c.times k (get_or c.times k 0 + 1); waiting = c.waiting ++ k ∷ [] }
after_mark c (Start k) = record c { times = set c.times k (get_or c.times k 0 - 1); waiting = drop 1 c.waiting; running = Some k }
after_mark c (End k) = record c { running = None }

trace_push : (layout : Layout) (t : List Mark) (m : Mark) → IsLegalTrace layout t → (number_of m < layout.items) × MayShow t m
    → IsLegalTrace layout (t ++ m ∷ [])
trace_push layout t m legal may place f at =
    elim (slice_get_push t m f place at) [
      | inl old ↦ rw (take_append t (m ∷ []) place f old) (legal place f old)
      | inr new ↦ rw (new.0, take_length t (m ∷ []), ← new.1) may
    ]

module _ (c : SeenState) (t : List Mark) (o : LooksAfter c t) where
  -- how often each stands, once the number k is put behind or the first goes
  stood : (k : ℕ) → k < c.layout.items → (j : ℕ) → j < c.layout.items → get_or (set c.times k (get_or c.times k 0 + 1)) j 0 ≡ times j (c.waiting ++ k ∷ [])
  stood k lt j small =
      let all : times j (c.waiting ++ k ∷ []) ≡ times j c.waiting + cond (k == j) 1 0 = omega (arith, times-append j c.waiting (k ∷ []), times-cons j k []) in
      elim (cases_eq j k) [
        | inl same ↦
            let one : ◌≡◌ {A = ℕ} (cond (k == j) 1 0) 1 = ap (λ (b : Bool). cond b 1 0) (eq-eqb k j (sym same)) in
            let here : get_or (set c.times k (get_or c.times k 0 + 1)) j 0 ≡ get_or c.times k 0 + 1 =
            ap (λ i. get_or (set c.times k (get_or c.times k 0 + 1)) i 0) same ∙ get_or-set_same c.times k _ 0 (omega (arith, o.has_times)) in
            omega (arith, here, all, one, o.times_are k lt, ap (λ i. times i c.waiting) same)
        | inr ne ↦
            let none : ◌≡◌ {A = ℕ} (cond (k == j) 1 0) 0 = ap (λ (b : Bool). cond b 1 0) (ne_eqb k j (λ e. ne (sym e))) in
            omega (arith, get_or-set_other c.times k j (get_or c.times k 0 + 1) 0 ne, all, none, o.times_are j small)
      ]

  first_counts : (w : List ℕ) (k j : ℕ) → slice_get w 0 ≡ Some k → times j w ≡ cond (k == j) 1 0 + times j (drop 1 w)
  first_counts [] k j at = absurd cc
  first_counts (x ∷ w) k j at = let same : x ≡ k = cc (at) in rw (← same) (times-cons j x w)

  went : (k : ℕ) → k < c.layout.items → slice_get c.waiting 0 ≡ Some k
      → (j : ℕ) → j < c.layout.items → get_or (set c.times k (get_or c.times k 0 - 1)) j 0 ≡ times j (drop 1 c.waiting)
  went k lt at j small =
      let all = first_counts c.waiting k j at in
      elim (cases_eq j k) [
        | inl same ↦
            let one : ◌≡◌ {A = ℕ} (cond (k == j) 1 0) 1 = ap (λ (b : Bool). cond b 1 0) (eq-eqb k j (sym same)) in
            let here : get_or (set c.times k (get_or c.times k 0 - 1)) j 0 ≡ get_or c.times k 0 - 1 =
            ap (λ i. get_or (set c.times k (get_or c.times k 0 - 1)) i 0) same ∙ get_or-set_same c.times k _ 0 (omega (arith, o.has_times)) in
            omega (arith, here, all, one, o.times_are k lt, ap (λ i. times i c.waiting) same)
        | inr ne ↦
            let none : ◌≡◌ {A = ℕ} (cond (k == j) 1 0) 0 = ap (λ (b : Bool). cond b 1 0) (ne_eqb k j (λ e. ne (sym e))) in
            omega (arith, get_or-set_other c.times k j (get_or c.times k 0 - 1) 0 ne, all, none, o.times_are j small)
      ]

  pub stands_first : (k : ℕ) → k < c.layout.items → next_start t ≡ Some k → 1 ≤ get_or c.times k 0
  stands_first k lt is =
      let at : slice_get c.waiting 0 ≡ Some k = next_is c t o ∙ is in
      let one : ◌≡◌ {A = ℕ} (cond (k == k) 1 0) 1 = ap (λ (b : Bool). cond b 1 0) (eq-eqb k k refl) in
      omega (arith, first_counts c.waiting k k at, one, o.times_are k lt)

  pub mark_kept : (m : Mark) → (number_of m < c.layout.items) × MayShow t m → LooksAfter (after_mark c m) (t ++ m ∷ [])
  mark_kept (Queue k) may = record {
    legal = trace_push c.layout t (Queue k) o.legal may;
    has_times = length-set c.times k _ ∙ o.has_times;
    times_are = stood k may.0;
    waiting_is = simp growing (ap (λ w. w ++ k ∷ []) o.waiting_is ∙ sym (drop-append-le (length (started t)) (queued t) (k ∷ []) (lengths c t o).known));
    running_is = simp growing o.running_is;
  }
  mark_kept (Start k) may =
      let rests = may.1.0 in
      record {
        legal = trace_push c.layout t (Start k) o.legal may;
        has_times = length-set c.times k _ ∙ o.has_times;
        times_are = went k may.0 (next_is c t o ∙ may.1.1);
        waiting_is = simp growing (ap (drop 1) o.waiting_is ∙ (drop-drop 1 (length (started t)) (queued t)
            ∙ ap (λ n. drop n (queued t)) (sym (length-append (started t) (k ∷ [])))));
        running_is = simp growing (sym (ap (slice_get (started t ++ k ∷ [])) (sym rests) ∙ slice_get_last (started t) k []));
      }
  mark_kept (End k) may = record {
    legal = trace_push c.layout t (End k) o.legal may;
    has_times = o.has_times;
    times_are = o.times_are;
    waiting_is = simp growing o.waiting_is;
    running_is = simp growing (sym (slice_get_past (started t) (length (returned t ++ k ∷ []))
        (omega (arith, length-append (returned t) (k ∷ []), (lengths c t o).one))));
  }

  pub room_left : length c.waiting ≤ number_count c.layout + 1
  room_left = omega (arith, ap length o.waiting_is, (lengths c t o).room)

  -- an item waits no more often than there is room
  pub times_small : (k : ℕ) → k < c.layout.items → get_or c.times k 0 ≤ number_count c.layout + 1
  times_small k lt = omega (arith, o.times_are k lt, count_by-le-length (λ j. j == k) c.waiting, room_left)

-- each mark that may be shown is followed
module _ (c : SeenState) (n : ℕ) (t : List Mark) (o : LooksAfter c t) (m : Mark) (size : n ≡ number_count c.layout + 1)
    (may : (number_of m < c.layout.items) × MayShow t m) where
  pub mark_on : (after_mark c m).layout ≡ c.layout → (n ≡ number_count (after_mark c m).layout + 1) × ((u : List Mark) × LooksAfter (after_mark c m) u)
  mark_on same = (size ∙ ap (λ l. number_count l + 1) (sym same), (t ++ m ∷ [], mark_kept c t o m may))

  pub finds_place : (j : ℕ) → (after_mark c m).waiting ≡ c.waiting ++ j ∷ [] → (after_mark c m).layout ≡ c.layout
      → keep_last n (c.waiting ++ j ∷ []) ≡ c.waiting ++ j ∷ []
  finds_place j grows same =
      let fits = room_left (after_mark c m) (t ++ m ∷ []) (mark_kept c t o m may) in
      let none : length (c.waiting ++ j ∷ []) - n ≡ 0 = omega (arith, fits, size, ap length grows, ap number_count same) in
      ap (λ i. drop i (c.waiting ++ j ∷ [])) none

pub looks_opening : (layout : Layout) → LooksAfter (seen_state layout (replicate layout.items 0) [] None) []
looks_opening layout = record {
  legal = λ place m at. absurd cc;
  has_times = length-replicate _ _;
  times_are = λ k lt. all_alike layout.items k 0;
  waiting_is = refl;
  running_is = refl;
}
