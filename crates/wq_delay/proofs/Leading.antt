-- A timetable that is led on: from what stood in the row to what stands there once the slots were looked at.
use Rattle.std.proofs.lemmas.List.{take-append-le}
use Rattle.std.proofs.lemmas.List.Elements.{All-append}
use Rattle.std.proofs.lemmas.List.Sorted.{All-permutation, IsPermutation-append_right}
use Rattle.wq_delay.proofs.Common.{◌≡◌, ℕ, ◌+◌, ◌*◌, ◌<◌, ◌≤◌, Bool, true, false, cond, ◌&&◌}
use Rattle.wq_delay.proofs.Common.{◌||◌, List, [], ◌∷◌, ◌++◌, map, length, take, is_some, nat_le, ◌==◌}
use Rattle.wq_delay.proofs.Common.{Some, None, All, filter, Option, IsPermutation, sym, refl}
use Rattle.wq_delay.proofs.Common.{ap, ◌∙◌, subst, arith, eqb-true, nat_tests, map-append, filter-append}
use Rattle.wq_delay.proofs.Common.{All-head, All-tail, All-filter, All-nil, All-cons, All-map, All-weaker, Entry, due_part, IsOrdered, on_table, DuePlace, DueItem}
use Rattle.wq_delay.proofs.Common.{place_in, later_than, IsWheel, AreOnTable, entry_of, times, place_at, SaysPlace, entries_of, stands, is_due, IsTimetable}
use Rattle.wq_delay.proofs.Common.{waiting, is_place, IsGathering, remaining, PutsBehind, AreSorted}
use Rattle.wq_delay.proofs.Table.{place_some}
use Rattle.wq_delay.proofs.Spelled.{entries_rows}
use Rattle.wq_delay.proofs.Standing.{later_same}
use Rattle.wq_delay.proofs.Looking.{times_off}
use Rattle.wq_delay.proofs.Gathered.{on_table_permuted, same_on_table, due_only, ordered_due, place_due, ordered_is_due, sorted_ordered, no_times}
use Rattle.wq_delay.proofs.Gathered.{times_first, no_more_times, times_append, ordered_joined}

stands_place : (p : DuePlace) (o : Option DuePlace) → is_place p o ≡ true → o ≡ Some p
stands_place p None is = absurd (cc)
stands_place p (Some q) is = by (q.due == p.due) (q.arming == p.arming) refl refl is
  where
    by : (b c : Bool) → (q.due == p.due) ≡ b → (q.arming == p.arming) ≡ c → (b && c) ≡ true → Some q ≡ Some p
    by true true u v both = λ i. Some (place_at (eqb-true q.due p.due u i) (eqb-true q.arming p.arming v i))
    by true false u v both = absurd (cc)
    by false c u v both = absurd (cc)

pub place_stands : (p : DuePlace) (o : Option DuePlace) → o ≡ Some p → is_place p o ≡ true
place_stands p o is =
    let a : (p.due == p.due) ≡ true = grind (arith, nat_tests) in let b : (p.arming == p.arming) ≡ true = grind (arith, nat_tests) in
    ap (is_place p) is ∙ rw (a, b) refl

pub kept_valid : (places : List (Option DuePlace)) (xs : List DueItem)
    → All (SaysPlace places) (map entry_of (filter (stands places) xs))
kept_valid places [] = All-nil (SaysPlace places)
kept_valid places (x ∷ xs) = by (stands places x) refl (kept_valid places xs)
  where
    by : (b : Bool) → stands places x ≡ b → All (SaysPlace places) (map entry_of (filter (stands places) xs))
        → All (SaysPlace places) (map entry_of (cond b (x ∷ filter (stands places) xs) (filter (stands places) xs)))
    by true is rest =
        All-cons (SaysPlace places) (entry_of x) (map entry_of (filter (stands places) xs))
        (stands_place x.place (place_in places x.item) is) rest
    by false is rest = rest

all_unmap : (P : Entry → Type 0) (xs : List DueItem) → All P (map entry_of xs) → All (λ x. P (entry_of x)) xs
all_unmap P [] all = All-nil (λ x. P (entry_of x))
all_unmap P (x ∷ xs) all =
    All-cons (λ x. P (entry_of x)) x xs (All-head P (entry_of x) (map entry_of xs) all) (all_unmap P xs (All-tail P (entry_of x) (map entry_of xs) all))

all_back : (P : Entry → Type 0) (xs ys : List Entry) → All P (xs ++ ys) → All P ys
all_back P [] ys all = all
all_back P (x ∷ xs) ys all = all_back P xs ys (All-tail P x (xs ++ ys) all)

pub filter_all : {X : Type 0} (p : X → Bool) (xs : List X) → All (λ x. p x ≡ true) xs → filter p xs ≡ xs
filter_all p [] all = refl
filter_all {X} p (x ∷ xs) all =
    ap (λ (z : Bool). cond z (x ∷ filter p xs) (filter p xs)) (All-head (λ y. p y ≡ true) x xs all)
    ∙ ap (λ (z : List X). x ∷ z) (filter_all p xs (All-tail (λ y. p y ≡ true) x xs all))

pub ordered_single : (k : ℕ) (es : List Entry) → IsOrdered es → times k es ≤ 1
ordered_single k [] ordered = omega arith
ordered_single k (e ∷ es) ordered = by (k == e.item) refl (ordered_single k es ordered.2)
  where
    by : (b : Bool) → (k == e.item) ≡ b → times k es ≤ 1 → cond b 1 0 + times k es ≤ 1
    by true is rest =
        let n = times_off k es (subst (λ (z : ℕ). on_table z es ≡ false) (sym (eqb-true k e.item is)) ordered.1) in omega arith
    by false is rest = omega arith

some_due : (t : ℕ) (o : Option DuePlace) → is_some (due_only t o) ≡ is_due t o
some_due t None = refl
some_due t (Some p) = by (nat_le p.due t)
  where
    by : (b : Bool) → is_some (cond b (Some p) None) ≡ b
    by true = refl
    by false = refl

waits_later : (t : ℕ) (o : Option DuePlace) → cond (is_due t o) None o ≡ later_than t o
waits_later t None = refl
waits_later t (Some p) = refl

-- what stands in a row of what is due at the tick now
pub row_due : (places : List (Option DuePlace)) (now k : ℕ) (fs : List Entry) → All (SaysPlace places) fs → All (λ e. e.due ≤ now) fs
    → on_table k fs ≡ true → is_due now (place_in places k) ≡ true
row_due places now k [] valid due on = absurd (cc)
row_due places now k (f ∷ fs) valid due on = by (k == f.item) refl on (λ rest. row_due places now k fs
    (All-tail (SaysPlace places) f fs valid) (All-tail (λ e. e.due ≤ now) f fs due) rest)
  where
    by : (b : Bool) → (k == f.item) ≡ b → (b || on_table k fs) ≡ true → (on_table k fs ≡ true → is_due now (place_in places k) ≡ true)
        → is_due now (place_in places k) ≡ true
    by true is _ rest =
        let low : f.due ≤ now = All-head (λ e. e.due ≤ now) f fs due in
        let at = All-head (SaysPlace places) f fs valid in
        ap (λ (z : ℕ). is_due now (place_in places z)) (eqb-true k f.item is) ∙ (ap (is_due now) at ∙ (grind (arith, nat_tests)))
    by false is on rest = rest on

module _ {places : List (Option DuePlace)} {next previous : List ℕ} {row : List DueItem} {room front count tick : ℕ}
    (t : IsTimetable places next previous row room front count tick) (now : ℕ) (forward : tick ≤ now)
    {given : List (Option DuePlace)} (value : given ≡ places) (kept : List DueItem) (same : filter (stands given) kept ≡ filter (stands given) row) where
  abbrev es : List Entry
  es = entries_of places

  abbrev late : List Entry
  late = remaining places kept

  late_is : late ≡ remaining given kept
  late_is = ap (λ (z : List (Option DuePlace)). remaining z kept) (sym value)

  start_is : late ≡ due_part tick es
  start_is = late_is ∙ (ap (map entry_of) same ∙ (ap (λ (z : List (Option DuePlace)). remaining z row) value ∙ t.due_is))

  start_early : All (λ e. e.due ≤ tick) late
  start_early = subst (All (λ e. e.due ≤ tick)) (sym (start_is ∙ sym t.due_is))
      (All-map (λ e. e.due ≤ tick) entry_of (filter (stands places) row)
      (All-filter (stands places) (λ r. r.place.due ≤ tick) row t.early))

  start_ordered : IsOrdered late
  start_ordered = subst IsOrdered (sym start_is) (ordered_due tick es (entries_rows places t.apart).ordered)

  start_on : (k : ℕ) → on_table k late ≡ is_due tick (place_in places k)
  start_on k =
      let rows = entries_rows places t.apart in
      ap (on_table k) start_is ∙ (sym (place_some k (due_part tick es)) ∙ (ap is_some (place_due tick k es rows.ordered)
      ∙ (ap (λ (z : Option DuePlace). is_some (due_only tick z)) (sym (rows.known k)) ∙ some_due tick (place_in places k))))

  start_waits : (k : ℕ) → waiting places late k ≡ later_than tick (place_in places k)
  start_waits k = ap (λ (z : Bool). cond z None (place_in places k)) (start_on k) ∙ waits_later tick (place_in places k)

  pub gathering_start : IsGathering given next previous (remaining given kept) now
  gathering_start = subst (λ (z : List (Option DuePlace)). IsGathering z next previous (remaining z kept) now) (sym value) record {
    wheel = subst (λ (z : ℕ → Option DuePlace). IsWheel (length places) next previous z) (λ i k. sym (start_waits k) i) t.wheel;
    valid = kept_valid places kept;
    due = All-weaker (λ e. e.due ≤ tick) (λ e. e.due ≤ now) (λ e early. omega arith) late start_early;
    single = λ k. ordered_single k late start_ordered;
  }

  ahead : (k : ℕ) (p : DuePlace) → waiting places late k ≡ Some p → tick < p.due
  ahead k p is = (later_same tick (place_in places k) p (sym (start_waits k) ∙ is)).1

  pub start_ahead : (k : ℕ) (p : DuePlace) → waiting given (remaining given kept) k ≡ Some p → tick < p.due
  start_ahead = subst (λ (z : List (Option DuePlace)). (k : ℕ) (p : DuePlace) → waiting z (remaining z kept) k ≡ Some p → tick < p.due) (sym value) ahead

  -- what stands on the table, and not among what is late, is due later
  all_later : (ms : List DueItem) → All (SaysPlace places) (map entry_of ms) → ((k : ℕ) → times k (late ++ map entry_of ms) ≤ 1)
      → All (λ m. tick < m.place.due) ms
  all_later [] valid single = All-nil (λ m. tick < m.place.due)
  all_later (m ∷ ms) valid single =
      let off : on_table m.item late ≡ false = no_times m.item late (let a = single m.item in let b = times_append m.item late (map entry_of (m ∷ ms)) in
      let c = times_first (entry_of m) (map entry_of ms) in omega arith) in
      let here = All-head (SaysPlace places) (entry_of m) (map entry_of ms) valid in
      All-cons (λ r. tick < r.place.due) m ms (ahead m.item m.place (ap (λ (z : Bool). cond z None (place_in places m.item)) off ∙ here))
      (all_later ms (All-tail (SaysPlace places) (entry_of m) (map entry_of ms) valid) (λ k.
      let a = single k in let b = times_append k late (map entry_of (m ∷ ms)) in let c = times_append k late (map entry_of ms) in
      let d = no_more_times k (entry_of m) (map entry_of ms) in omega arith))

  -- the row once nothing that is due waits, where what was found is sorted
  module _ {next' previous' : List ℕ} {found sorted moved : List DueItem} (grows : PutsBehind given kept found)
      (gathered : IsGathering given next' previous' (remaining given found) now)
      (none_due : (k : ℕ) (p : DuePlace) → waiting given (remaining given found) k ≡ Some p → now < p.due)
      (sorted_is : sorted ≡ kept ++ moved) (moves : IsPermutation grows.more moved) (is_sorted : AreSorted moved) where
    abbrev more : List DueItem
    more = grows.more

    found_is : remaining places found ≡ map entry_of (filter (stands places) kept ++ more)
    found_is = ap (map entry_of) (ap (filter (stands places)) grows.is ∙ (filter-append (stands places) kept more
        ∙ ap (λ (z : List DueItem). filter (stands places) kept ++ z) (filter_all (stands places) more
        (subst (λ (z : List (Option DuePlace)). All (λ e. stands z e ≡ true) more) value grows.stand))))

    g : IsGathering places next' previous' (map entry_of (filter (stands places) kept ++ more)) now
    g = subst (λ (z : List Entry). IsGathering places next' previous' z now) found_is
        (subst (λ (z : List (Option DuePlace)). IsGathering z next' previous' (remaining z found) now) value gathered)

    done : (k : ℕ) (p : DuePlace) → waiting places (map entry_of (filter (stands places) kept ++ more)) k ≡ Some p → now < p.due
    done = subst (λ (z : List Entry). (k : ℕ) (p : DuePlace) → waiting places z k ≡ Some p → now < p.due) found_is
        (subst (λ (z : List (Option DuePlace)). (k : ℕ) (p : DuePlace) → waiting z (remaining z found) k ≡ Some p → now < p.due) value none_due)

    late_item : (o : Option DuePlace) → ((p : DuePlace) → o ≡ Some p → now < p.due) → is_due now o ≡ false
    late_item None late = refl
    late_item (Some p) late = let l = late p refl in grind (arith, nat_tests)

    found_on : (k : ℕ) → on_table k (map entry_of (filter (stands places) kept ++ more)) ≡ is_due now (place_in places k)
    found_on k = by (on_table k (map entry_of (filter (stands places) kept ++ more))) refl
      where
        by : (b : Bool) → on_table k (map entry_of (filter (stands places) kept ++ more)) ≡ b → b ≡ is_due now (place_in places k)
        by true on = sym (row_due places now k (map entry_of (filter (stands places) kept ++ more)) g.valid g.due on)
        by false off = sym (late_item (place_in places k) (λ p is. done k p (ap (λ (z : Bool). cond z None (place_in places k)) off ∙ is)))

    all_moves : IsPermutation (filter (stands places) kept ++ more) (filter (stands places) kept ++ moved)
    all_moves = IsPermutation-append_right (filter (stands places) kept) more moved moves

    sorted_on : AreOnTable places (map entry_of (filter (stands places) kept ++ moved))
    sorted_on = on_table_permuted places _ _ all_moves (record { valid = g.valid; single = g.single })

    split : (xs : List DueItem) → map entry_of (filter (stands places) kept ++ xs) ≡ late ++ map entry_of xs
    split xs = map-append entry_of (filter (stands places) kept) xs

    moved_on : AreOnTable places (map entry_of moved)
    moved_on = record {
      valid = all_back (SaysPlace places) late (map entry_of moved) (subst (All (SaysPlace places)) (split moved) sorted_on.valid);
      single = λ k. let a = sorted_on.single k in let b = ap (times k) (split moved) in let c = times_append k late (map entry_of moved) in omega arith;
    }

    moved_later : All (λ m. tick < m.place.due) moved
    moved_later = All-permutation (λ m. tick < m.place.due) more moved moves
        (all_later more (all_back (SaysPlace places) late (map entry_of more) (subst (All (SaysPlace places)) (split more) g.valid))
        (λ k. let a = g.single k in let b = ap (times k) (split more) in omega arith))

    sorted_ends : remaining places sorted ≡ late ++ map entry_of moved
    sorted_ends = ap (remaining places) sorted_is ∙ (ap (map entry_of) (filter-append (stands places) kept moved
        ∙ ap (λ (z : List DueItem). filter (stands places) kept ++ z) (filter_all (stands places) moved
        (All-weaker (λ x. place_in places x.item ≡ Some x.place) (λ x. stands places x ≡ true)
        (λ x is. place_stands x.place (place_in places x.item) is) moved (all_unmap (SaysPlace places) moved moved_on.valid)))) ∙ split moved)

    in_order : IsOrdered (late ++ map entry_of moved)
    in_order = ordered_joined tick late (map entry_of moved) start_ordered (sorted_ordered places moved t.apart moved_on is_sorted) start_early
        (All-map (λ e. tick < e.due) entry_of moved moved_later)
        (λ k. let a = sorted_on.single k in let b = ap (times k) (split moved) in omega arith)

    pub timetable_end : {room' front' : ℕ} → 3 * length given ≤ room' → filter (stands given) (take front' kept) ≡ [] → front' ≤ length kept
        → All (λ e. e.place.due ≤ tick) kept → IsTimetable places next' previous' sorted room' front' count now
    timetable_end {room'} {front'} enough passed low early = record {
      few = t.few;
      apart = t.apart;
      wheel = subst (λ (z : ℕ → Option DuePlace). IsWheel (length places) next' previous' z)
          (λ i k. (ap (λ (z : Bool). cond z None (place_in places k)) (found_on k) ∙ waits_later now (place_in places k)) i) g.wheel;
      due_is = sorted_ends ∙ ordered_is_due places now (late ++ map entry_of moved) t.apart
          (subst (All (SaysPlace places)) (split moved) sorted_on.valid) in_order
          (λ k. ap (on_table k) (sym (split moved)) ∙ (sym (same_on_table k _ _ all_moves) ∙ found_on k));
      early = subst (All (λ e. e.place.due ≤ now)) (sym sorted_is)
          (All-append (λ e. e.place.due ≤ now) kept moved (All-weaker (λ e. e.place.due ≤ tick) (λ e. e.place.due ≤ now) (λ e low. omega arith) kept early)
          (All-permutation (λ e. e.place.due ≤ now) more moved moves
          (all_unmap (λ e. e.due ≤ now) more (all_back (λ e. e.due ≤ now) late (map entry_of more) (subst (All (λ e. e.due ≤ now)) (split more) g.due)))));
      passed = ap (λ (z : List DueItem). filter (stands places) (take front' z)) sorted_is
          ∙ (ap (filter (stands places)) (take-append-le front' kept moved low)
          ∙ subst (λ (z : List (Option DuePlace)). filter (stands z) (take front' kept) ≡ []) value passed);
      enough = subst (λ (z : List (Option DuePlace)). 3 * length z ≤ room') value enough;
      count_is = t.count_is;
    }
