-- A timetable after an item was put on it, and after one was taken off.
use Rattle.wq_delay.proofs.Common.{◌≡◌, ℕ, ◌+◌, ◌%◌, ◌<◌, ◌≤◌, Bool, true, false, cond, not, ◌||◌, ◌≢◌, List, [], ◌∷◌, map, length, get_or, take, set, is_some}
use Rattle.wq_delay.proofs.Common.{nat_lt, nat_le, ◌==◌, slice_index, Some, None, All, filter, Option, sym, refl, ap, ◌∙◌, subst, arith, get_or-set_other}
use Rattle.wq_delay.proofs.Common.{get_or-set_same, eqb-true, nat_tests, get_or_read, length-set, All-head, All-tail, All-weaker, All-take, Entry, due_part}
use Rattle.wq_delay.proofs.Common.{without, IsOrdered, on_table, placed, AreArmedBefore, without_off, length_placed, DuePlace, DueItem, place_in, later_than}
use Rattle.wq_delay.proofs.Common.{IsWheel, entry_at, entry_of, place_at, entries_of, stands, IsTimetable, AreApart, is_place, AreRows, same_Some}
use Rattle.wq_delay.proofs.Rounds.{at_or}
use Rattle.wq_delay.proofs.Wheel.{wheel_behind, wheel_without}
use Rattle.wq_delay.proofs.Rows.{below_place, rows_placed, rows_without, known_on}
use Rattle.wq_delay.proofs.Spelled.{place_off, entries_rows, entries_is}

-- tests that agree on a list keep the same of it
pub filter_alike : {X : Type 0} (p q : X → Bool) (xs : List X) → All (λ x. p x ≡ q x) xs → filter p xs ≡ filter q xs
filter_alike p q [] all = refl
filter_alike {X} p q (x ∷ xs) all =
    ap (λ (z : Bool). cond z (x ∷ filter p xs) (filter p xs)) (All-head (λ y. p y ≡ q y) x xs all)
    ∙ ap (λ (z : List X). cond (q x) (x ∷ z) z) (filter_alike p q xs (All-tail (λ y. p y ≡ q y) x xs all))

pub later_same : (t : ℕ) (o : Option DuePlace) (p : DuePlace) → later_than t o ≡ Some p → (o ≡ Some p) × (t < p.due)
later_same t None p is = absurd (cc)
later_same t (Some q) p is = by (nat_le q.due t) refl is
  where
    by : (b : Bool) → nat_le q.due t ≡ b → cond b None (Some q) ≡ Some p → (Some q ≡ Some p) × (t < p.due)
    by true early same = absurd (cc)
    by false late same =
        let e : q ≡ p = same_Some q p same in let d = ap (λ (z : DuePlace). z.due) e in let high : t < q.due = grind (arith, nat_tests) in
        (same, omega arith)

pub later_some : (t : ℕ) (p : DuePlace) → t < p.due → later_than t (Some p) ≡ Some p
later_some t p late = let is : nat_le p.due t ≡ false = grind (arith, nat_tests) in rw is refl

pub later_none : (t : ℕ) (p : DuePlace) → p.due ≤ t → later_than t (Some p) ≡ None
later_none t p early = let is : nat_le p.due t ≡ true = grind (arith, nat_tests) in rw is refl

due_placed : (t : ℕ) (e : Entry) (es : List Entry) → t < e.due → due_part t (placed e es) ≡ due_part t es
due_placed t e [] late = let is : nat_le e.due t ≡ false = grind (arith, nat_tests) in rw is refl
due_placed t e (f ∷ fs) late = by (nat_lt e.due f.due) (due_placed t e fs late)
  where
    by : (b : Bool) → due_part t (placed e fs) ≡ due_part t fs → due_part t (cond b (e ∷ f ∷ fs) (f ∷ placed e fs)) ≡ due_part t (f ∷ fs)
    by true is = let no : nat_le e.due t ≡ false = grind (arith, nat_tests) in rw no refl
    by false is = ap (λ (z : List Entry). cond (nat_le f.due t) (f ∷ z) z) is

length_without : (k : ℕ) (es : List Entry) → IsOrdered es → on_table k es ≡ true → length (without k es) + 1 ≡ length es
length_without k [] ordered on = absurd (cc)
length_without k (f ∷ fs) ordered on = by (k == f.item) refl (λ rest. length_without k fs ordered.2 rest) on
  where
    by : (b : Bool) → (k == f.item) ≡ b → (on_table k fs ≡ true → length (without k fs) + 1 ≡ length fs) → (b || on_table k fs) ≡ true
        → length (cond (not b) (f ∷ without k fs) (without k fs)) + 1 ≡ length (f ∷ fs)
    by true is rest _ =
        let off : on_table k fs ≡ false = subst (λ (z : ℕ). on_table z fs ≡ false) (sym (eqb-true k f.item is)) ordered.1 in
        let e = ap (length {A = Entry}) (without_off k fs off) in omega arith
    by false is rest on = let e = rest on in omega arith

due_without : (t k : ℕ) (es : List Entry) → without k (due_part t es) ≡ due_part t (without k es)
due_without t k [] = refl
due_without t k (f ∷ fs) = by (nat_le f.due t) (k == f.item) refl refl (due_without t k fs)
  where
    by : (b c : Bool) → nat_le f.due t ≡ b → (k == f.item) ≡ c → without k (due_part t fs) ≡ due_part t (without k fs)
        → without k (cond b (f ∷ due_part t fs) (due_part t fs)) ≡ due_part t (cond (not c) (f ∷ without k fs) (without k fs))
    by true true p q is = rw q is
    by true false p q is = rw (q, p) (ap (λ (z : List Entry). f ∷ z) is)
    by false true p q is = is
    by false false p q is = rw p is

module _ {places : List (Option DuePlace)} {next previous : List ℕ} {row : List DueItem} {room front count tick : ℕ}
    (t : IsTimetable places next previous row room front count tick) (k : ℕ) (low : k < length places) where
  abbrev es : List Entry
  es = entries_of places

  rows : AreRows places es
  rows = entries_rows places t.apart

  -- whether it is on the table is read off its place
  pub is_on : (o : Option DuePlace) → o ≡ get_or places k o → is_some o ≡ on_table k es
  is_on o read = ap is_some (get_or_read places k o low read None) ∙ known_on places es k rows

  at_k : (v : Option DuePlace) → place_in (set places k v) k ≡ v
  at_k v = get_or-set_same places k v None low

  at_other : (v : Option DuePlace) (j : ℕ) → j ≢ k → place_in (set places k v) j ≡ place_in places j
  at_other v j ne = get_or-set_other places k j v None ne

  module _ (due arming : ℕ) (off : on_table k es ≡ false) (later : tick < due) (last : AreArmedBefore arming es) where
    abbrev v : Option DuePlace
    v = Some (place_at due arming)

    abbrev e : Entry
    e = entry_at (place_at due arming) k

    none : place_in places k ≡ None
    none = rows.known k ∙ place_off k es off

    below : (j : ℕ) (p : DuePlace) → place_in places j ≡ Some p → p.arming < arming
    below j p is = below_place arming j p es last (sym (rows.known j) ∙ is)

    put_apart : AreApart (set places k v)
    put_apart i j p q a b same =
        at_or (λ z. place_in (set places k v) z ≡ Some p → z ≡ j) k i
        (λ a. at_or (λ z. place_in (set places k v) z ≡ Some q → k ≡ z) k j (λ _. refl)
        (λ nj b. let x = below j q (sym (at_other v j nj) ∙ b) in
        let y = ap (λ (z : DuePlace). z.arming) (same_Some (place_at due arming) p (sym (at_k v) ∙ a)) in absurd (omega arith)) b)
        (λ ni a. at_or (λ z. place_in (set places k v) z ≡ Some q → i ≡ z) k j
        (λ b. let x = below i p (sym (at_other v i ni) ∙ a) in
        let y = ap (λ (z : DuePlace). z.arming) (same_Some (place_at due arming) q (sym (at_k v) ∙ b)) in absurd (omega arith))
        (λ nj b. t.apart i j p q (sym (at_other v i ni) ∙ a) (sym (at_other v j nj) ∙ b) same) b) a

    pub put_entries : entries_of (set places k v) ≡ placed e es
    put_entries = entries_is (set places k v) (placed e es) put_apart (rows_placed places es (placed e es) k due arming rows low off last refl)

    put_stands : (r : DueItem) → r.place.due ≤ tick → stands (set places k v) r ≡ stands places r
    put_stands r early =
        at_or (λ z. is_place r.place (place_in (set places k v) z) ≡ is_place r.place (place_in places z)) k r.item
        (ap (is_place r.place) (at_k v) ∙ ((let ne : (due == r.place.due) ≡ false = grind (arith, nat_tests) in rw ne refl) ∙ sym (ap (is_place r.place) none)))
        (λ ne. ap (is_place r.place) (at_other v r.item ne))

    put_filter : (xs : List DueItem) → All (λ r. r.place.due ≤ tick) xs → filter (stands (set places k v)) xs ≡ filter (stands places) xs
    put_filter xs early = filter_alike (stands (set places k v)) (stands places) xs
        (All-weaker (λ r. r.place.due ≤ tick) (λ r. stands (set places k v) r ≡ stands places r) put_stands xs early)

    pub put_timetable : (next' previous' : List ℕ) (n : ℕ) → n ≡ count + 1
        → next' ≡ set (set next (slice_index previous (length places + due % 256)) k) k (length places + due % 256)
        → previous' ≡ set (set previous (length places + due % 256) k) k (slice_index previous (length places + due % 256))
        → IsTimetable (set places k v) next' previous' row room front n tick
    put_timetable next' previous' n n_is next_is previous_is =
        let size : length (set places k v) ≡ length places = length-set places k v in record {
          few = let f = t.few in omega arith;
          apart = put_apart;
          wheel = subst (λ (z : ℕ). IsWheel z next' previous' (λ j. later_than tick (place_in (set places k v) j))) (sym size)
              (wheel_behind (length places) next previous next' previous' (λ j. later_than tick (place_in places j))
              (λ j. later_than tick (place_in (set places k v) j)) k due arming t.wheel low (ap (later_than tick) none)
              (λ j p is. below j p (later_same tick (place_in places j) p is).0)
              (ap (later_than tick) (at_k v) ∙ later_some tick (place_at due arming) later)
              (λ j ne. ap (later_than tick) (at_other v j ne)) next_is previous_is);
          due_is = ap (map entry_of) (put_filter row t.early) ∙ (t.due_is ∙ sym (ap (due_part tick) put_entries ∙ due_placed tick e es later));
          early = t.early;
          passed = put_filter (take front row) (All-take (λ r. r.place.due ≤ tick) front row t.early) ∙ t.passed;
          enough = let f = t.enough in omega arith;
          count_is = let f = t.count_is in let g = ap (length {A = Entry}) put_entries in let h = length_placed e es in omega arith;
        }

  module _ {q : DuePlace} (some : place_in places k ≡ Some q) where
    gone : (j : ℕ) (p : DuePlace) → place_in (set places k None) j ≡ Some p → place_in places j ≡ Some p
    gone j p is = at_or (λ z. place_in (set places k None) z ≡ Some p → place_in places z ≡ Some p) k j
        (λ a. let e = sym (at_k None) ∙ a in absurd (cc))
        (λ ne a. sym (at_other None j ne) ∙ a) is

    take_apart : AreApart (set places k None)
    take_apart i j p r a b same = t.apart i j p r (gone i p a) (gone j r b) same

    pub take_entries : entries_of (set places k None) ≡ without k es
    take_entries = entries_is (set places k None) (without k es) take_apart (rows_without places es (without k es) k rows low refl)

    take_filter : (xs : List DueItem) → map entry_of (filter (stands (set places k None)) xs) ≡ without k (map entry_of (filter (stands places) xs))
    take_filter [] = refl
    take_filter (r ∷ rs) = by (k == r.item) refl (take_filter rs)
      where
        by : (b : Bool) → (k == r.item) ≡ b
            → map entry_of (filter (stands (set places k None)) rs) ≡ without k (map entry_of (filter (stands places) rs))
            → map entry_of (filter (stands (set places k None)) (r ∷ rs)) ≡ without k (map entry_of (filter (stands places) (r ∷ rs)))
        by true is rest =
            let here : stands (set places k None) r ≡ false =
            ap (λ (z : ℕ). is_place r.place (place_in (set places k None) z)) (sym (eqb-true k r.item is)) ∙ ap (is_place r.place) (at_k None) in
            rw here (rest ∙ was (stands places r))
          where
            was : (c : Bool) → without k (map entry_of (filter (stands places) rs))
                ≡ without k (map entry_of (cond c (r ∷ filter (stands places) rs) (filter (stands places) rs)))
            was true = rw is refl
            was false = refl
        by false is rest =
            let ne : r.item ≢ k = grind (arith, nat_tests) in
            let here : stands (set places k None) r ≡ stands places r = ap (is_place r.place) (at_other None r.item ne) in
            rw here (was (stands places r))
          where
            was : (c : Bool) → map entry_of (cond c (r ∷ filter (stands (set places k None)) rs) (filter (stands (set places k None)) rs))
                ≡ without k (map entry_of (cond c (r ∷ filter (stands places) rs) (filter (stands places) rs)))
            was true = rw is (ap (λ (z : List Entry). entry_of r ∷ z) rest)
            was false = rest

    take_passed : filter (stands (set places k None)) (take front row) ≡ []
    take_passed = empty (filter (stands (set places k None)) (take front row))
        (take_filter (take front row) ∙ ap (λ (z : List DueItem). without k (map entry_of z)) t.passed)
      where
        empty : (xs : List DueItem) → map entry_of xs ≡ [] → xs ≡ []
        empty [] is = refl
        empty (x ∷ xs) is = absurd (cc)

    on : on_table k es ≡ true
    on = sym (known_on places es k rows) ∙ ap is_some some

    pub take_counted : 1 ≤ count
    take_counted = let f = t.count_is in let h = length_without k es rows.ordered on in omega arith

    pub take_timetable : (next' previous' : List ℕ) (n : ℕ) → n + 1 ≡ count
        → IsWheel (length places) next' previous' (λ j. later_than tick (place_in (set places k None) j))
        → IsTimetable (set places k None) next' previous' row room front n tick
    take_timetable next' previous' n n_is wheel =
        let size : length (set places k None) ≡ length places = length-set places k None in record {
          few = let f = t.few in omega arith;
          apart = take_apart;
          wheel = subst (λ (z : ℕ). IsWheel z next' previous' (λ j. later_than tick (place_in (set places k None) j))) (sym size) wheel;
          due_is = take_filter row ∙ (ap (without k) t.due_is ∙ (due_without tick k es ∙ sym (ap (due_part tick) take_entries)));
          early = t.early;
          passed = take_passed;
          enough = let f = t.enough in omega arith;
          count_is = let f = t.count_is in let g = ap (length {A = Entry}) take_entries in let h = length_without k es rows.ordered on in omega arith;
        }

    -- what waited is taken out of its ring, and what was due stands in none
    pub take_waiting : (next' previous' : List ℕ) → tick < q.due
        → next' ≡ set (set next (slice_index previous k) (slice_index next k)) k k
        → previous' ≡ set (set previous (slice_index next k) (slice_index previous k)) k k
        → IsWheel (length places) next' previous' (λ j. later_than tick (place_in (set places k None) j))
    take_waiting next' previous' late next_is previous_is =
        wheel_without (length places) next previous next' previous' (λ j. later_than tick (place_in places j))
        (λ j. later_than tick (place_in (set places k None) j)) k q t.wheel low (ap (later_than tick) some ∙ later_some tick q late)
        (ap (later_than tick) (at_k None)) (λ j ne. ap (later_than tick) (at_other None j ne)) next_is previous_is

    pub take_due : q.due ≤ tick → IsWheel (length places) next previous (λ j. later_than tick (place_in (set places k None) j))
    take_due early =
        let same : (j : ℕ) → later_than tick (place_in places j) ≡ later_than tick (place_in (set places k None) j) =
        λ j. at_or (λ z. later_than tick (place_in places z) ≡ later_than tick (place_in (set places k None) z)) k j
        (ap (later_than tick) some ∙ (later_none tick q early ∙ sym (ap (later_than tick) (at_k None))))
        (λ ne. sym (ap (later_than tick) (at_other None j ne))) in
        subst (λ (z : ℕ → Option DuePlace). IsWheel (length places) next previous z) (λ i j. same j i) t.wheel
