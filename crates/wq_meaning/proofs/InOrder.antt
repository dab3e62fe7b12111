-- The order of a delay table.
use Rattle.wq_meaning.proofs.Common.{◌≡◌, ℕ, zero, suc, ◌+◌, ◌<◌, ◌==◌, Bool, true, false, not, nat_lt, nat_le, List, [], ◌∷◌, All, refl, sym, ◌∙◌, inl, inr}
use Rattle.wq_meaning.proofs.Common.{arith, if◌then◌else◌, cond, filter, None, fold, Layout, Event, closed, Entry, DelayTable, IsBefore, placed, on_table}
use Rattle.wq_meaning.proofs.Common.{is_too_far, table_with, table_without, table_at, Command, queues_now, arm_table, modify_table, ScriptState}
use Rattle.wq_meaning.proofs.Common.{opening_state, state_after, after_row, ◌++◌, ◌≤◌, get_or, due_part, draining, post_table, advance_table}
use Rattle.wq_words.specs.DelayTable.{later_part}
use Rattle.std.proofs.lemmas.Bool.{cases_lt, lt-ltb, le-ltb, false≢true, leb-true, leb-false, not-true}
use Rattle.std.proofs.lemmas.List.Elements.{All-append, filter_passes}
use Rattle.std.proofs.lemmas.List.Kept.{AllPairs-cons, AllPairs-filter}
use Rattle.wq_text.specs.declared.command.Command.TheVariants as command
use Rattle.wq_meaning.specs.Order.{IsInOrder, final_state}

-- in order, and all armed under numbers that were given out
record KeptInOrder (t : DelayTable) : Type 0 where
  order : IsInOrder t.entries
  numbers : All (λ e. e.arming < t.next) t.entries

tail_of : {X : Type 0} (P : X → Type 0) (x : X) (xs : List X) → All P (x ∷ xs) → All P xs
tail_of P x xs all i d lt = all (suc i) d (omega (arith, lt))

all_of : {X : Type 0} (P : X → Type 0) (x : X) (xs : List X) → P x → All P xs → All P (x ∷ xs)
all_of P x xs one all zero d lt = one
all_of P x xs one all (suc i) d lt = all i d (omega (arith, lt))

-- what holds of an entry and of all others holds of all where it was placed
all_placed : (P : Entry → Type 0) (e : Entry) (es : List Entry) → P e → All P es → All P (placed e es)
all_placed P e [] one all = all_of P e [] one all
all_placed P e (x ∷ es) one all = each (nat_lt e.due x.due) (all_placed P e es one (tail_of P x es all))
  where
    each : (b : Bool) → All P (placed e es) → All P (if b then e ∷ x ∷ es else x ∷ placed e es)
    each true rest = all_of P e (x ∷ es) one all
    each false rest = all_of P x (placed e es) (all 0 x (omega arith)) rest

-- an entry at its place keeps the order, where it was armed last
order_placed : (e : Entry) (es : List Entry) → IsInOrder es → All (λ f. f.arming < e.arming) es → IsInOrder (placed e es)
order_placed e [] order below = AllPairs-cons IsBefore e [] (λ i d lt. absurd (omega (arith, lt))) (λ i j d _ lt. absurd (omega (arith, lt)))
order_placed e (x ∷ es) order below = each (nat_lt e.due x.due) refl (order_placed e es rest (tail_of (λ f. f.arming < e.arming) x es below))
  where
    rest : IsInOrder es
    rest i j d less lt = order (suc i) (suc j) d (omega (arith, less)) (omega (arith, lt))

    behind : All (IsBefore x) es
    behind i d lt = order 0 (suc i) d (omega arith) (omega (arith, lt))

    earlier : e.due < x.due → All (IsBefore e) (x ∷ es)
    earlier less zero d lt = (omega (arith, less), λ is. absurd (omega (arith, is, less)))
    earlier less (suc i) d lt =
        let later = (behind i d (omega (arith, lt))).0 in
        (omega (arith, less, later), λ is. absurd (omega (arith, is, less, later)))

    each : (b : Bool) → nat_lt e.due x.due ≡ b → IsInOrder (placed e es) → IsInOrder (if b then e ∷ x ∷ es else x ∷ placed e es)
    each true is more = elim (cases_lt e.due x.due) [
      | inl less ↦ AllPairs-cons IsBefore e (x ∷ es) (earlier less) order
      | inr ge ↦ absurd (false≢true (sym (le-ltb e.due x.due ge) ∙ is))
    ]
    each false is more = elim (cases_lt e.due x.due) [
      | inl less ↦ absurd (false≢true (sym is ∙ lt-ltb e.due x.due less))
      | inr ge ↦
          let first : IsBefore x e = (omega (arith, ge), λ _. below 0 x (omega arith)) in
          AllPairs-cons IsBefore x (placed e es) (all_placed (IsBefore x) e es first behind) more
    ]

all_filter : {X : Type 0} (P : X → Type 0) (p : X → Bool) (xs : List X) → All P xs → All P (filter p xs)
all_filter P p [] all = all
all_filter {X} P p (x ∷ xs) all = each (p x) (all_filter P p xs (tail_of P x xs all))
  where
    each : (b : Bool) → All P (filter p xs) → All P (cond b (x ∷ filter p xs) (filter p xs))
    each true rest = all_of P x (filter p xs) (all 0 x (omega arith)) rest
    each false rest = rest

kept_with : (item delay : ℕ) (t : DelayTable) → KeptInOrder t → KeptInOrder (table_with item delay t)
kept_with item delay t k =
    let e : Entry = record { due = t.tick + delay; arming = t.next; item = item } in
    let older : All (λ f. f.arming < t.next + 1) t.entries = λ i d lt. let less = k.numbers i d lt in omega (arith, less) in
    record { order = order_placed e t.entries k.order k.numbers; numbers = all_placed (λ f. f.arming < t.next + 1) e t.entries (omega arith) older }

kept_without : (item : ℕ) (t : DelayTable) → KeptInOrder t → KeptInOrder (table_without item t)
kept_without item t k = record {
  order = AllPairs-filter IsBefore (λ e. not (item == e.item)) t.entries k.order;
  numbers = all_filter (λ f. f.arming < t.next) (λ e. not (item == e.item)) t.entries k.numbers;
}

kept_at : (tick : ℕ) (t : DelayTable) → KeptInOrder t → KeptInOrder (table_at tick [] t)
kept_at tick t k = record {
  order = AllPairs-filter IsBefore (λ e. not (nat_le e.due tick)) t.entries k.order;
  numbers = all_filter (λ f. f.arming < t.next) (λ e. not (nat_le e.due tick)) t.entries k.numbers;
}

-- two lists in order, each entry of the first before all of the second
order_append : (es fs : List Entry) → IsInOrder es → IsInOrder fs → All (λ e. All (IsBefore e) fs) es → IsInOrder (es ++ fs)
order_append [] fs first second before = second
order_append (e ∷ es) fs first second before =
    let rest : IsInOrder es = λ i j d less lt. first (suc i) (suc j) d (omega (arith, less)) (omega (arith, lt)) in
    let behind : All (IsBefore e) es = λ i d lt. first 0 (suc i) d (omega arith) (omega (arith, lt)) in
    AllPairs-cons IsBefore e (es ++ fs) (All-append (IsBefore e) es fs behind (before 0 e (omega arith)))
    (order_append es fs rest second (tail_of (λ x. All (IsBefore x) fs) e es before))

-- what is due goes out before what is not
due_first : (tick : ℕ) (es : List Entry) → All (λ e. All (IsBefore e) (later_part tick es)) (due_part tick es)
due_first tick es i d lt j c below =
    let now : (get_or (due_part tick es) i d).due ≤ tick = leb-true _ _ (filter_passes (λ e. nat_le e.due tick) es i d lt) in
    let no = not-true _ (filter_passes (λ e. not (nat_le e.due tick)) es j c below) in
    let later : tick < (get_or (later_part tick es) j c).due = leb-false _ _ no in
    (omega (arith, now, later), λ is. absurd (omega (arith, is, now, later)))

-- what is due stays in front of what is not
kept_left : (tick : ℕ) (t : DelayTable) → KeptInOrder t → KeptInOrder (table_at tick (due_part tick t.entries) t)
kept_left tick t k =
    let later = kept_at tick t k in
    let due = AllPairs-filter IsBefore (λ e. nat_le e.due tick) t.entries k.order in
    let old = all_filter (λ f. f.arming < t.next) (λ e. nat_le e.due tick) t.entries k.numbers in
    record {
      order = order_append (due_part tick t.entries) (later_part tick t.entries) due later.order (due_first tick t.entries);
      numbers = All-append (λ f. f.arming < t.next) (due_part tick t.entries) (later_part tick t.entries) old later.numbers;
    }

kept_advance : (tick : ℕ) (h : List Event) (t : DelayTable) → KeptInOrder t → KeptInOrder (advance_table tick h t)
kept_advance tick h t k = each (draining h)
  where
    each : (drains : Bool) → KeptInOrder (table_at tick (if drains then due_part tick t.entries else []) t)
    each true = kept_left tick t k
    each false = kept_at tick t k

kept_choice : (b : Bool) (t u : DelayTable) → KeptInOrder t → KeptInOrder u → KeptInOrder (if b then t else u)
kept_choice true t u k l = k
kept_choice false t u k l = l

kept_arm : (item delay : ℕ) (h : List Event) (t : DelayTable) → KeptInOrder t → KeptInOrder (arm_table item delay h t)
kept_arm item delay h t k =
    let now = kept_choice (queues_now item delay h) t (table_with item delay t) k (kept_with item delay t k) in
    kept_choice (is_too_far delay t) t _ k now

kept_modify : (item delay : ℕ) (h : List Event) (t : DelayTable) → KeptInOrder t → KeptInOrder (modify_table item delay h t)
kept_modify item delay h t k =
    let off = kept_without item t k in
    let u : DelayTable = table_without item t in
    let posted = kept_choice (draining h) t u k off in
    let moved = kept_choice (delay == 0) (post_table item h t) (table_with item delay u) posted (kept_with item delay u off) in
    kept_choice (is_too_far delay t) t _ k (kept_choice (on_table item t.entries) _ (arm_table item delay h t) moved (kept_arm item delay h t k))

kept_either : (b : Bool) (s u : ScriptState) → KeptInOrder s.table → KeptInOrder u.table → KeptInOrder (if b then s else u).table
kept_either true s u k l = k
kept_either false s u k l = l

kept_after : (layout : Layout) (s : ScriptState) (c : Command) → KeptInOrder s.table → KeptInOrder (state_after layout s c).table
kept_after layout s (command.Drain limit) k = kept_either (closed s.history) (record s { history = after_row layout s limit None }) s k k
kept_after layout s (command.Arm item delay) k = kept_arm item delay s.history s.table k
kept_after layout s (command.Cancel item) k = kept_without item s.table k
kept_after layout s (command.Modify item delay) k = kept_modify item delay s.history s.table k
kept_after layout s (command.Advance tick) k = kept_either (nat_lt tick s.table.tick) s _ k (kept_advance tick s.history s.table k)
kept_after layout s _ k = k

kept_all : (layout : Layout) (s : ScriptState) (cs : List Command) → KeptInOrder s.table → KeptInOrder (fold (state_after layout) s cs).table
kept_all layout s [] k = k
kept_all layout s (c ∷ cs) k = kept_all layout (state_after layout s c) cs (kept_after layout s c k)

pub final_in_order : (layout : Layout) (commands : List Command) → IsInOrder (final_state layout commands).table.entries
final_in_order layout commands =
    let none : KeptInOrder (opening_state layout).table = record {
      order = λ i j d _ lt. absurd (omega (arith, lt));
      numbers = λ i d lt. absurd (omega (arith, lt));
    } in
    (kept_all layout (opening_state layout) commands none).order
