-- How much a command adds to the history and to the delay table.
use Rattle.wq_meaning.proofs.Common.{◌≡◌, ℕ, zero, suc, ◌+◌, ◌*◌, ◌≤◌, Bool, true, false, not, ◌&&◌, nat_le, fold, ◌==◌, List, [], ◌∷◌, ◌++◌, Option, Some}
use Rattle.wq_meaning.proofs.Common.{None, length, cond, arith, length-append, if◌then◌else◌, filter, length-map, ArrayVec, Event, Hold, Busy, Push, Back}
use Rattle.wq_meaning.proofs.Common.{Take, Close, Begin, End, Chain, ChainBusy, pending, closed, shut, taken, next, begun, Entry, DelayTable, without, on_table}
use Rattle.wq_meaning.proofs.Common.{due_part, is_too_far, table_with, table_without, table_at, queue_events, close_events, follow_of, after_follow}
use Rattle.wq_meaning.proofs.Common.{after_run, after_execution, after_executions, go_on, post_event, queues_now, arm_events, arm_table, cancel_events}
use Rattle.wq_meaning.proofs.Common.{modify_events, modify_table, post_events, post_table, advance_events, advance_table, draining, map}
use Rattle.wq_words.specs.DelayTable.{items, later_part}
use Rattle.wq_words.specs.declared.event.Why.TheVariants as why
use Rattle.wq_words.proofs.DelayTable.{length_placed}

pub queue_few : (s k : ℕ) (h : List Event) → length (queue_events s k h) ≤ 2
queue_few s k h = each (pending h k) (closed h) (draining h)
  where
    each : (set refused drains : Bool) → length (if set then Busy s k ∷ [] else (if refused then Hold s k ∷ Back s k why.Closed ∷ []
        else (if drains then Hold s k ∷ Back s k why.Draining ∷ [] else Hold s k ∷ Push s k ∷ []))) ≤ 2
    each true refused drains = omega arith
    each false true drains = omega arith
    each false false true = omega arith
    each false false false = omega arith

pub close_few : (h : List Event) → length (close_events h) ≤ 1
close_few h = each (closed h)
  where
    each : (c : Bool) → length (if c then [] else Close ∷ []) ≤ 1
    each true = omega arith
    each false = omega arith

-- how much executions add
follow_few : (w k : ℕ) (h : List Event) → length (after_follow w h k) ≤ length h + 2
follow_few w k h = each (shut h) (pending h k)
  where
    each : (c d : Bool) → length (h ++ (if c then (if d then ChainBusy k ∷ [] else Chain k ∷ []) else queue_events w k h)) ≤ length h + 2
    each true true = omega (arith, length-append h (ChainBusy k ∷ []))
    each true false = omega (arith, length-append h (Chain k ∷ []))
    each false d = omega (arith, length-append h (queue_events w k h), queue_few w k h)

follows_few : (w : ℕ) (ks : List ℕ) (h : List Event) → length (fold (after_follow w) h ks) ≤ length h + 2 * length ks
follows_few w [] h = omega arith
follows_few w (k ∷ ks) h = let one = follow_few w k h in let rest = follows_few w ks (after_follow w h k) in omega (arith, one, rest)

execution_few : (w : ℕ) (follows : List (ArrayVec ℕ)) (h : List Event) → ((k : ℕ) → length (follow_of follows k) ≤ 4)
    → length (after_execution w follows h) ≤ length h + 11
execution_few w follows h short = each (nat_le (taken h) (length (begun h)) && not (shut h)) (next h)
  where
    take_few : (b : Bool) → length (h ++ (if b then Take ∷ [] else [])) ≤ length h + 1
    take_few true = omega (arith, length-append h (Take ∷ []))
    take_few false = omega (arith, length-append h [])

    each : (b : Bool) (o : Option ℕ) → length (after_run w follows (h ++ (if b then Take ∷ [] else [])) o) ≤ length h + 11
    each b None = omega (arith, take_few b)
    each b (Some k) =
        let g : List Event = h ++ (if b then Take ∷ [] else []) in
        let all : List Event = fold (after_follow w) (g ++ Begin k ∷ []) (follow_of follows k) in
        let rest = follows_few w (follow_of follows k) (g ++ Begin k ∷ []) in
        omega (arith, take_few b, length-append g (Begin k ∷ []), rest, short k, length-append all (End k ∷ []))

rows_few : (w : ℕ) (follows : List (ArrayVec ℕ)) (ends : ℕ → Bool) (n : ℕ) (h : List Event) → length (after_execution w follows h) ≤ length h + 11
    → length (after_executions w follows ends n (after_execution w follows h)) ≤ length (after_execution w follows h) + 11 * n
    → (o : Option ℕ) → length (go_on (after_executions w follows ends n) ends (after_execution w follows h) o) ≤ length h + 11 * suc n
rows_few w follows ends n h one more None = omega (arith, one)
rows_few w follows ends n h one more (Some k) = stop (ends k)
  where
    stop : (b : Bool) → length (if b then after_execution w follows h else after_executions w follows ends n (after_execution w follows h))
        ≤ length h + 11 * suc n
    stop true = omega (arith, one)
    stop false = omega (arith, one, more)

pub executions_few : (w : ℕ) (follows : List (ArrayVec ℕ)) (ends : ℕ → Bool) (limit : ℕ) (h : List Event)
    → ((k : ℕ) → length (follow_of follows k) ≤ 4) → length (after_executions w follows ends limit h) ≤ length h + 11 * limit
executions_few w follows ends zero h short = omega arith
executions_few w follows ends (suc n) h short =
    rows_few w follows ends n h (execution_few w follows h short) (executions_few w follows ends n (after_execution w follows h) short) (next h)

-- how much the delay table's calls add
pub arm_few : (s k delay : ℕ) (h : List Event) (t : DelayTable) → length (arm_events s k delay h t) ≤ 2
arm_few s k delay h t = each (is_too_far delay t) (queues_now k delay h) (queue_few s k h)
  where
    each : (far now : Bool) → length (queue_events s k h) ≤ 2 → length (if far then [] else (if now then queue_events s k h else Hold s k ∷ [])) ≤ 2
    each true now le = omega arith
    each false true le = le
    each false false le = omega arith

split_few : {A : Type 0} (p : A → Bool) (xs : List A) → length (filter p xs) + length (filter (λ x. not (p x)) xs) ≡ length xs
split_few p [] = omega arith
split_few p (x ∷ xs) = each (p x) (split_few p xs)
  where
    each : (b : Bool) → length (filter p xs) + length (filter (λ x. not (p x)) xs) ≡ length xs
        → length (cond b (x ∷ filter p xs) (filter p xs)) + length (cond (not b) (x ∷ filter (λ x. not (p x)) xs) (filter (λ x. not (p x)) xs))
        ≡ suc (length xs)
    each true is = omega (arith, is)
    each false is = omega (arith, is)

pub without_few : (k : ℕ) (es : List Entry) → length (without k es) ≤ length es
without_few k es = omega (arith, split_few (λ (e : Entry). k == e.item) es)

pub arm_table_few : (k delay : ℕ) (h : List Event) (t : DelayTable) → length (arm_table k delay h t).entries ≤ length t.entries + 1
arm_table_few k delay h t = each (is_too_far delay t) (queues_now k delay h)
  where
    more : length (table_with k delay t).entries ≤ length t.entries + 1
    more = omega (arith, length_placed (record { due = t.tick + delay; arming = t.next; item = k }) t.entries)

    each : (far now : Bool) → length (if far then t else (if now then t else table_with k delay t)).entries ≤ length t.entries + 1
    each true now = omega arith
    each false true = omega arith
    each false false = more

pub cancel_few : (s k : ℕ) (t : DelayTable) → length (cancel_events s k t) ≤ 1
cancel_few s k t = each (on_table k t.entries)
  where
    each : (b : Bool) → length (if b then Back s k why.Cancelled ∷ [] else []) ≤ 1
    each true = omega arith
    each false = omega arith

pub modify_few : (s k delay : ℕ) (h : List Event) (t : DelayTable) → length (modify_events s k delay h t) ≤ 2
modify_few s k delay h t = each (is_too_far delay t) (on_table k t.entries) (delay == 0) (post_few (draining h)) (arm_few s k delay h t)
  where
    post_few : (drains : Bool) → length (if drains then [] else post_event s h k ∷ []) ≤ 2
    post_few true = omega arith
    post_few false = omega arith

    each : (far on at_once : Bool) → length (post_events s k h) ≤ 2 → length (arm_events s k delay h t) ≤ 2
        → length (if far then [] else (if on then (if at_once then post_events s k h else []) else arm_events s k delay h t)) ≤ 2
    each true on at_once post le = omega arith
    each false true true post le = post
    each false true false post le = omega arith
    each false false at_once post le = le

pub modify_table_few : (k delay : ℕ) (h : List Event) (t : DelayTable) → length (modify_table k delay h t).entries ≤ length t.entries + 1
modify_table_few k delay h t =
    each (is_too_far delay t) (on_table k t.entries) (delay == 0) (arm_table_few k delay h t) (post_few (draining h)) (without_few k t.entries)
  where
    post_few : (drains : Bool) → length (if drains then t else table_without k t).entries ≤ length t.entries
    post_few true = omega arith
    post_few false = without_few k t.entries

    u : DelayTable
    u = table_without k t

    again : length u.entries ≤ length t.entries → length (table_with k delay u).entries ≤ length t.entries + 1
    again le = omega (arith, le, length_placed (record { due = t.tick + delay; arming = t.next; item = k }) u.entries)

    each : (far on at_once : Bool) → length (arm_table k delay h t).entries ≤ length t.entries + 1 → length (post_table k h t).entries ≤ length t.entries
        → length u.entries ≤ length t.entries
        → length (if far then t else (if on then (if at_once then post_table k h t else table_with k delay u) else arm_table k delay h t)).entries
        ≤ length t.entries + 1
    each true on at_once le post less = omega arith
    each false true true le post less = omega (arith, post)
    each false true false le post less = again less
    each false false at_once le post less = le

-- an advance moves entries of the table into the history
pub advance_few : (s tick : ℕ) (h : List Event) (t : DelayTable)
    → length (advance_events s tick h t) + length (advance_table tick h t).entries ≡ length t.entries
advance_few s tick h t = each (draining h)
  where
    due : List Entry
    due = due_part tick t.entries

    all : length due + length (later_part tick t.entries) ≡ length t.entries
    all = split_few (λ (e : Entry). nat_le e.due tick) t.entries

    each : (drains : Bool) → length (map (post_event s h) (if drains then [] else items due))
        + length (table_at tick (if drains then due else []) t).entries ≡ length t.entries
    each true = omega (arith, length-append due (later_part tick t.entries), all)
    each false =
        let posts = length-map (items due) (post_event s h) in
        let named = length-map due (λ (e : Entry). e.item) in
        omega (arith, posts, named, all)
