-- What a seat goes on to hold.
use Rattle.wq_calls.proofs.Common.{◌≡◌, ◌≢◌, ℕ, ◌≤◌, ◌==◌, Bool, true, false, cond, List, [], ◌∷◌, sym, refl, ap, subst, arith, ne_eqb, count_by}
use Rattle.wq_calls.proofs.Common.{sum_by-cons, Answer, Posted, Event, Hold, Busy, Push, Back, Why, Holds, Known, Sees, TestsAndSets, Answers, Posts}
use Rattle.std.proofs.Common.{◌&&◌}
use Rattle.wq_words.specs.declared.answer.Answer.TheVariants as answer
use Rattle.wq_words.specs.declared.answer.Posted.TheVariants as posted
use Rattle.wq_words.specs.declared.event.Why.TheVariants as why
use Rattle.wq_calls.proofs.Common.{eq-eqb, IsLegal, kept, legal_front, ◌++◌, ◌∙◌, append_assoc, Grows, own-append, own_one}
use Rattle.wq_words.specs.History.{starts_hold, stops_hold}
use Rattle.wq_words.specs.Keeper.{keeper}
use Rattle.wq_words.proofs.Keepers.{held_once}
use Rattle.wq_words.proofs.Seen.{starts_own, stops_own}
use Rattle.wq_calls.proofs.Counting.{count_on, count_one}
use Rattle.wq_calls.proofs.Sends.{sees_held}
use Rattle.wq_calls.proofs.Contended.{split_first}

-- it stays held where the own events that come stop no more holds of it than they start
held_on : (k n : ℕ) (xs : List Event) (s t : Known) → Sees xs n s t
    → count_by (stops_hold s.number k) xs ≤ count_by (starts_hold s.number k) xs → Holds s.seen s.number k → Holds t.seen t.number k
held_on k n xs s t sees less have =
    let c = s.number in
    let starts = count_on (starts_hold c k) c (starts_own c k) xs n s.seen t.seen sees.grows in
    let stops = count_on (stops_hold c k) c (stops_own c k) xs n s.seen t.seen sees.grows in
    subst (λ (d : ℕ). Holds t.seen d k) (sym sees.same.number_is) (omega (arith, starts, stops, less, have))

-- one event that stops no hold of it
held_past : (k n : ℕ) (e : Event) (s t : Known) → Sees (e ∷ []) n s t → stops_hold s.number k e ≡ false → Holds s.seen s.number k → Holds t.seen t.number k
held_past k n e s t sees none = held_on k n (e ∷ []) s t sees (omega (arith, count_one (stops_hold s.number k) e false none))

-- a hold, and what stops it
held_both : (k n j : ℕ) (e : Event) (s t : Known) → Sees (Hold s.number j ∷ e ∷ []) n s t
    → stops_hold s.number k e ≡ starts_hold s.number k (Hold s.number j) → Holds s.seen s.number k → Holds t.seen t.number k
held_both k n j e s t sees same =
    let c = s.number in let b = starts_hold c k (Hold c j) in
    let starts = sum_by-cons (λ x. cond (starts_hold c k x) 1 0) (Hold c j) (e ∷ []) in
    let stops = sum_by-cons (λ x. cond (stops_hold c k x) 1 0) (Hold c j) (e ∷ []) in
    held_on k n (Hold c j ∷ e ∷ []) s t sees (omega (arith, starts, stops, count_one (stops_hold c k) e b same))

other : (k j : ℕ) (b : Bool) → k ≢ j → ((j == k) && b) ≡ false
other k j b ne = ap (λ (x : Bool). x && b) (ne_eqb j k (λ is. ne (sym is)))

pub tested_held : (k j : ℕ) (b : Bool) (s t : Known) → TestsAndSets j b s t → Holds s.seen s.number k → Holds t.seen t.number k
tested_held k j true s t sees = held_past k 0 (Hold s.number j) s t sees refl
tested_held k j false s t sees = held_past k 0 (Busy s.number j) s t sees refl

pub queued_held : (k j tries : ℕ) (a : Answer) (s t : Known) → Answers j tries a s t → Holds s.seen s.number k → Holds t.seen t.number k
queued_held k j tries (answer.Queued first wakes) s t told = held_both k 0 j (Push s.number j) s t told.0 refl
queued_held k j tries answer.Pending s t told = held_past k 0 (Busy s.number j) s t told refl
queued_held k j tries answer.Closed s t told = held_both k 0 j (Back s.number j why.Closed) s t told refl
queued_held k j tries answer.Draining s t told = held_both k 0 j (Back s.number j why.Draining) s t told.0 refl
queued_held k j tries answer.Contended s t told = held_both k tries j (Back s.number j why.Contended) s t told refl

pub given_held : (k j n : ℕ) (why : Why) (s t : Known) → Sees (Back s.number j why ∷ []) n s t → k ≢ j → Holds s.seen s.number k → Holds t.seen t.number k
given_held k j n why s t sees ne = held_past k n (Back s.number j why) s t sees (other k j (s.number == s.number) ne)

pub posted_held : (k j tries : ℕ) (a : Posted) (s t : Known) → Posts j tries a s t → k ≢ j → Holds s.seen s.number k → Holds t.seen t.number k
posted_held k j tries (posted.Queued first wakes) s t told ne = held_past k 0 (Push s.number j) s t told.0 (other k j (s.number == s.number) ne)
posted_held k j tries posted.Closed s t told ne = given_held k j 0 why.Closed s t told ne
posted_held k j tries posted.Draining s t told ne = sees_held k 0 s t told.0
posted_held k j tries posted.Contended s t told ne = sees_held k tries s t told

-- what could not be pushed is held still
pub contended_held : (k tries : ℕ) (a : Posted) (s t : Known) → Posts k tries a s t → a ≡ posted.Contended → Holds s.seen s.number k → Holds t.seen t.number k
contended_held k tries posted.Contended s t told is = sees_held k tries s t told
contended_held k tries (posted.Queued first wakes) s t told is = absurd (cc)
contended_held k tries posted.Closed s t told is = absurd (cc)
contended_held k tries posted.Draining s t told is = sees_held k 0 s t told.0

pub draining_held : (k tries : ℕ) (a : Posted) (s t : Known) → Posts k tries a s t → a ≡ posted.Draining → Holds s.seen s.number k → Holds t.seen t.number k
draining_held k tries posted.Draining s t told is = sees_held k 0 s t told.0
draining_held k tries posted.Contended s t told is = sees_held k tries s t told
draining_held k tries (posted.Queued first wakes) s t told is = absurd (cc)
draining_held k tries posted.Closed s t told is = absurd (cc)

-- what is not held is not held later where the own events that come start no more holds of it than they stop
unheld_on : (k n : ℕ) (xs : List Event) (s t : Known) → Sees xs n s t
    → count_by (starts_hold s.number k) xs ≤ count_by (stops_hold s.number k) xs → ¬ Holds s.seen s.number k → ¬ Holds t.seen t.number k
unheld_on k n xs s t sees less none =
    let c = s.number in
    let starts = count_on (starts_hold c k) c (starts_own c k) xs n s.seen t.seen sees.grows in
    let stops = count_on (stops_hold c k) c (stops_own c k) xs n s.seen t.seen sees.grows in
    subst (λ (d : ℕ). ¬ Holds t.seen d k) (sym sees.same.number_is) (λ have. none (omega (arith, starts, stops, less, have)))

unheld_past : (k n : ℕ) (e : Event) (s t : Known) → Sees (e ∷ []) n s t → starts_hold s.number k e ≡ false → ¬ Holds s.seen s.number k
    → ¬ Holds t.seen t.number k
unheld_past k n e s t sees none = unheld_on k n (e ∷ []) s t sees (omega (arith, count_one (starts_hold s.number k) e false none))

unheld_both : (k n j : ℕ) (e : Event) (s t : Known) → Sees (Hold s.number j ∷ e ∷ []) n s t
    → stops_hold s.number k e ≡ starts_hold s.number k (Hold s.number j) → starts_hold s.number k e ≡ false → ¬ Holds s.seen s.number k
    → ¬ Holds t.seen t.number k
unheld_both k n j e s t sees same none =
    let c = s.number in let b = starts_hold c k (Hold c j) in
    let starts = sum_by-cons (λ x. cond (starts_hold c k x) 1 0) (Hold c j) (e ∷ []) in
    let stops = sum_by-cons (λ x. cond (stops_hold c k x) 1 0) (Hold c j) (e ∷ []) in
    unheld_on k n (Hold c j ∷ e ∷ []) s t sees
    (omega (arith, starts, stops, count_one (stops_hold c k) e b same, count_one (starts_hold c k) e false none))

pub seen_unheld : (k n : ℕ) (s t : Known) → Sees [] n s t → ¬ Holds s.seen s.number k → ¬ Holds t.seen t.number k
seen_unheld k n s t sees = unheld_on k n [] s t sees (omega arith)

pub queued_unheld : (k j tries : ℕ) (a : Answer) (s t : Known) → Answers j tries a s t → ¬ Holds s.seen s.number k → ¬ Holds t.seen t.number k
queued_unheld k j tries (answer.Queued first wakes) s t told = unheld_both k 0 j (Push s.number j) s t told.0 refl refl
queued_unheld k j tries answer.Pending s t told = unheld_past k 0 (Busy s.number j) s t told refl
queued_unheld k j tries answer.Closed s t told = unheld_both k 0 j (Back s.number j why.Closed) s t told refl refl
queued_unheld k j tries answer.Draining s t told = unheld_both k 0 j (Back s.number j why.Draining) s t told.0 refl refl
queued_unheld k j tries answer.Contended s t told = unheld_both k tries j (Back s.number j why.Contended) s t told refl refl

pub tested_unheld : (k j : ℕ) (b : Bool) (s t : Known) → TestsAndSets j b s t → k ≢ j → ¬ Holds s.seen s.number k → ¬ Holds t.seen t.number k
tested_unheld k j true s t sees ne = unheld_past k 0 (Hold s.number j) s t sees (other k j (s.number == s.number) ne)
tested_unheld k j false s t sees ne = unheld_past k 0 (Busy s.number j) s t sees refl

pub refused_unheld : (k j : ℕ) (s t : Known) → TestsAndSets j false s t → ¬ Holds s.seen s.number k → ¬ Holds t.seen t.number k
refused_unheld k j s t sees = unheld_past k 0 (Busy s.number j) s t sees refl

pub hold_refused : (k j : ℕ) (b : Bool) (s t : Known) → TestsAndSets j b s t → b ≡ false → ¬ Holds s.seen s.number k → ¬ Holds t.seen t.number k
hold_refused k j false s t sees is = refused_unheld k j s t sees
hold_refused k j true s t sees is = absurd (cc)

pub given_unheld : (k j n : ℕ) (why : Why) (s t : Known) → Sees (Back s.number j why ∷ []) n s t → ¬ Holds s.seen s.number k → ¬ Holds t.seen t.number k
given_unheld k j n why s t sees = unheld_past k n (Back s.number j why) s t sees refl

pub posted_unheld : (k j tries : ℕ) (a : Posted) (s t : Known) → Posts j tries a s t → ¬ Holds s.seen s.number k → ¬ Holds t.seen t.number k
posted_unheld k j tries (posted.Queued first wakes) s t told = unheld_past k 0 (Push s.number j) s t told.0 refl
posted_unheld k j tries posted.Closed s t told = given_unheld k j 0 why.Closed s t told
posted_unheld k j tries posted.Draining s t told = seen_unheld k 0 s t told.0
posted_unheld k j tries posted.Contended s t told = seen_unheld k tries s t told

-- a legal history holds a number at most once, so what is pushed or given back is held no longer
stopped : (k n : ℕ) (e : Event) (s t : Known) → Sees (e ∷ []) n s t → starts_hold s.number k e ≡ false → stops_hold s.number k e ≡ true
    → ¬ Holds t.seen t.number k
stopped k n e s t sees no_start stop =
    let c = s.number in let front = legal_front t.layout s.seen sees.grows.new (subst (IsLegal t.layout) sees.grows.is sees.legal) in
    let starts = count_on (starts_hold c k) c (starts_own c k) (e ∷ []) n s.seen t.seen sees.grows in
    let stops = count_on (stops_hold c k) c (stops_own c k) (e ∷ []) n s.seen t.seen sees.grows in
    let once = (kept t.layout s.seen front c k).0 in
    subst (λ (d : ℕ). ¬ Holds t.seen d k) (sym sees.same.number_is) (λ have. omega (
      arith,
      starts,
      stops,
      count_one (starts_hold c k) e false no_start,
      count_one (stops_hold c k) e true stop,
      once,
      held_once c (keeper s.seen k),
      have,
    ))

pushed_stops : (k tries : ℕ) (first wakes : Bool) (s t : Known) → Posts k tries (posted.Queued first wakes) s t → ¬ Holds t.seen t.number k
pushed_stops k tries first wakes s t told = stopped k 0 (Push s.number k) s t told.0 refl (λ i. eq-eqb k k refl i && eq-eqb s.number s.number refl i)

pub given_stops : (k n : ℕ) (why : Why) (s t : Known) → Sees (Back s.number k why ∷ []) n s t → ¬ Holds t.seen t.number k
given_stops k n why s t sees = stopped k n (Back s.number k why) s t sees refl (λ i. eq-eqb k k refl i && eq-eqb s.number s.number refl i)

pub posted_stops : (k tries : ℕ) (a : Posted) (s t : Known) → Posts k tries a s t → a ≢ posted.Contended → a ≢ posted.Draining
    → ¬ Holds t.seen t.number k
posted_stops k tries (posted.Queued first wakes) s t told lost drained = pushed_stops k tries first wakes s t told
posted_stops k tries posted.Closed s t told lost drained = given_stops k 0 why.Closed s t told
posted_stops k tries posted.Draining s t told lost drained = absurd (drained refl)
posted_stops k tries posted.Contended s t told lost drained = absurd (lost refl)

-- what a sender takes hold of it did not hold before
hold_unheld : (k n : ℕ) (more : List Event) (s t : Known) → Sees (Hold s.number k ∷ more) n s t → ¬ Holds s.seen s.number k
hold_unheld k n more s t sees =
    let c = s.number in let split = split_first c (Hold c k) more sees.grows.new sees.grows.mine in
    let upto = s.seen ++ (split.front ++ Hold c k ∷ []) in
    let in_row : s.seen ++ (split.front ++ Hold c k ∷ split.back) ≡ upto ++ split.back = simp append_assoc refl in
    let whole : t.seen ≡ upto ++ split.back = sees.grows.is ∙ (ap (λ (x : List Event). s.seen ++ x) split.is ∙ in_row) in
    let front = legal_front t.layout upto split.back (subst (IsLegal t.layout) whole sees.legal) in
    let grows : Grows c (Hold c k ∷ []) 0 s.seen upto = record {
      new = split.front ++ Hold c k ∷ [];
      is = refl;
      mine = own-append c split.front (Hold c k ∷ []) ∙ (λ i. split.none_before i ++ own_one c (Hold c k) refl i);
      theirs = omega arith;
    } in
    let starts = count_on (starts_hold c k) c (starts_own c k) (Hold c k ∷ []) 0 s.seen upto grows in
    let stops = count_on (stops_hold c k) c (stops_own c k) (Hold c k ∷ []) 0 s.seen upto grows in
    let once = (kept t.layout upto front c k).0 in
    λ have. omega (
      arith,
      starts,
      stops,
      count_one (starts_hold c k) (Hold c k) true (λ i. eq-eqb k k refl i && eq-eqb c c refl i),
      count_one (stops_hold c k) (Hold c k) false refl,
      once,
      held_once c (keeper upto k),
      have,
    )

pub queued_stops : (k tries : ℕ) (a : Answer) (s t : Known) → Answers k tries a s t → a ≢ answer.Pending → ¬ Holds t.seen t.number k
queued_stops k tries answer.Pending s t told held = absurd (held refl)
queued_stops k tries (answer.Queued first wakes) s t told held =
    queued_unheld k k tries (answer.Queued first wakes) s t told (hold_unheld k 0 (Push s.number k ∷ []) s t told.0)
queued_stops k tries answer.Closed s t told held =
    queued_unheld k k tries answer.Closed s t told (hold_unheld k 0 (Back s.number k why.Closed ∷ []) s t told)
queued_stops k tries answer.Draining s t told held =
    queued_unheld k k tries answer.Draining s t told (hold_unheld k 0 (Back s.number k why.Draining ∷ []) s t told.0)
queued_stops k tries answer.Contended s t told held =
    queued_unheld k k tries answer.Contended s t told (hold_unheld k tries (Back s.number k why.Contended ∷ []) s t told)
