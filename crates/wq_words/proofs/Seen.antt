-- Lists of events, and those of one seat among them.
use Rattle.wq_words.proofs.Common.{◌≡◌, ℕ, ◌≢◌, Bool, true, false, cond, not, eqb, ◌==◌, List, [], ◌∷◌, ◌++◌, length, Option, Some, None, sym, refl, ap, ◌∙◌}
use Rattle.wq_words.proofs.Common.{arith, append_assoc, eq-eqb, ne_eqb, count_by, filter, filter_map, ◌||◌, append-nil, sum_by-cons, filter-append}
use Rattle.wq_words.proofs.Common.{IsPrefix, Event, Hold, Push, Back, Close, Begin, End, Holds, starts_hold, stops_hold, is_close, IsClosed, begun_by}
use Rattle.wq_words.proofs.Common.{ended_by, begun, ended, IsRunning, owner_seat, seat_of, own, others, is_ours, Grows, if◌then◌else◌}
use Rattle.wq_words.proofs.Prefixes.{left_nil, nothing_more}
use Rattle.std.proofs.lemmas.Bool.{and_right, or_parts}

module _ {A : Type 0} (p q : A → Bool) (only : (x : A) → q x ≡ false → p x ≡ false) where
  keep_step : (b : Bool) (x : A) (ys xs : List A) → (b ≡ false → p x ≡ false) → filter p ys ≡ filter p xs
      → filter p (cond b (x ∷ ys) ys) ≡ cond (p x) (x ∷ filter p xs) (filter p xs)
  keep_step true x ys xs unless go = ap (λ (zs : List A). cond (p x) (x ∷ zs) zs) go
  keep_step false x ys xs unless go = go ∙ sym (ap (λ (b : Bool). cond b (x ∷ filter p xs) (filter p xs)) (unless refl))

  -- what the second test passes over the first does too
  pub filter-filter : (xs : List A) → filter p (filter q xs) ≡ filter p xs
  filter-filter [] = refl
  filter-filter (x ∷ xs) = keep_step (q x) x (filter q xs) xs (only x) (filter-filter xs)

pub own-own : (c : ℕ) (h : List Event) → own c (own c h) ≡ own c h
own-own c h = filter-filter (λ e. seat_of e == c) (λ e. seat_of e == c) (λ e none. none) h

pub own-append : (c : ℕ) (a b : List Event) → own c (a ++ b) ≡ own c a ++ own c b
own-append c a b = filter-append (λ e. eqb (seat_of e) c) a b

pub others-append : (c : ℕ) (a b : List Event) → others c (a ++ b) ≡ others c a ++ others c b
others-append c a b = filter-append (λ e. not (eqb (seat_of e) c)) a b

pub own_one : (c : ℕ) (e : Event) → seat_of e ≡ c → own c (e ∷ []) ≡ e ∷ []
own_one c e is = ap (λ (b : Bool). cond b (e ∷ []) []) (eq-eqb (seat_of e) c is)

-- an event is of no other seat
pub own_none : (c : ℕ) (e : Event) → seat_of e ≡ c → (d : ℕ) → d ≢ c → own d (e ∷ []) ≡ []
own_none c e is d ne = ap (λ (b : Bool). cond b (e ∷ []) []) (ne_eqb (seat_of e) d (λ same. ne (sym same ∙ is)))

-- where no event of the seat came new, its events are the same
pub own_same : (c : ℕ) (h new : List Event) → own c new ≡ [] → own c (h ++ new) ≡ own c h
own_same c h new none = own-append c h new ∙ (ap (λ (x : List Event). own c h ++ x) none ∙ append-nil (own c h))

pub own_more : (c : ℕ) (v new w : List Event) → w ≡ v ++ new → own c new ≡ [] → own c w ≡ own c v
own_more c v new w is none = ap (own c) is ∙ own_same c v new none

cond_nil : {A : Type 0} (b : Bool) (x : A) (xs : List A) → cond b (x ∷ xs) xs ≡ [] → xs ≡ []
cond_nil true x xs is = absurd (cc)
cond_nil false x xs is = is

-- no event of the seat stands behind the first, where there is none at all
pub own_rest : (c : ℕ) (e : Event) (es : List Event) → own c (e ∷ es) ≡ [] → own c es ≡ []
own_rest c e es is = cond_nil (eqb (seat_of e) c) e (own c es) is

-- the seat by which a worker queues, the owner's where the queue is shut, is one of its two
pub queueing_ours : (s : ℕ) (is_shut : Bool) (e : Event) → is_ours s e ≡ false → (seat_of e == (if is_shut then owner_seat else s)) ≡ false
queueing_ours s true e none = (or_parts (seat_of e == s) (seat_of e == owner_seat) none).1
queueing_ours s false e none = (or_parts (seat_of e == s) (seat_of e == owner_seat) none).0

-- a sender's and the owner's seat, where neither made an event
pub none_of : (s : ℕ) (es : List Event) → filter (is_ours s) es ≡ [] → (own s es ≡ []) × (own owner_seat es ≡ [])
none_of s [] is = (refl, refl)
none_of s (e ∷ es) is = each (seat_of e == s) (seat_of e == owner_seat) (none_of s es) is
  where
    each : (a b : Bool) → (filter (is_ours s) es ≡ [] → (own s es ≡ []) × (own owner_seat es ≡ []))
        → cond (a || b) (e ∷ filter (is_ours s) es) (filter (is_ours s) es) ≡ []
        → (cond a (e ∷ own s es) (own s es) ≡ []) × (cond b (e ∷ own owner_seat es) (own owner_seat es) ≡ [])
    each true b go is = absurd (cc)
    each false true go is = absurd (cc)
    each false false go is = go is

-- what came new since the seat's last event has none of it
pub none_new : (c : ℕ) (seen new h : List Event) → seen ++ new ≡ h → own c h ≡ own c seen → own c new ≡ []
none_new c seen new h is mine = nothing_more (own c seen) (own c new) (sym (own-append c seen new) ∙ (ap (own c) is ∙ mine))

-- what stood between two histories of which the seat made no event
pub own_between : (c : ℕ) (h z w : List Event) → IsPrefix h z → IsPrefix z w → own c w ≡ own c h → own c z ≡ own c h
own_between c h z w a b same =
    let none : own c (a.0 ++ b.0) ≡ [] =
    none_new c h (a.0 ++ b.0) w (sym (append_assoc h a.0 b.0) ∙ (ap (λ (x : List Event). x ++ b.0) a.1 ∙ b.1)) same in
    own_more c h a.0 z (sym a.1) (left_nil (own c a.0) (own c b.0) (sym (own-append c a.0 b.0) ∙ none))

-- where nothing happened nothing comes new
pub grows_none : (c : ℕ) (v : List Event) → Grows c [] 0 v v
grows_none c v = record { new = []; is = sym (append-nil v); mine = refl; theirs = omega arith }

pub grows_begins : (c : ℕ) (xs : List Event) (n : ℕ) (v w : List Event) → Grows c xs n v w → IsPrefix v w
grows_begins c xs n v w g = (g.new, sym g.is)

pub grows_same : (c n : ℕ) (v w : List Event) → Grows c [] n v w → own c w ≡ own c v
grows_same c n v w g = own_more c v g.new w g.is g.mine

count_kept : (p : Event → Bool) (b : Bool) (e : Event) (es : List Event) (c : ℕ) → (b ≡ false → p e ≡ false) → count_by p es ≡ count_by p (own c es)
    → count_by p (e ∷ es) ≡ count_by p (cond b (e ∷ own c es) (own c es))
count_kept p true e es c none rest =
    let a = sum_by-cons (λ x. cond (p x) 1 0) e es in let b = sum_by-cons (λ x. cond (p x) 1 0) e (own c es) in omega (arith, rest)
count_kept p false e es c none rest =
    let a = sum_by-cons (λ x. cond (p x) 1 0) e es in let z : cond {A = ℕ} (p e) 1 0 ≡ 0 = ap (λ (b : Bool). cond b 1 0) (none refl) in omega (arith, rest)

-- events that are all of one seat are counted among its own
pub count_own : (p : Event → Bool) (c : ℕ) → ((e : Event) → eqb (seat_of e) c ≡ false → p e ≡ false) → (h : List Event) → count_by p h ≡ count_by p (own c h)
count_own p c none [] = refl
count_own p c none (e ∷ es) = count_kept p (eqb (seat_of e) c) e es c (none e) (count_own p c none es)

-- a count of one seat's events is the same wherever its events are
pub count_same : (p : Event → Bool) (c : ℕ) → ((e : Event) → eqb (seat_of e) c ≡ false → p e ≡ false) → (v w : List Event) → own c w ≡ own c v
    → count_by p w ≡ count_by p v
count_same p c only v w same = count_own p c only w ∙ (ap (count_by p) same ∙ sym (count_own p c only v))

pub starts_own : (s k : ℕ) (e : Event) → eqb (seat_of e) s ≡ false → starts_hold s k e ≡ false
starts_own s k (Hold t j) is = and_right (eqb j k) (eqb t s) is
starts_own s k _ is = refl

pub stops_own : (s k : ℕ) (e : Event) → eqb (seat_of e) s ≡ false → stops_hold s k e ≡ false
stops_own s k (Push t j) is = and_right (eqb j k) (eqb t s) is
stops_own s k (Back t j why) is = and_right (eqb j k) (eqb t s) is
stops_own s k _ is = refl

-- who has the same own events holds the same
pub held_same : (s k : ℕ) (v w : List Event) → own s w ≡ own s v → Holds v s k → Holds w s k
held_same s k v w is have =
    let a = count_same (starts_hold s k) s (starts_own s k) v w is in let b = count_same (stops_hold s k) s (stops_own s k) v w is in omega arith

pub close_own : (e : Event) → eqb (seat_of e) owner_seat ≡ false → is_close e ≡ false
close_own Close is = is
close_own _ is = refl

pub closed_count : (v w : List Event) → own owner_seat w ≡ own owner_seat v → count_by is_close w ≡ count_by is_close v
closed_count v w is = count_same is_close owner_seat close_own v w is

pub closed_same : (v w : List Event) → own owner_seat w ≡ own owner_seat v → IsClosed v → IsClosed w
closed_same v w is have = let a = closed_count v w is in omega arith

map_kept : (f : Event → Option ℕ) (o : Option ℕ) (b : Bool) (e : Event) (es : List Event) → f e ≡ o → (b ≡ false → o ≡ None)
    → filter_map f es ≡ filter_map f (own owner_seat es)
    → filter_map f (e ∷ es) ≡ filter_map f (cond b (e ∷ own owner_seat es) (own owner_seat es))
map_kept f None true e es is none rest = rw is rest
map_kept f (Some k) true e es is none rest = rw is (ap (λ (x : List ℕ). k ∷ x) rest)
map_kept f None false e es is none rest = rw is rest
map_kept f (Some k) false e es is none rest = absurd (cc (none refl))

pub map_own : (f : Event → Option ℕ) → ((e : Event) → eqb (seat_of e) owner_seat ≡ false → f e ≡ None) → (h : List Event)
    → filter_map f h ≡ filter_map f (own owner_seat h)
map_own f none [] = refl
map_own f none (e ∷ es) = map_kept f (f e) (eqb (seat_of e) owner_seat) e es refl (none e) (map_own f none es)

pub begun_own : (e : Event) → eqb (seat_of e) owner_seat ≡ false → begun_by e ≡ None
begun_own (Begin k) is = absurd (cc is)
begun_own _ is = refl

pub ended_own : (e : Event) → eqb (seat_of e) owner_seat ≡ false → ended_by e ≡ None
ended_own (End k) is = absurd (cc is)
ended_own _ is = refl

-- the owner's events say what has begun and ended
pub begun_same : (v w : List Event) → own owner_seat w ≡ own owner_seat v → begun w ≡ begun v
begun_same v w is = map_own begun_by begun_own w ∙ (ap (filter_map begun_by) is ∙ sym (map_own begun_by begun_own v))

pub ended_same : (v w : List Event) → own owner_seat w ≡ own owner_seat v → ended w ≡ ended v
ended_same v w is = map_own ended_by ended_own w ∙ (ap (filter_map ended_by) is ∙ sym (map_own ended_by ended_own v))

pub running_same : (v w : List Event) → own owner_seat w ≡ own owner_seat v → IsRunning v → IsRunning w
running_same v w is runs = let a = ap (λ (x : List ℕ). length x) (begun_same v w is) in let b = ap (λ (x : List ℕ). length x) (ended_same v w is) in omega arith
