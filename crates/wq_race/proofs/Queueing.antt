-- What a sender's thread adds.
use Rattle.wq_race.proofs.Common.{◌≡◌, ◌≢◌, ℕ, zero, suc, ◌+◌, ◌*◌, ◌-◌, ◌<◌, ◌≤◌, List, [], ◌∷◌, ◌++◌, length, refl, sym, ap, ◌∙◌, subst, arith}
use Rattle.wq_race.proofs.Common.{length-append, append_assoc, AllByRecursion, range_with_len, append-nil, Layout, Event, stop_number, Grows, Known, Sees}
use Rattle.wq_race.proofs.Common.{SendsOne}
use Rattle.wq_race.proofs.Common.{SendsAll, pushed, busy, refused, HasQueued, IsOfStop, tries_in_vain, HasStopped, IsStopAnswer, Hold, Back}
use Rattle.wq_words.specs.declared.answer.Answer.{Answer}
use Rattle.wq_words.specs.declared.answer.Answer.TheVariants as answer
use Rattle.wq_words.specs.declared.event.Why.TheVariants as why
use Rattle.wq_live.specs.Answers.{Answers}
use Rattle.wq_live.specs.Known.{IsSame}
use Rattle.wq_calls.proofs.Growing.{grows_on}
use Rattle.wq_calls.proofs.Sends.{same_none, same_on}
use Rattle.wq_words.proofs.Seen.{grows_none as grows_still}

one_queued : (k n : ℕ) (es : List Event) (old new : Known) → SendsOne old.number k es → Sees es n old new → HasQueued (k ∷ []) old new
one_queued k n es old new q s = record {
  same = s.same;
  events = es;
  queued = (es, [], sym (append-nil es), q, refl);
  grows = record { new = s.grows.new; is = s.grows.is; mine = s.grows.mine; theirs = omega arith };
}

pub queued_one : (k : ℕ) (a : Answer) (old new : Known) → Answers k 0 a old new → a ≢ answer.Contended → HasQueued (k ∷ []) old new
queued_one k (answer.Queued first wakes) old new h not = one_queued k 0 _ old new (pushed refl) h.0
queued_one k answer.Pending old new h not = one_queued k 0 _ old new (busy refl) h
queued_one k answer.Closed old new h not = one_queued k 0 _ old new (refused why.Closed tt refl) h
queued_one k answer.Contended old new h not = absurd (not refl)
queued_one k answer.Draining old new h not = one_queued k 0 _ old new (refused why.Draining tt refl) h.0

-- one number more
sends_push : (s : ℕ) (ks : List ℕ) (k : ℕ) (es fs : List Event) → SendsAll s ks es → SendsOne s k fs → SendsAll s (ks ++ k ∷ []) (es ++ fs)
sends_push s [] k es fs t q = (fs, [], ap (λ (z : List Event). z ++ fs) t ∙ sym (append-nil fs), q, refl)
sends_push s (j ∷ ks) k es fs t q =
    (t.0, t.1 ++ fs, ap (λ (z : List Event). z ++ fs) t.2 ∙ append_assoc t.0 t.1 fs, t.3, sends_push s ks k t.1 fs t.4 q)

pub queued_none : (a : Known) → HasQueued [] a a
queued_none a = record { same = same_none a; events = []; queued = refl; grows = grows_still a.number a.seen }

pub queued_more : (ks : List ℕ) (k : ℕ) (a b c : Known) → HasQueued ks a b → HasQueued (k ∷ []) b c → HasQueued (ks ++ k ∷ []) a c
queued_more ks k a b c x y =
    let fs = y.queued.0 in
    let all : y.events ≡ fs = y.queued.2 ∙ (ap (λ (z : List Event). fs ++ z) y.queued.4 ∙ append-nil fs) in
    let q : SendsOne a.number k y.events =
    subst (λ (z : List Event). SendsOne a.number k z) (sym all) (subst (λ (n : ℕ). SendsOne n k fs) x.same.number_is y.queued.3) in
    record {
      same = same_on a b c x.same y.same;
      events = x.events ++ y.events;
      queued = sends_push a.number ks k x.events y.events x.queued q;
      grows = grows_on a.number x.events y.events 0 0 0 a.seen b.seen c.seen (omega arith) x.grows
          (subst (λ (n : ℕ). Grows n y.events 0 b.seen c.seen) x.same.number_is y.grows);
    }

range-more : (a n : ℕ) → range_with_len a (suc n) ≡ range_with_len a n ++ (a + n) ∷ []
range-more a zero = let none : a ≡ a + 0 = omega arith in ap (λ (k : ℕ). k ∷ []) none
range-more a (suc n) = let next : (a + 1) + n ≡ a + suc n = omega arith in
    ap (λ (ks : List ℕ). a ∷ ks) (range-more (a + 1) n ∙ ap (λ (k : ℕ). range_with_len (a + 1) n ++ k ∷ []) next)

pub range-last : (a n : ℕ) → range_with_len a (n + 1) ≡ range_with_len a n ++ (a + n) ∷ []
range-last a n = let next : n + 1 ≡ suc n = omega arith in ap (range_with_len a) next ∙ range-more a n

pub queued_next : (first item : ℕ) (a b c : Known) → first ≤ item → HasQueued (range_with_len first (item - first)) a b → HasQueued (item ∷ []) b c
    → HasQueued (range_with_len first (item + 1 - first)) a c
queued_next first item a b c le x y =
    let more : item + 1 - first ≡ (item - first) + 1 = omega (arith, le) in
    let last : first + (item - first) ≡ item = omega (arith, le) in
    subst (λ (ks : List ℕ). HasQueued ks a c) (sym (ap (range_with_len first) more
    ∙ (range-last first (item - first) ∙ ap (λ (k : ℕ). range_with_len first (item - first) ++ k ∷ []) last)))
    (queued_more (range_with_len first (item - first)) item a b c x y)

-- the stop item
stopped_by : (n : ℕ) (es : List Event) (old new : Known) → AllByRecursion (IsOfStop old.layout) es → length es ≤ 2 → Sees es n old new → HasStopped 2 old new
stopped_by n es old new all few s = record {
  same = s.same;
  events = es;
  of_stop = all;
  few_events = few;
  grows = record { new = s.grows.new; is = s.grows.is; mine = s.grows.mine; theirs = omega arith };
}

stopped_one : (tries : ℕ) (a : Answer) (old new : Known) → Answers (stop_number old.layout) tries a old new → HasStopped 2 old new
stopped_one tries (answer.Queued first wakes) old new h = stopped_by 0 _ old new (refl, (refl, tt)) (omega arith) h.0
stopped_one tries answer.Pending old new h = stopped_by 0 _ old new (refl, tt) (omega arith) h
stopped_one tries answer.Closed old new h = stopped_by 0 _ old new (refl, (refl, tt)) (omega arith) h
stopped_one tries answer.Contended old new h = stopped_by tries _ old new (refl, (refl, tt)) (omega arith) h
stopped_one tries answer.Draining old new h = stopped_by 0 _ old new (refl, (refl, tt)) (omega arith) h.0

stopped_none : (a : Known) → HasStopped 0 a a
stopped_none a = record { same = same_none a; events = []; of_stop = tt; few_events = omega arith; grows = grows_still a.number a.seen }

all_both : (P : Event → Type 0) (xs ys : List Event) → AllByRecursion P xs → AllByRecursion P ys → AllByRecursion P (xs ++ ys)
all_both P [] ys a b = b
all_both P (x ∷ xs) ys a b = (a.0, all_both P xs ys a.1 b)

stopped_more : (m n : ℕ) (a b c : Known) → m + 2 ≤ n → HasStopped m a b → HasStopped 2 b c → HasStopped n a c
stopped_more m n a b c le x y = record {
  same = same_on a b c x.same y.same;
  events = x.events ++ y.events;
  of_stop = all_both (IsOfStop a.layout) x.events y.events x.of_stop (subst (λ (l : Layout). AllByRecursion (IsOfStop l) y.events) x.same.layout_is y.of_stop);
  few_events = omega (arith, le, length-append x.events y.events, x.few_events, y.few_events);
  grows = grows_on a.number x.events y.events 0 0 0 a.seen b.seen c.seen (omega arith) x.grows
      (subst (λ (n : ℕ). Grows n y.events 0 b.seen c.seen) x.same.number_is y.grows);
}

-- so many tries, all in vain
pub record IsInVain (n : ℕ) (old new : Known) : Type 0 where
  pub same : IsSame old new
  pub before : Grows old.number (tries_in_vain n old.number (stop_number old.layout)) (n * 4294967295) old.seen new.seen
  pub stopped : HasStopped (2 * n) old new

pub vain_none : (a : Known) → IsInVain 0 a a
vain_none a = record { same = same_none a; before = grows_still a.number a.seen; stopped = stopped_none a }

vain-last : (n s k : ℕ) → tries_in_vain (n + 1) s k ≡ tries_in_vain n s k ++ Hold s k ∷ Back s k why.Contended ∷ []
vain-last zero s k = refl
vain-last (suc n) s k = let next : suc n + 1 ≡ suc (n + 1) = omega arith in
    ap (λ (m : ℕ). tries_in_vain m s k) next ∙ ap (λ (es : List Event). Hold s k ∷ Back s k why.Contended ∷ es) (vain-last n s k)

-- one more try, in vain
pub vain_more : (n : ℕ) (r : Answer) (a b c : Known) → r ≡ answer.Contended → IsInVain n a b → Answers (stop_number b.layout) 4294967295 r b c
    → IsInVain (n + 1) a c
vain_more n r a b c is x y =
    let k = stop_number a.layout in let s = a.number in
    let one : Sees (Hold b.number (stop_number b.layout) ∷ Back b.number (stop_number b.layout) why.Contended ∷ []) 4294967295 b c = subst
    (λ (r : Answer). Answers (stop_number b.layout) 4294967295 r b c) is y in
    let last : Grows s (Hold s k ∷ Back s k why.Contended ∷ []) 4294967295 b.seen c.seen = subst
    (λ (l : Layout). Grows s (Hold s (stop_number l) ∷ Back s (stop_number l) why.Contended ∷ []) 4294967295 b.seen c.seen) x.same.layout_is
    (subst (λ (t : ℕ). Grows t (Hold t (stop_number b.layout) ∷ Back t (stop_number b.layout) why.Contended ∷ []) 4294967295 b.seen c.seen) x.same.number_is
    one.grows) in
    record {
      same = same_on a b c x.same one.same;
      before = subst (λ (es : List Event). Grows s es ((n + 1) * 4294967295) a.seen c.seen) (sym (vain-last n s k))
          (grows_on s (tries_in_vain n s k) (Hold s k ∷ Back s k why.Contended ∷ []) (n * 4294967295) 4294967295 ((n + 1) * 4294967295) a.seen b.seen c.seen
          (omega arith) x.before last);
      stopped = stopped_more (2 * n) (2 * (n + 1)) a b c (omega arith) x.stopped (stopped_one 4294967295 r b c y);
    }

-- the last try
pub last_stopped : (n : ℕ) (r : Answer) (a b c : Known) → n < 4294967296 → IsInVain n a b → Answers (stop_number b.layout) 4294967295 r b c
    → HasStopped 8589934592 a c
last_stopped n r a b c lt x y = stopped_more (2 * n) 8589934592 a b c (omega (arith, lt)) x.stopped (stopped_one 4294967295 r b c y)

pub last_answer : (n : ℕ) (r : Answer) (a b c : Known) → n < 4294967296 → IsInVain n a b → Answers (stop_number b.layout) 4294967295 r b c
    → IsStopAnswer r a c
last_answer n r a b c lt x y = record {
  tries = n;
  few_tries = lt;
  between = b;
  same = x.same;
  before = x.before;
  last = subst (λ (l : Layout). Answers (stop_number l) 4294967295 r b c) x.same.layout_is y;
}
