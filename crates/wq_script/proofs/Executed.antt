-- An execution of a worker where no other seat steps is that of a script.
use Rattle.wq_script.proofs.Common.{◌≡◌, ℕ, suc, ◌-◌, ◌<◌, ◌≤◌, Bool, true, false, not, ◌&&◌, ◌||◌, ◌==◌, List, [], ◌∷◌, ◌++◌, Option, Some, None, length}
use Rattle.wq_script.proofs.Common.{take, fold, inl, inr, refl, sym, ap, ◌∙◌, subst, arith, append_assoc, nat_le, if◌then◌else◌, All, filter}
use Rattle.wq_script.proofs.Common.{slice_get, before_last, append-nil, append_cancel_left, length-drop, length-take, filter-append, slice_get_within}
use Rattle.wq_script.proofs.Common.{slice_get_cases, slice_get_past, le-leb, lt-leb, false≢true, IsPrefix, ArrayVec, Layout, Event, Hold, Busy, Push, Back}
use Rattle.wq_script.proofs.Common.{Take, Close, Drain, Resume, Begin, End, Chain, ChainBusy, Rest, accepted, begun, next, taken, shut, is_cut, own_same}
use Rattle.wq_script.proofs.Common.{IsLegal}
use Rattle.wq_script.proofs.Common.{legal_next, legal_front, owner_seat, seat_of, own, is_ours, left_nil, own-append, own_one, own_rest, begun_same}
use Rattle.wq_script.proofs.Common.{drop, length-append, batch, next_of, Adds, taking, taking_of, NothingWaits, at_take, at_all, Queues, Follows, passed}
use Rattle.wq_script.proofs.Common.{pushed, busy}
use Rattle.wq_script.proofs.Common.{chained, chain_busy, queue_events, chain_events, follow_of, take_events, follow_events, after_follow, after_run}
use Rattle.wq_script.proofs.Common.{after_execution, accepted-append, begun-append, Quiet}
use Rattle.std.proofs.lemmas.List.{take-append-drop}
use Rattle.wq_words.proofs.Lasts.{before_last_push_yes, before_last_push_no}
use Rattle.wq_words.proofs.Listed.{taken_open}
use Rattle.wq_words.proofs.ShutOwn.{shut_same}
use Rattle.wq_words.proofs.Alone.{all_ours}
use Rattle.wq_script.proofs.Queueings.{busy_events, push_events, not_pending, is_pending, last_own}
use Rattle.wq_words.proofs.Closed.{shut_from_open, open_from_shut, shut_quiet}
use Rattle.wq_meaning.proofs.Drains.{no_take}
use Rattle.wq_calls.proofs.Reading.{empty_from_next}

-- what the worker added, where it was quiet
pub exact : (wide : Layout) (n : ℕ) (h v z xs : List Event) (m : ℕ) → Quiet wide n h z → Adds n xs m h v → IsPrefix v z
    → (v ≡ h ++ xs) × (m ≡ 0) × IsLegal wide v
exact wide n h v z xs m quiet adds begins =
    let whole : h ++ quiet.rest ≡ h ++ (adds.new ++ begins.0) = sym quiet.is
    ∙ (sym begins.1 ∙ (ap (λ (x : List Event). x ++ begins.0) adds.is ∙ append_assoc h adds.new begins.0)) in
    let parts : quiet.rest ≡ adds.new ++ begins.0 = append_cancel_left h quiet.rest (adds.new ++ begins.0) whole in
    let theirs : List Event → List Event = λ es. filter (λ e. not (is_ours n e)) es in
    let none : theirs adds.new ≡ [] =
    left_nil (theirs adds.new) (theirs begins.0) (sym (filter-append (λ e. not (is_ours n e)) adds.new begins.0) ∙ (ap theirs (sym parts) ∙ quiet.none)) in
    let all : filter (is_ours n) adds.new ≡ adds.new = all_ours wide (λ c. (c == n) || (c == owner_seat)) adds.new none in (
      adds.is ∙ ap (λ (x : List Event). h ++ x) (sym all ∙ adds.ours),
      omega (arith, adds.theirs, ap length none),
      legal_front wide v begins.0 (subst (λ (x : List Event). IsLegal wide x) (sym begins.1) quiet.legal),
    )

-- a take changes neither what is accepted nor what has begun
next_taken : (b : Bool) (h : List Event) → next (h ++ (if b then Take ∷ [] else [])) ≡ next h
next_taken true h = λ i. slice_get ((accepted-append h (Take ∷ []) ∙ append-nil (accepted h)) i)
    (length ((begun-append h (Take ∷ []) ∙ append-nil (begun h)) i))
next_taken false h = ap next (append-nil h)

-- what begins a history accepted no more
accepted_few : (n : ℕ) (h : List Event) → length (accepted (take n h)) ≤ length (accepted h)
accepted_few n h = omega (
  arith,
  ap (λ (x : List Event). length (accepted x)) (take-append-drop n h),
  ap length (accepted-append (take n h) (drop n h)),
  length-append (accepted (take n h)) (accepted (drop n h)),
)

taken_few : (h : List Event) → taken h ≤ length (accepted h)
taken_few h = each (shut h)
  where
    each : (b : Bool) → length (accepted (if b then h else before_last is_cut h)) ≤ length (accepted h)
    each true = omega arith
    each false = accepted_few _ h

batch_length : (h : List Event) → length (batch h) ≡ taken h - length (begun h)
batch_length h = length-drop (length (begun h)) (take (taken h) (accepted h)) ∙ omega (arith, length-take (taken h) (accepted h), taken_few h)

-- a take comes where a script has one
pub taking_is : (h : List Event) → taking h ≡ take_events h
taking_is h = each (next_of h) (shut h) refl
  where
    each : (o : Option ℕ) (b : Bool) → next_of h ≡ o → taking_of o b ≡ (if (nat_le (taken h) (length (begun h)) && not b) then Take ∷ [] else [])
    each None true is = sym (no_take (nat_le (taken h) (length (begun h))))
    each (Some k) true is = sym (no_take (nat_le (taken h) (length (begun h))))
    each None false is =
        let none : length (batch h) ≡ 0 = ap (λ (ks : List ℕ). length ks) (empty_from_next h is) in
        let le : nat_le (taken h) (length (begun h)) ≡ true = le-leb (taken h) (length (begun h)) (omega (arith, none, batch_length h)) in
        sym (ap (λ (x : Bool). if (x && not false) then Take ∷ [] else []) le)
    each (Some k) false is =
        let some : 0 < length (batch h) = slice_get_within (batch h) 0 k is in
        let gt : nat_le (taken h) (length (begun h)) ≡ false = lt-leb (taken h) (length (begun h)) (omega (arith, some, batch_length h)) in
        sym (ap (λ (x : Bool). if (x && not false) then Take ∷ [] else []) gt)

module _ (wide : Layout) (n : ℕ) where
  chain_new : (k : ℕ) (g : List Event) → IsLegal wide (g ++ Chain k ∷ []) → Chain k ∷ [] ≡ chain_events k g
  chain_new k g legal = sym (ap (λ (b : Bool). if b then ChainBusy k ∷ [] else Chain k ∷ []) (not_pending g k (legal_next wide g (Chain k) [] legal).2.2))

  chain_again : (k : ℕ) (g : List Event) → IsLegal wide (g ++ ChainBusy k ∷ []) → ChainBusy k ∷ [] ≡ chain_events k g
  chain_again k g legal = sym (ap (λ (b : Bool). if b then ChainBusy k ∷ [] else Chain k ∷ []) (is_pending g k (legal_next wide g (ChainBusy k) [] legal).2.2))

  open_events : (k : ℕ) (g : List Event) → shut g ≡ false → queue_events n k g ≡ follow_events n k g
  open_events k g is = sym (ap (λ (b : Bool). if b then chain_events k g else queue_events n k g) is)

  shut_events : (k : ℕ) (g : List Event) → shut g ≡ true → chain_events k g ≡ follow_events n k g
  shut_events k g is = sym (ap (λ (b : Bool). if b then chain_events k g else queue_events n k g) is)

  held_pushed : (g : List Event) (k : ℕ) → shut (g ++ Hold n k ∷ Push n k ∷ []) ≡ shut g
  held_pushed g k = ap shut (sym (append_assoc g (Hold n k ∷ []) (Push n k ∷ [])))
      ∙ (shut_quiet (g ++ Hold n k ∷ []) (Push n k) refl refl refl ∙ shut_quiet g (Hold n k) refl refl refl)

  -- the queueing of one follow item
  followed : (c : Bool) (k : ℕ) (g fs : List Event) → k < wide.items → shut g ≡ c → IsLegal wide (g ++ fs) → Queues wide.items n c k fs
      → (fs ≡ follow_events n k g) × (shut (g ++ fs) ≡ c)
  followed c k g fs lt is legal (passed le none) = absurd (omega (arith, lt, le))
  followed c k g fs lt is legal (pushed less so es) =
      let l : IsLegal wide (g ++ Hold n k ∷ Push n k ∷ []) = subst (λ (x : List Event). IsLegal wide (g ++ x)) es legal in (
        es ∙ ((push_events wide g n k l).2 ∙ open_events k g (is ∙ so)),
        ap (λ (x : List Event). shut (g ++ x)) es ∙ (held_pushed g k ∙ is),
      )
  followed c k g fs lt is legal (busy less so es) =
      let l : IsLegal wide (g ++ Busy n k ∷ []) = subst (λ (x : List Event). IsLegal wide (g ++ x)) es legal in
      let still : shut (g ++ Busy n k ∷ []) ≡ shut g = shut_quiet g (Busy n k) refl refl refl in
      (es ∙ ((busy_events wide g n k l).1 ∙ open_events k g (is ∙ so)), ap (λ (x : List Event). shut (g ++ x)) es ∙ (still ∙ is))
  followed c k g fs lt is legal (chained less so es) =
      let l : IsLegal wide (g ++ Chain k ∷ []) = subst (λ (x : List Event). IsLegal wide (g ++ x)) es legal in
      (es ∙ (chain_new k g l ∙ shut_events k g (is ∙ so)), ap (λ (x : List Event). shut (g ++ x)) es ∙ (shut_quiet g (Chain k) refl refl refl ∙ is))
  followed c k g fs lt is legal (chain_busy less so es) =
      let l : IsLegal wide (g ++ ChainBusy k ∷ []) = subst (λ (x : List Event). IsLegal wide (g ++ x)) es legal in
      (es ∙ (chain_again k g l ∙ shut_events k g (is ∙ so)), ap (λ (x : List Event). shut (g ++ x)) es ∙ (shut_quiet g (ChainBusy k) refl refl refl ∙ is))

  -- the queueings of a list of items
  pub followed_all : (c : Bool) (ks : List ℕ) (g es : List Event) → All (λ j. j < wide.items) ks → shut g ≡ c → IsLegal wide (g ++ es)
      → Follows wide.items n c ks es → g ++ es ≡ fold (after_follow n) g ks
  followed_all c [] g es fit is legal none = ap (λ (x : List Event). g ++ x) none ∙ append-nil g
  followed_all c (k ∷ ks) g es fit is legal told =
      let fs : List Event = told.0 in let gs : List Event = told.1 in
      let whole : g ++ es ≡ (g ++ fs) ++ gs = ap (λ (x : List Event). g ++ x) told.2 ∙ sym (append_assoc g fs gs) in
      let l : IsLegal wide ((g ++ fs) ++ gs) = subst (λ (x : List Event). IsLegal wide x) whole legal in
      let one = followed c k g fs (fit 0 k (omega arith)) is (legal_front wide (g ++ fs) gs l) told.3 in
      whole ∙ (followed_all c ks (g ++ fs) gs (λ i d lt. fit (suc i) d (omega (arith, lt))) one.1 l told.4
      ∙ ap (λ (x : List Event). fold (after_follow n) (g ++ x) ks) one.0)

  -- what begins is next
  pub begins_next : (h : List Event) (k : ℕ) (rest : List Event) → IsLegal wide ((h ++ taking h) ++ Begin k ∷ rest) → Some k ≡ next h
  begins_next h k rest legal =
      let b : Bool = nat_le (taken h) (length (begun h)) && not (shut h) in
      sym (legal_next wide (h ++ taking h) (Begin k) rest legal).2.1 ∙ (ap (λ (x : List Event). next (h ++ x)) (taking_is h) ∙ next_taken b h)

  -- a whole execution
  pub executed : (follows : List (ArrayVec ℕ)) (h : List Event) (k : ℕ) (f : List ℕ) (fs : List Event) → f ≡ follow_of follows k → All (λ j. j < wide.items) f
      → Follows wide.items n (shut h) f fs → IsLegal wide (h ++ ((taking h ++ Begin k ∷ []) ++ (fs ++ End k ∷ [])))
      → (Some k ≡ next h) × (h ++ ((taking h ++ Begin k ∷ []) ++ (fs ++ End k ∷ [])) ≡ after_execution n follows h)
  executed follows h k f fs answers fit told legal =
      let g : List Event = (h ++ taking h) ++ Begin k ∷ [] in
      let whole : h ++ ((taking h ++ Begin k ∷ []) ++ (fs ++ End k ∷ [])) ≡ (g ++ fs) ++ End k ∷ [] =
      sym (append_assoc h (taking h ++ Begin k ∷ []) (fs ++ End k ∷ []))
      ∙ (ap (λ (x : List Event). x ++ (fs ++ End k ∷ [])) (sym (append_assoc h (taking h) (Begin k ∷ []))) ∙ sym (append_assoc g fs (End k ∷ []))) in
      let l : IsLegal wide ((g ++ fs) ++ End k ∷ []) = subst (λ (x : List Event). IsLegal wide x) whole legal in
      let begun_then : IsLegal wide ((h ++ taking h) ++ Begin k ∷ (fs ++ End k ∷ [])) =
      subst (λ (x : List Event). IsLegal wide x) (append_assoc g fs (End k ∷ []) ∙ append_assoc (h ++ taking h) (Begin k ∷ []) (fs ++ End k ∷ [])) l in
      let is : Some k ≡ next h = begins_next h k (fs ++ End k ∷ []) begun_then in
      let is_shut : shut g ≡ shut h = shut_quiet (h ++ taking h) (Begin k) refl refl refl ∙ shut_taking h in
      let all : g ++ fs ≡ fold (after_follow n) g f = followed_all (shut h) f g fs fit is_shut (legal_front wide (g ++ fs) (End k ∷ []) l) told in
      let start : g ≡ (h ++ take_events h) ++ Begin k ∷ [] = ap (λ (x : List Event). (h ++ x) ++ Begin k ∷ []) (taking_is h) in (
        is,
        whole ∙ (ap (λ (x : List Event). x ++ End k ∷ []) (all ∙ ((λ i. fold (after_follow n) (start i) (answers i))))
            ∙ ap (after_run n follows (h ++ take_events h)) is),
      )
    where
      shut_taking : (h : List Event) → shut (h ++ taking h) ≡ shut h
      shut_taking h = ap (λ (x : List Event). shut (h ++ x)) (taking_is h) ∙ each (nat_le (taken h) (length (begun h)) && not (shut h))
        where
          each : (b : Bool) → shut (h ++ (if b then Take ∷ [] else [])) ≡ shut h
          each true = shut_quiet h Take refl refl refl
          each false = ap shut (append-nil h)

is_cut_own : (e : Event) → is_cut e ≡ true → seat_of e ≡ owner_seat
is_cut_own Take is = refl
is_cut_own Drain is = refl
is_cut_own Resume is = refl
is_cut_own (Hold s k) is = absurd (false≢true is)
is_cut_own (Busy s k) is = absurd (false≢true is)
is_cut_own (Push s k) is = absurd (false≢true is)
is_cut_own (Back s k w) is = absurd (false≢true is)
is_cut_own Close is = absurd (false≢true is)
is_cut_own (Begin k) is = absurd (false≢true is)
is_cut_own (End k) is = absurd (false≢true is)
is_cut_own (Chain k) is = absurd (false≢true is)
is_cut_own (ChainBusy k) is = absurd (false≢true is)
is_cut_own Rest is = absurd (false≢true is)

-- events of which none is the owner's cut nothing
cut_stays : (g before es : List Event) → before_last is_cut g ≡ before → own owner_seat es ≡ [] → before_last is_cut (g ++ es) ≡ before
cut_stays g before [] is none = ap (before_last is_cut) (append-nil g) ∙ is
cut_stays g before (e ∷ es) is none =
    let rest = cut_stays (g ++ e ∷ []) before es (before_last_push_no is_cut g e (each (is_cut e) refl) ∙ is) (own_rest owner_seat e es none) in
    ap (before_last is_cut) (sym (append_assoc g (e ∷ []) es)) ∙ rest
  where
    each : (b : Bool) → is_cut e ≡ b → b ≡ false
    each true cuts = let mine =
        own_one owner_seat e (is_cut_own e cuts) in absurd
        (cc (left_nil (own owner_seat (e ∷ [])) (own owner_seat es) (sym (own-append owner_seat (e ∷ []) es) ∙ none)))
    each false cuts = refl

none_next : (h : List Event) → next h ≡ None → length (accepted h) ≤ length (begun h)
none_next h none = elim (slice_get_cases (accepted h) (length (begun h))).1 [
  | inl some ↦ absurd (cc)
  | inr past ↦ past.0
]

module _ (wide : Layout) where
  -- where nothing waited at the owner's last take, nothing that was taken waits
  nothing_left : (h before after : List Event) → h ≡ before ++ Take ∷ after → own owner_seat after ≡ [] → next before ≡ None → shut h ≡ false
      → next_of h ≡ None
  nothing_left h before after is none past is_open =
      let whole : h ≡ (before ++ Take ∷ []) ++ after = is ∙ sym (append_assoc before (Take ∷ []) after) in
      let last : before_last is_cut h ≡ before = ap (before_last is_cut) whole
      ∙ cut_stays (before ++ Take ∷ []) before after (before_last_push_yes is_cut before Take refl) none in
      let all : taken h ≡ length (accepted before) = taken_open h is_open ∙ ap (λ (x : List Event). length (accepted x)) last in
      let first_begun : length (begun h) ≡ length (begun before) =
      ap (λ (x : List ℕ). length x) (ap begun is
      ∙ (begun-append before (Take ∷ after) ∙ (ap (λ (x : List ℕ). begun before ++ x) (begun_same [] after none) ∙ append-nil (begun before)))) in
      let few : length (batch h) ≡ 0 = omega (arith, batch_length h, all, none_next before past, first_begun) in
      slice_get_past (batch h) 0 (omega (arith, few))

  -- no Take comes while the queue is shut
  never_taken : (h before after : List Event) → IsLegal wide h → h ≡ before ++ Take ∷ after → own owner_seat after ≡ [] → shut h ≡ false
  never_taken h before after legal is none =
      let allowed = legal_next wide before Take after (subst (λ (x : List Event). IsLegal wide x) is legal) in
      let taken_then : List Event = before ++ Take ∷ [] in
      let opens : shut taken_then ≡ false = shut_quiet before Take refl refl refl ∙ shut_from_open before allowed.2 in
      let same : own owner_seat h ≡ own owner_seat taken_then =
      ap (own owner_seat) (is ∙ sym (append_assoc before (Take ∷ []) after)) ∙ own_same owner_seat taken_then after none in
      shut_from_open h (λ is_shut. open_from_shut taken_then opens (shut_same h taken_then (sym same) is_shut))

  -- the worker answers that nothing waits only where nothing is next
  pub nothing_next : (h z : List Event) → IsLegal wide z → z ≡ h ++ taking h → NothingWaits z → None ≡ next h
  nothing_next h z legal whole (at_all is_shut none) =
      sym (sym (ap next whole ∙ (ap (λ (x : List Event). next (h ++ x)) (taking_is h)
      ∙ next_taken (nat_le (taken h) (length (begun h)) && not (shut h)) h)) ∙ none)
  nothing_next h z legal whole (at_take before after is none past) = each (next_of h) (shut h) refl refl
    where
      each : (o : Option ℕ) (b : Bool) → next_of h ≡ o → shut h ≡ b → None ≡ next h
      each None false of is_shut =
          let takes : taking h ≡ Take ∷ [] = λ i. taking_of (of i) (is_shut i) in
          let last = last_own owner_seat before after h Take Take (sym is ∙ (whole ∙ ap (λ (x : List Event). h ++ x) takes)) none refl in
          sym (ap next (sym last.1) ∙ past)
      each None true of is_shut =
          let takes : taking h ≡ [] = λ i. taking_of (of i) (is_shut i) in
          let same : z ≡ h = whole ∙ (ap (λ (x : List Event). h ++ x) takes ∙ append-nil h) in
          absurd (false≢true (sym (never_taken z before after legal is none) ∙ (ap shut same ∙ is_shut)))
      each (Some k) true of is_shut =
          let takes : taking h ≡ [] = λ i. taking_of (of i) (is_shut i) in
          let same : z ≡ h = whole ∙ (ap (λ (x : List Event). h ++ x) takes ∙ append-nil h) in
          absurd (false≢true (sym (never_taken z before after legal is none) ∙ (ap shut same ∙ is_shut)))
      each (Some k) false of is_shut =
          let takes : taking h ≡ [] = λ i. taking_of (of i) (is_shut i) in
          let same : z ≡ h = whole ∙ (ap (λ (x : List Event). h ++ x) takes ∙ append-nil h) in
          let none_then : next_of h ≡ None = ap next_of (sym same) ∙ nothing_left z before after is none past (ap shut same ∙ is_shut) in
          absurd (cc)
