-- The lists of what follows: at the beginning, and where one is set.
use Rattle.wq_script.proofs.Common.{length-replicate, get_or-replicate, ◌≡◌, ℕ, ◌<◌, ◌≤◌, List, [], length, replicate, slice_set, get_or, All, inl, inr, refl}
use Rattle.wq_script.proofs.Common.{sym, ap, ◌∙◌, subst, arith, length-set, get_or-set_same, get_or-set_other, get_or-eq_default, cases_lt, cases_eq, ArrayVec}
use Rattle.wq_script.proofs.Common.{Layout, Event, no_follow, follow_of, ScriptState, opening_state, DelayState, Seats, Tally, Seated, ListsFit, Meets}
use Rattle.wq_script.proofs.Meetings.{engine}

-- only the work was touched
work_seated : (layout : Layout) (a b : Seats) (h : List Event) → b.worker ≡ record a.worker { work = b.worker.work } → b.delay ≡ a.delay
    → b.senders ≡ a.senders → Seated layout a h → Seated layout b h
work_seated layout a b h worker delay senders g =
    let mid : Seats = record { worker = record a.worker { work = b.worker.work }; delay = a.delay; senders = a.senders } in
    let there : Seated layout mid h = record {
      queue = g.queue;
      wide = g.wide;
      wider = g.wider;
      legal = g.legal;
      count = g.count;
      senders = g.senders;
      sender = g.sender;
      owner = g.owner;
      delay = g.delay;
      tries = g.tries;
      seen = g.seen;
    } in
    subst (λ (x : Seats). Seated layout x h) (λ i. record { worker = sym worker i; delay = sym delay i; senders = sym senders i }) there

-- what holds of the list that is set and of the one at a place before holds there
set_holds : (P : ArrayVec ℕ → Type 0) (fs : List (ArrayVec ℕ)) (item k : ℕ) (follow d : ArrayVec ℕ) → item < length fs → P follow → P (get_or fs k d)
    → P (get_or (slice_set fs item follow) k d)
set_holds P fs item k follow d lt here there = elim (cases_eq k item) [
  | inl is ↦ subst P (sym (ap (λ (j : ℕ). get_or (slice_set fs item follow) j d) is ∙ get_or-set_same fs item follow d lt)) here
  | inr ne ↦ subst P (sym (get_or-set_other fs item k follow d ne)) there
]

pub follow_meets : (layout : Layout) (a b : Seats) (x : Tally) (s : ScriptState) (item : ℕ) (follow : ArrayVec ℕ) → Meets (engine layout a x) s
    → item < layout.items → All (λ k. k < layout.items) follow.items → length follow.items ≤ 4
    → b.worker ≡ record a.worker { work = b.worker.work } → b.worker.work.follows.items ≡ slice_set a.worker.work.follows.items item follow
    → b.delay ≡ a.delay → b.senders ≡ a.senders
    → Meets (engine layout b x) (record s { follows = slice_set s.follows item follow })
follow_meets layout a b x s item follow m lt fit few worker lists delay senders = record {
  seated = work_seated layout a b s.history worker delay senders m.seated;
  idle = m.idle;
  tally = m.tally;
  table = ap (λ (d : DelayState). d.table) delay ∙ m.table;
  follows = lists ∙ ap (λ fs. slice_set fs item follow) m.follows;
  lists = record {
    count = ap length lists ∙ (length-set a.worker.work.follows.items item follow ∙ m.lists.count);
    fit = subst (λ (fs : List (ArrayVec ℕ)). ListsFit layout.items fs) (sym lists) (λ i d less.
        let fs = a.worker.work.follows.items in
        set_holds (λ f. All (λ k. k < layout.items) f.items) fs item i follow d (omega (arith, lt, m.lists.count)) fit
        (m.lists.fit i d (omega (arith, less, length-set fs item follow))));
  };
  short = λ k. set_holds (λ f. length f.items ≤ 4) s.follows item k follow no_follow (omega (arith, lt, m.lists.count, ap length m.follows)) few (m.short k);
}

-- an engine at its beginning
pub new_meets : (layout : Layout) (a : Seats) → Seated layout a [] → a.worker.work.follows.items ≡ replicate layout.items no_follow
    → a.delay.table ≡ record { entries = []; tick = 0; next = 0 }
    → Meets (engine layout a (record { queued = 0; busy = 0; refused = 0 })) (opening_state layout)
new_meets layout a seated lists table = record {
  seated = seated;
  idle = λ runs. absurd (omega (arith, runs));
  tally = record { queued = refl; busy = refl; refused = refl };
  table = table;
  follows = lists;
  lists = record {
    count = ap length lists ∙ length-replicate layout.items no_follow;
    fit = subst (λ (fs : List (ArrayVec ℕ)). ListsFit layout.items fs) (sym lists)
        (λ i d lt. subst (λ (f : ArrayVec ℕ). All (λ k. k < layout.items) f.items)
        (sym (get_or-replicate layout.items i no_follow d (omega (arith, lt, length-replicate layout.items no_follow))))
        (λ j e less. absurd (omega (arith, less))));
  };
  short = λ k. none_short layout.items k;
}
  where
    none_short : (n k : ℕ) → length (follow_of (replicate n no_follow) k) ≤ 4
    none_short n k = elim (cases_lt k n) [
      | inl lt ↦ subst (λ (f : ArrayVec ℕ). length f.items ≤ 4) (sym (get_or-replicate n k no_follow no_follow lt)) (omega arith)
      | inr ge ↦ subst (λ (f : ArrayVec ℕ). length f.items ≤ 4)
          (sym (get_or-eq_default (replicate n no_follow) no_follow (omega (arith, ge, length-replicate n no_follow)))) (omega arith)
    ]
