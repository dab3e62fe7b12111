-- What each answer of a worker's step means for a script.
use Rattle.std.specs.Option.{option_to_list}
use Rattle.std.proofs.Math.Seq.{drop-append_seam}
use Rattle.wq_script.proofs.Common.{append_assoc, ◌≡◌, ℕ, ◌+◌, ◌<◌, ◌≤◌, Bool, true, false, not, ◌&&◌, nat_le, if◌then◌else◌, drop, suc, List, [], ◌∷◌, ◌++◌}
use Rattle.wq_script.proofs.Common.{Option, Some, None, length, refl, sym, ap, ◌∙◌, subst, arith, All, inl, inr, filter, append-nil, append_cancel_left}
use Rattle.wq_script.proofs.Common.{filter-append, get_or-eq_default, slice_get_within, cases_lt, IsPrefix, ArrayVec, Layout, Event, Take, Begin, End, begun}
use Rattle.wq_script.proofs.Common.{ended, taken, shut, next, IsRunning, IsLegal, is_ours, taking, WorkerState, Moves, Follows, no_follow, follow_of}
use Rattle.wq_script.proofs.Common.{take_events, after_run, after_execution, after_executions, go_on, ended_since, begun-append, ended-append, Lists, ListsFit}
use Rattle.wq_script.proofs.Common.{Quiet, IsWorkerIdle, Executed, ExecutesOne, ExecutesRow, right_nil, prefix_on, HasStepped}
use Rattle.wq_worker.specs.declared.ran.Ran.TheVariants.{Nothing}
use Rattle.wq_worker.proofs.Seats.{adds_none}
use Rattle.wq_worker.proofs.Step.{moves_on}
use Rattle.wq_worker.specs.Step.{stays, StartsBy, item, other, owed, EndsBy, ends, OwesBy, owes, Runs}
use Rattle.wq_meaning.proofs.Executions.{ended_execution, row_goes_on}
use Rattle.wq_script.proofs.Executed.{exact, executed, nothing_next, taking_is}

-- what the run of an item may answer, and leave
abbrev pub may_be : Lists → ℕ → List ℕ → Lists → Type 0
may_be w k f v = (f ≡ follow_of w.follows.items k) × (v.follows ≡ w.follows)

-- what a number's function answers fits
follow_fits : (follows : List (ArrayVec ℕ)) (n k : ℕ) → ListsFit n follows → All (λ j. j < n) (follow_of follows k)
follow_fits follows n k fits = elim (cases_lt k (length follows)) [
  | inl lt ↦ fits k no_follow lt
  | inr ge ↦
      let P : ArrayVec ℕ → Type 0 = λ f. All (λ j. j < n) f.items in
      subst P (sym (get_or-eq_default follows no_follow ge)) (λ i d lt. absurd (omega (arith, lt)))
]

-- a number that is no item has no list
no_list : (follows : List (ArrayVec ℕ)) (k : ℕ) → length follows ≤ k → follow_of follows k ≡ []
no_list follows k le = ap (λ (f : ArrayVec ℕ). f.items) (get_or-eq_default follows no_follow le)

starts_lists : (a : WorkerState Lists) (k : ℕ) (f : List ℕ) (v : Lists) (es : List Event) → StartsBy may_be stays a k f v es → v.follows ≡ a.work.follows
starts_lists a k f v es (item idle lt may is) = may.1
starts_lists a k f v es (other idle le none same is) = ap (λ (w : Lists). w.follows) same
starts_lists a k f v es (owed runs left same none) = ap (λ (w : Lists). w.follows) same

module _ (a b : WorkerState Lists) (k : ℕ) (f : List ℕ) (es fs : List Event) (told : Follows a.layout.items a.number (shut a.seen) f fs)
    (moves : Moves (es ++ (fs ++ End k ∷ [])) 0 a b) (idle_then : ¬ IsRunning b.seen) where
  ended_so : (wide : Layout) (z : List Event) → IsWorkerIdle wide a → Quiet wide a.number a.seen z → IsPrefix b.seen z
      → es ≡ taking a.seen ++ Begin k ∷ [] → f ≡ follow_of a.work.follows.items k
      → All (λ j. j < wide.items) f → Executed a b (Some k)
  ended_so wide z ready quiet begins is answers fit =
      let e = exact wide a.number a.seen b.seen z (es ++ (fs ++ End k ∷ [])) 0 quiet moves.adds begins in
      let whole : b.seen ≡ a.seen ++ ((taking a.seen ++ Begin k ∷ []) ++ (fs ++ End k ∷ [])) = e.0
      ∙ ap (λ (x : List Event). a.seen ++ (x ++ (fs ++ End k ∷ []))) is in
      let follows : Follows wide.items a.number (shut a.seen) f fs =
      subst (λ (l : Layout). Follows l.items a.number (shut a.seen) f fs) ready.layout told in
      let d = executed wide a.number a.work.follows.items a.seen k f fs answers fit follows (subst (λ (x : List Event). IsLegal wide x) whole e.2) in
      record { next_is = d.0; seen_is = whole ∙ d.1; idle = idle_then }

  starts_so : StartsBy may_be stays a k f b.work es → (wide : Layout) (z : List Event) → IsWorkerIdle wide a → Quiet wide a.number a.seen z
      → IsPrefix b.seen z → Executed a b (Some k)
  starts_so (item idle lt may is) wide z ready quiet begins =
      ended_so wide z ready quiet begins is may.0
      (subst (λ (x : List ℕ). All (λ j. j < wide.items) x) (sym may.0) (follow_fits a.work.follows.items wide.items k ready.fit))
  starts_so (other idle le none same is) wide z ready quiet begins =
      let empty : follow_of a.work.follows.items k ≡ [] =
      no_list a.work.follows.items k (omega (arith, le, ready.count, ap (λ (l : Layout). l.items) ready.layout)) in
      ended_so wide z ready quiet begins is (none ∙ sym empty)
      (subst (λ (x : List ℕ). All (λ j. j < wide.items) x) (sym none) (λ i d lt. absurd (omega (arith, lt))))
  starts_so (owed runs left same none) wide z ready quiet begins = absurd (ready.idle (slice_get_within (begun a.seen) (length (ended a.seen)) k runs))

take_only : (b : Bool) (h : List Event) → (begun (h ++ (if b then Take ∷ [] else [])) ≡ begun h) × (ended (h ++ (if b then Take ∷ [] else [])) ≡ ended h)
take_only true h = (begun-append h (Take ∷ []) ∙ append-nil (begun h), ended-append h (Take ∷ []) ∙ append-nil (ended h))
take_only false h = (ap begun (append-nil h), ap ended (append-nil h))

-- a take begins and ends nothing
taken_begun : (h : List Event) → length (begun (h ++ taking h)) ≡ length (begun h)
taken_begun h = ap (λ (x : List Event). length (begun (h ++ x))) (taking_is h)
    ∙ ap length (take_only (nat_le (taken h) (length (begun h)) && not (shut h)) h).0

taken_ended : (h : List Event) → length (ended (h ++ taking h)) ≡ length (ended h)
taken_ended h = ap (λ (x : List Event). length (ended (h ++ x))) (taking_is h)
    ∙ ap length (take_only (nat_le (taken h) (length (begun h)) && not (shut h)) h).1

pub ends_executes : (a b : WorkerState Lists) (k : ℕ) → EndsBy may_be stays a k b → ExecutesOne a b (Some k)
ends_executes a b k (ends f es fs starts told moves idle) = record {
  stepped = record { events = es ++ (fs ++ End k ∷ []); others = 0; moves = moves; lists = starts_lists a k f b.work es starts };
  quiet = starts_so a b k f es fs told moves idle starts;
}

pub nothing_executes : (a b : WorkerState Lists) → Runs may_be Nothing a b → ExecutesOne a b None
nothing_executes a b told = record {
  stepped = record { events = taking a.seen; others = 0; moves = told.3; lists = ap (λ (w : Lists). w.follows) told.2 };
  quiet = λ wide z ready quiet begins.
      let e = exact wide a.number a.seen b.seen z (taking a.seen) 0 quiet told.3.adds begins in
      let is : None ≡ next a.seen = nothing_next wide a.seen b.seen e.2 e.0 told.1 in
      record {
        next_is = is;
        seen_is = e.0 ∙ (ap (λ (x : List Event). a.seen ++ x) (taking_is a.seen)
            ∙ ap (after_run a.number a.work.follows.items (a.seen ++ take_events a.seen)) is);
        idle = λ runs. told.0 (omega (
          arith,
          runs,
          taken_begun a.seen,
          taken_ended a.seen,
          ap (λ (x : List Event). length (begun x)) e.0,
          ap
              (λ (x : List Event). length (ended x)) e.0,
        ));
      };
}

pub owes_executes : (a b : WorkerState Lists) (k : ℕ) → OwesBy may_be stays a k b → ExecutesOne a b None
owes_executes a b k (owes f qs j more es fs starts splits small left is_open told moves runs) = record {
  stepped = record { events = _; others = a.tries; moves = moves; lists = starts_lists a k f b.work es starts };
  quiet = λ wide z ready quiet begins.
      let e = exact wide a.number a.seen b.seen z _ a.tries quiet moves.adds begins in
      absurd (omega (arith, e.1, ready.tries));
}

-- what was executed so far, where it was quiet, and what is left
pub record SoFar (ends : ℕ → Bool) (limit left : ℕ) (a b : WorkerState Lists) (ran : List ℕ) : Type 0 where
  pub rest : after_executions a.number a.work.follows.items ends left b.seen ≡ after_executions a.number a.work.follows.items ends limit a.seen
  pub told : ended b.seen ≡ ended a.seen ++ ran
  pub idle : ¬ IsRunning b.seen

pub record RowSoFar (ends : ℕ → Bool) (limit left : ℕ) (a b : WorkerState Lists) (ran : List ℕ) : Type 0 where
  pub stepped : HasStepped a b
  pub quiet : (wide : Layout) (z : List Event) → IsWorkerIdle wide a → Quiet wide a.number a.seen z → IsPrefix b.seen z → SoFar ends limit left a b ran

-- the worker is ready again, and what comes is quiet
still_ready : (wide : Layout) (xs : List Event) (n : ℕ) (a b : WorkerState Lists) → IsWorkerIdle wide a → Moves xs n a b
    → b.work.follows ≡ a.work.follows → ¬ IsRunning b.seen → IsWorkerIdle wide b
still_ready wide xs n a b ready moves lists idle = record {
  layout = moves.layout ∙ ready.layout;
  idle = idle;
  tries = moves.tries ∙ ready.tries;
  count = ap (λ v. length v.items) lists ∙ ready.count;
  fit = subst (λ v. ListsFit wide.items v.items) (sym lists) ready.fit;
}

still_quiet : (wide : Layout) (xs : List Event) (n : ℕ) (a b : WorkerState Lists) (z : List Event) → Quiet wide a.number a.seen z → Moves xs n a b
    → IsPrefix b.seen z → Quiet wide b.number b.seen z
still_quiet wide xs n a b z quiet moves begins =
    let theirs : List Event → List Event = λ es. filter (λ e. not (is_ours a.number e)) es in
    let whole : a.seen ++ quiet.rest ≡ a.seen ++ (moves.adds.new ++ begins.0) = sym quiet.is
    ∙ (sym begins.1 ∙ (ap (λ (x : List Event). x ++ begins.0) moves.adds.is ∙ append_assoc a.seen moves.adds.new begins.0)) in
    let parts : quiet.rest ≡ moves.adds.new ++ begins.0 = append_cancel_left a.seen quiet.rest (moves.adds.new ++ begins.0) whole in
    let none : theirs begins.0 ≡ [] =
    right_nil (theirs moves.adds.new) (theirs begins.0)
    (sym (filter-append (λ e. not (is_ours a.number e)) moves.adds.new begins.0) ∙ (ap theirs (sym parts) ∙ quiet.none)) in
    record {
      legal = quiet.legal;
      rest = begins.0;
      is = sym begins.1;
      none =
          subst (λ (s : ℕ). filter (λ e. not (is_ours s e)) begins.0 ≡ []) (sym moves.number) none;
    }

stepped_on : (a b c : WorkerState Lists) → HasStepped a b → HasStepped b c → HasStepped a c
stepped_on a b c x y = record {
  events = x.events ++ y.events;
  others = x.others + y.others;
  moves = moves_on x.events y.events x.others y.others a b c x.moves y.moves;
  lists = y.lists ∙ x.lists;
}

module _ (ends : ℕ → Bool) (limit : ℕ) (a : WorkerState Lists) where
  pub row_none : IsLegal a.layout a.seen → RowSoFar ends limit limit a a []
  row_none legal = record {
    stepped = record {
      events = [];
      others = 0;
      moves = record { queue = refl; layout = refl; number = refl; tries = refl; adds = adds_none a.number a.seen; legal = legal };
      lists = refl;
    };
    quiet = λ wide z ready quiet begins. record { rest = refl; told = sym (append-nil (ended a.seen)); idle = ready.idle };
  }

  module _ (left n : ℕ) (b c : WorkerState Lists) (ran : List ℕ) (r : Option ℕ) (count : n ≡ suc left) (row : RowSoFar ends limit n a b ran)
      (does : ExecutesOne b c r) where
    -- what the step was, where it was quiet
    step_so : (wide : Layout) (z : List Event) → IsWorkerIdle wide a → Quiet wide a.number a.seen z → IsPrefix c.seen z
        → SoFar ends limit n a b ran × (r ≡ next b.seen) × (c.seen ≡ after_execution a.number a.work.follows.items b.seen) × (¬ IsRunning c.seen)
    step_so wide z ready quiet begins =
        let before : IsPrefix b.seen z = prefix_on b.seen c.seen z (does.stepped.moves.adds.new, sym does.stepped.moves.adds.is) begins in
        let so : SoFar ends limit n a b ran = row.quiet wide z ready quiet before in
        let d = does.quiet wide z (still_ready wide row.stepped.events row.stepped.others a b ready row.stepped.moves row.stepped.lists so.idle)
        (still_quiet wide row.stepped.events row.stepped.others a b z quiet row.stepped.moves before) begins in
        (so, d.next_is, d.seen_is ∙ (λ i. after_execution (row.stepped.moves.number i) (row.stepped.lists i).items b.seen), d.idle)

  -- what an execution of k left to be executed, and what was executed with it, where it was quiet
  ran_one : (left n : ℕ) (b c : WorkerState Lists) (ran : List ℕ) (k : ℕ) (count : n ≡ suc left) (row : RowSoFar ends limit n a b ran)
      (does : ExecutesOne b c (Some k)) (wide : Layout) (z : List Event) → IsWorkerIdle wide a → Quiet wide a.number a.seen z → IsPrefix c.seen z
      → (stops : Bool) → ends k ≡ stops
      → ((if stops then c.seen else after_executions a.number a.work.follows.items ends left c.seen)
      ≡ after_executions a.number a.work.follows.items ends limit a.seen) × (ended c.seen ≡ ended a.seen ++ (ran ++ k ∷ [])) × (¬ IsRunning c.seen)
  ran_one left n b c ran k count row does wide z ready quiet begins stops is =
      let d = step_so left n b c ran (Some k) count row does wide z ready quiet begins in
      let g : List Event = b.seen in
      let next_g : List Event = after_execution a.number a.work.follows.items g in
      let later : List Event → List Event = after_executions a.number a.work.follows.items ends left in
      let split = row_goes_on a.number a.work.follows.items ends left n k g count d.1 ∙ ap (λ (x : Bool). if x then next_g else later next_g) is in (
        ap (λ (x : List Event). if stops then x else later x) d.2 ∙ (sym split ∙ d.0.rest),
        ap ended d.2 ∙ (ended_execution a.number a.work.follows.items g
            ∙ (ap (λ (o : Option ℕ). ended g ++ option_to_list o) (sym d.1)
            ∙ (ap (λ (x : List ℕ). x ++ k ∷ []) d.0.told ∙ append_assoc (ended a.seen) ran (k ∷ [])))),
        d.3,
      )

  pub row_more : (left n : ℕ) (b c : WorkerState Lists) (ran : List ℕ) (k : ℕ) → n ≡ suc left → RowSoFar ends limit n a b ran
      → ExecutesOne b c (Some k) → ends k ≡ false → RowSoFar ends limit left a c (ran ++ k ∷ [])
  row_more left n b c ran k count row does goes = record {
    stepped = stepped_on a b c row.stepped does.stepped;
    quiet = λ wide z ready quiet begins.
        let d = ran_one left n b c ran k count row does wide z ready quiet begins false goes in record { rest = d.0; told = d.1; idle = d.2 };
  }

  since : (g h : List Event) (ran : List ℕ) → ended g ≡ ended h ++ ran → ran ≡ ended_since h g
  since g h ran told = sym (ap (drop (length (ended h))) told ∙ drop-append_seam (ended h) ran)

  pub row_done : (left : ℕ) (b : WorkerState Lists) (ran : List ℕ) → left ≡ 0 → RowSoFar ends limit left a b ran → ExecutesRow limit ends a b ran
  row_done left b ran none row = record {
    stepped = row.stepped;
    quiet = λ wide z ready quiet begins.
        let so = row.quiet wide z ready quiet begins in
        (ap (λ (m : ℕ). after_executions a.number a.work.follows.items ends m b.seen) (sym none) ∙ so.rest, since b.seen a.seen ran so.told, so.idle);
  }

  pub row_last : (left n : ℕ) (b c : WorkerState Lists) (ran : List ℕ) (k : ℕ) → n ≡ suc left → RowSoFar ends limit n a b ran
      → ExecutesOne b c (Some k) → ends k ≡ true → ExecutesRow limit ends a c (ran ++ k ∷ [])
  row_last left n b c ran k count row does stops = record {
    stepped = stepped_on a b c row.stepped does.stepped;
    quiet = λ wide z ready quiet begins.
        let d = ran_one left n b c ran k count row does wide z ready quiet begins true stops in (d.0, since c.seen a.seen (ran ++ k ∷ []) d.1, d.2);
  }

  pub row_idle : (left n : ℕ) (b c : WorkerState Lists) (ran : List ℕ) → n ≡ suc left → RowSoFar ends limit n a b ran → ExecutesOne b c None
      → ExecutesRow limit ends a c ran
  row_idle left n b c ran count row does = record {
    stepped = stepped_on a b c row.stepped does.stepped;
    quiet = λ wide z ready quiet begins.
        let d = step_so left n b c ran None count row does wide z ready quiet begins in
        let g : List Event = b.seen in
        let next_g : List Event = after_execution a.number a.work.follows.items g in
        let split = ap (λ (m : ℕ). after_executions a.number a.work.follows.items ends m g) count
        ∙ ap (go_on (after_executions a.number a.work.follows.items ends left) ends next_g) (sym d.1) in (
          d.2 ∙ (sym split ∙ d.0.rest),
          since c.seen a.seen ran (ap ended d.2
              ∙ (ended_execution a.number a.work.follows.items g
              ∙ (ap (λ (o : Option ℕ). ended g ++ option_to_list o) (sym d.1) ∙ (append-nil (ended g) ∙ d.0.told)))),
          d.3,
        );
  }
