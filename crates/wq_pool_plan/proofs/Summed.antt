-- The outcomes of all queues, added up.
use Rattle.std.proofs.lemmas.List.Sums.{sum_by-cons, sum_by-le}
use Rattle.wq_pool_plan.proofs.Common.{◌≡◌, ℕ, zero, suc, ◌+◌, ◌-◌, ◌*◌, ◌^◌, ◌<◌, ◌≤◌, Bool, true, false, ◌&&◌, List, [], ◌∷◌, ◌++◌, length, take, get_or, inl}
use Rattle.wq_pool_plan.proofs.Common.{inr, refl, sym, ap, ◌∙◌, subst, arith, MatchBool, AllByRecursion, capped, Known, BookState, items_among, RunCounter, Outcome}
use Rattle.wq_pool_plan.proofs.Common.{Plan, WorkerId, IsFinished, AreFinished, Group, IsSent, AllSent, all_ended}
use Rattle.wq_pool_plan.specs.Outcome.{QueueRun, IsQueueRun, accepted_items, ended_items, IsBalanced, IsFaulty, IsSomeFaulty, TellsRun, TellsRuns, AreBoth}
use Rattle.wq_words.proofs.AtPlaces.{popped}

pub finished_count : (log : RunCounter → List ℕ) (ids : List WorkerId) (xs : List (RunCounter × BookState)) → AreFinished log ids xs → length xs ≡ length ids
finished_count log [] [] all = refl
finished_count log (id ∷ ids) (x ∷ xs) all = ap suc (finished_count log ids xs all.1)
finished_count log [] (x ∷ xs) all = absurd all
finished_count log (id ∷ ids) [] all = absurd all

pub finished_at : (log : RunCounter → List ℕ) (ids : List WorkerId) (xs : List (RunCounter × BookState)) → AreFinished log ids xs
    → (q : ℕ) (i : WorkerId) (d : RunCounter × BookState) → q < length ids → IsFinished log (get_or ids q i) (get_or xs q d)
finished_at log [] xs all q i d lt = absurd (omega (arith, lt))
finished_at log (id ∷ ids) [] all q i d lt = absurd all
finished_at log (id ∷ ids) (x ∷ xs) all zero i d lt = all.0
finished_at log (id ∷ ids) (x ∷ xs) all (suc q) i d lt = finished_at log ids xs all.1 q i d (omega (arith, lt))

-- The last of the first m queues, which was taken from the three lists, and the k queues before it.
pub record IsLast (plan : Plan) (id : WorkerId) (finished fs : List (RunCounter × BookState)) (groups gs : List Group) (programs ps : List Known) (k : ℕ)
    (x : RunCounter × BookState) (g : Group) (p : Known) : Type 0 where
  pub finished_are : fs ≡ take k finished
  pub groups_are : gs ≡ take k groups
  pub programs_are : ps ≡ take k programs
  pub finishes : IsFinished (λ w. w.ran.items) id x
  pub sent : IsSent plan id g.senders.items p

pub is_last : (plan : Plan) (ids : List WorkerId) (finished : List (RunCounter × BookState)) (groups : List Group) (programs : List Known)
    → AreFinished (λ w. w.ran.items) ids finished → AllSent plan ids groups programs
    → (i : WorkerId) (k m : ℕ) → m ≡ k + 1 → m ≤ length finished
    → (old_fs fs : List (RunCounter × BookState)) (x : RunCounter × BookState) → old_fs ≡ take m finished → old_fs ≡ fs ++ x ∷ []
    → (old_gs gs : List Group) (g : Group) → old_gs ≡ take m groups → old_gs ≡ gs ++ g ∷ []
    → (old_ps ps : List Known) (p : Known) → old_ps ≡ take m programs → old_ps ≡ ps ++ p ∷ []
    → IsLast plan (get_or ids k i) finished fs groups gs programs ps k x g p
is_last plan ids finished groups programs f s i k m next within old_fs fs x fx fl old_gs gs g gx gl old_ps ps p px pl =
    let count = finished_count (λ w. w.ran.items) ids finished f in
    let lt : k < length ids = omega (arith, next, within, count) in
    let a = popped finished old_fs fs x k m next within fx fl in
    let b = popped groups old_gs gs g k m next (omega (arith, within, count, s.groups_count)) gx gl in
    let c = popped programs old_ps ps p k m next (omega (arith, within, count, s.programs_count)) px pl in
    record {
      finished_are = a.0;
      groups_are = b.0;
      programs_are = c.0;
      finishes = subst (IsFinished {W = RunCounter} (λ w. w.ran.items) (get_or ids k i)) (sym a.1) (finished_at (λ w. w.ran.items) ids finished f k i x lt);
      sent = subst (λ (z : Group). IsSent plan (get_or ids k i) z.senders.items p) (sym b.1)
          (subst (λ (z : Known). IsSent plan (get_or ids k i) (get_or groups k g).senders.items z) (sym c.1) (s.each k i g p lt));
    }

run_same : (plan : Plan) (run : QueueRun) → IsQueueRun plan run → accepted_items run ≡ ended_items run
run_same plan run is = ap (λ (ks : List ℕ). capped (length (items_among run.layout ks))) (sym (all_ended run.layout run.history is.legal is.complete))

pub tells_none : (plan : Plan) (outcome : Outcome) → outcome.accepted ≡ 0 → outcome.ran ≡ 0 → outcome.is_balanced ≡ true → TellsRuns plan [] outcome
tells_none plan outcome accepted ran balanced = record {
  each = tt;
  accepted_is = accepted;
  ran_is = ran;
  same = accepted ∙ sym ran;
  balanced = subst (λ (b : Bool). MatchBool b (AllByRecursion IsBalanced []) (IsSomeFaulty [])) (sym balanced) tt;
}

pub tells_more : (plan : Plan) (run : QueueRun) (runs : List QueueRun) (one other sum : Outcome) → IsQueueRun plan run → TellsRun run one
    → TellsRuns plan runs other → AreBoth one other sum → TellsRuns plan (run ∷ runs) sum
tells_more plan run runs one other sum is o t b = record {
  each = (is, t.each);
  accepted_is = omega (arith, b.accepted_is, o.accepted_is, t.accepted_is, sum_by-cons accepted_items run runs);
  ran_is = omega (arith, b.ran_is, o.ran_is, t.ran_is, sum_by-cons ended_items run runs);
  same = omega (arith, b.accepted_is, b.ran_is, t.same, o.accepted_is, o.ran_is, run_same plan run is);
  balanced = subst (λ (c : Bool). MatchBool c (AllByRecursion IsBalanced (run ∷ runs)) (IsSomeFaulty (run ∷ runs))) (sym b.balanced_is)
      (joined one.is_balanced other.is_balanced o.balanced t.balanced);
}
  where
    joined : (a b : Bool) → MatchBool a (IsBalanced run) (IsFaulty run) → MatchBool b (AllByRecursion IsBalanced runs) (IsSomeFaulty runs)
        → MatchBool (a && b) (AllByRecursion IsBalanced (run ∷ runs)) (IsSomeFaulty (run ∷ runs))
    joined true true x y = (x, y)
    joined true false x y = inr y
    joined false true x y = inl x
    joined false false x y = inl x

-- the numbers of a few outcomes are not large
pub few_told : (plan : Plan) (runs : List QueueRun) (outcome : Outcome) → length runs ≤ 8 → TellsRuns plan runs outcome
    → (outcome.accepted ≤ 8 * (2 ^ 64 - 1)) × (outcome.ran ≤ 8 * (2 ^ 64 - 1))
few_told plan runs outcome few t = (
  omega (arith, few, t.accepted_is, sum_by-le accepted_items (2 ^ 64 - 1) runs (λ i d lt. omega arith)),
  omega (arith, few, t.ran_is, sum_by-le ended_items (2 ^ 64 - 1) runs (λ i d lt. omega arith)),
)
