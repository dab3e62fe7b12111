-- A log of pairs goes on with what was seen.
use Rattle.wq_value_worker.proofs.Common.{◌≡◌, ℕ, ◌≤◌, List, [], ◌∷◌, ◌++◌, length, take, Option, Some, None, sym, refl, ap, ◌∙◌, subst, arith}
use Rattle.wq_value_worker.proofs.Common.{begun, IsLegal, Learnt, pairs_of, ValueWorkerState, owner_in}
use mathlib.Core.List.{IsPrefix}
use Rattle.wq_words.proofs.Legal.{legal_front}
use Rattle.wq_worker.proofs.Going.{begun_more}
use Rattle.wq_value_worker.specs.ValueState.{ran_pairs}
use Rattle.wq_value_worker.proofs.Logged.{few_begun}

module _ {V : Type 0} where
  pairs_more : (xs ys : List ℕ) (us vs : List (Option V)) → length xs ≤ length us
      → IsPrefix (pairs_of xs (take (length xs) us)) (pairs_of (xs ++ ys) (take (length (xs ++ ys)) (us ++ vs)))
  pairs_more [] ys us vs few = (pairs_of ys (take (length ys) (us ++ vs)), refl)
  pairs_more (x ∷ xs) ys [] vs few = absurd (omega (arith, few))
  pairs_more (x ∷ xs) ys (Some v ∷ us) vs few =
      let p = pairs_more xs ys us vs (omega (arith, few)) in (p.0, ap (λ (z : List (ℕ × V)). (x, v) ∷ z) p.1)
  pairs_more (x ∷ xs) ys (None ∷ us) vs few = pairs_more xs ys us vs (omega (arith, few))

  -- a log of the pairs that began goes on
  pub pairs_log : {W : Type 0} (a b : ValueWorkerState V W) (l m : List (ℕ × V)) → l ≡ ran_pairs a → m ≡ ran_pairs b
      → IsPrefix a.worker.seen b.worker.seen → IsLegal b.worker.layout b.worker.seen → Learnt (owner_in a) (owner_in b) → IsPrefix l m
  pairs_log a b l m was is p legal learnt =
      let h = a.worker.seen in let bs = begun_more h b.worker.seen p in
      let few : length (begun h) ≤ length a.brought = few_begun b.worker.layout h a.brought
      (legal_front b.worker.layout h p.0 (subst (IsLegal b.worker.layout) (sym p.1) legal)) learnt.was_whole in
      let q = pairs_more (begun h) bs.0 a.brought learnt.more.0 few in (
        q.0,
        ap (λ (z : List (ℕ × V)). z ++ q.0) was ∙
            (q.1 ∙ ((λ i. pairs_of (bs.1 i) (take (length (bs.1 i)) (learnt.more.1 i))) ∙ sym is)),
      )
