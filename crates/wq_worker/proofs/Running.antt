-- The number that runs.
use Rattle.wq_worker.proofs.Common.{◌≡◌, ℕ, ◌+◌, ◌<◌, List, [], ◌∷◌, ◌++◌, length, Some, slice_get, inl, inr, subst, sym}
use Rattle.wq_worker.proofs.Common.{refl, ap, ◌∙◌, arith, length-append, append-nil, filter_map-append, Event, Begin, Layout, number_count, begun_by}
use Rattle.wq_worker.proofs.Common.{begun, ended, running, IsRunning, IsLegal, in_order, prefix_length}
use Rattle.wq_words.specs.Legal.{IsAllowed}
use Rattle.wq_words.proofs.Growing.{slice_get_last, slice_get_push, filter_map_push_none}
use Rattle.wq_words.proofs.Legal.{legal_induction}
use Rattle.wq_worker.proofs.Owned.{OwnerAdds}

-- begun after nothing ran
pub runs_begun : (layout : Layout) (k : ℕ) (es v w : List Event) → IsLegal layout v → ¬ IsRunning v → begun es ≡ k ∷ [] → ended es ≡ []
    → OwnerAdds es v w → running w ≡ Some k
runs_begun layout k es v w legal idle begins ends o =
    let order = in_order layout v legal in
    let b : begun w ≡ begun v ++ k ∷ [] = o.begun_is ∙ ap (λ (z : List ℕ). begun v ++ z) begins in
    let e : ended w ≡ ended v = o.ended_is ∙ (ap (λ (z : List ℕ). ended v ++ z) ends ∙ append-nil (ended v)) in
    let same : length (ended v) ≡ length (begun v) = omega (arith, prefix_length (ended v) (begun v) order.ended_first) in
    rw (b, e, same) (slice_get_last (begun v) k [])

-- ended
pub idle_ended : (layout : Layout) (k : ℕ) (es v w : List Event) → IsLegal layout v → begun es ≡ [] → ended es ≡ k ∷ [] → OwnerAdds es v w → ¬ IsRunning w
idle_ended layout k es v w legal begins ends o =
    let order = in_order layout v legal in
    let b : length (begun w) ≡ length (begun v) = ap (length {A = ℕ}) (o.begun_is ∙ (ap (λ (z : List ℕ). begun v ++ z) begins ∙ append-nil (begun v))) in
    let e : length (ended w) ≡ length (ended v) + 1 =
    ap (length {A = ℕ}) (o.ended_is ∙ ap (λ (z : List ℕ). ended v ++ z) ends) ∙ length-append (ended v) (k ∷ []) in
    λ less. omega (arith, order.one_at_a_time, b, e, less)

-- each number of a list is one of the queue
abbrev pub AreNumbers : Layout → List ℕ → Type 0
AreNumbers layout ks = (i k : ℕ) → slice_get ks i ≡ Some k → k < number_count layout

one_begun : (layout : Layout) (ks : List ℕ) (j : ℕ) → j < number_count layout → AreNumbers layout ks → AreNumbers layout (ks ++ j ∷ [])
one_begun layout ks j low all i k at =
    elim (slice_get_push ks j k i at) [ inl old ↦ all i k old | inr new ↦ subst (λ (z : ℕ). z < number_count layout) new.1 low ]

begun_after : (layout : Layout) (h : List Event) (e : Event) → IsAllowed layout h e → AreNumbers layout (begun h) → AreNumbers layout (begun (h ++ e ∷ []))
begun_after layout h (Begin j) a all = subst (AreNumbers layout) (sym (filter_map-append begun_by h (Begin j ∷ []))) (one_begun layout (begun h) j a.1 all)
begun_after layout h _ a all = subst (AreNumbers layout) (sym (filter_map_push_none begun_by h _ refl ∙ append-nil (begun h))) all

pub begun_numbers : (layout : Layout) (h : List Event) → IsLegal layout h → AreNumbers layout (begun h)
begun_numbers layout h legal =
    legal_induction layout (λ h. AreNumbers layout (begun h)) (λ i k at. absurd (cc)) (λ h e _ a all. begun_after layout h e a all) h legal

pub number_runs : (layout : Layout) (h : List Event) (k : ℕ) → IsLegal layout h → running h ≡ Some k → k < number_count layout
number_runs layout h k legal is = begun_numbers layout h legal (length (ended h)) k is
