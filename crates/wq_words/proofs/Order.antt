-- What begins is what was accepted, in that order, and each ends before the next begins.
use Rattle.wq_words.proofs.Common.{◌≡◌, ℕ, ◌+◌, ◌-◌, ◌<◌, ◌≤◌, ◌↔◌, List, [], ◌∷◌, ◌++◌, length, Some, slice_get, refl, sym, ap, ◌∙◌, arith, length-append}
use Rattle.wq_words.proofs.Common.{slice_get_within, IsPrefix, Layout, Event, Push, Begin, End, Chain, accepted, begun, ended, IsRunning, running, MayFollow}
use Rattle.wq_words.proofs.Common.{IsLegal}
use Rattle.wq_words.proofs.Prefixes.{prefix_append, prefix_length, prefix_step}
use Rattle.wq_words.proofs.Growing.{growing}
use Rattle.wq_words.proofs.Legal.{legal_induction}

pub record AreInOrder (accepted begun ended : List ℕ) : Type 0 where
  pub begun_first : IsPrefix begun accepted
  pub ended_first : IsPrefix ended begun
  pub one_at_a_time : length begun ≤ length ended + 1

abbrev pub RunsInOrder : List Event → Type 0
RunsInOrder h = AreInOrder (accepted h) (begun h) (ended h)

accepts : (acs bs es : List ℕ) (k : ℕ) → AreInOrder acs bs es → AreInOrder (acs ++ k ∷ []) bs es
accepts acs bs es k o = record { begun_first = prefix_append bs acs (k ∷ []) o.begun_first; ended_first = o.ended_first; one_at_a_time = o.one_at_a_time }

begins : (acs bs es : List ℕ) (k : ℕ) → AreInOrder acs bs es → (length es < length bs → ⊥) → slice_get acs (length bs) ≡ Some k
    → AreInOrder acs (bs ++ k ∷ []) es
begins acs bs es k o idle at = record {
  begun_first = prefix_step bs acs k o.begun_first at;
  ended_first = prefix_append es bs (k ∷ []) o.ended_first;
  one_at_a_time = simp length-append (omega arith);
}

ends : (acs bs es : List ℕ) (k : ℕ) → AreInOrder acs bs es → slice_get bs (length es) ≡ Some k → AreInOrder acs bs (es ++ k ∷ [])
ends acs bs es k o at = record {
  begun_first = o.begun_first;
  ended_first = prefix_step es bs k o.ended_first at;
  one_at_a_time = simp length-append (omega arith);
}

in_order_after : (h : List Event) (e : Event) → MayFollow h e → RunsInOrder h → RunsInOrder (h ++ e ∷ [])
in_order_after h (Push s k) may o = simp growing (accepts _ _ _ k o)
in_order_after h (Begin k) may o = simp growing (begins _ _ _ k o may.0 may.1)
in_order_after h (End k) may o = simp growing (ends _ _ _ k o may)
in_order_after h (Chain k) may o = simp growing (accepts _ _ _ k o)
in_order_after h _ may o = simp growing o

pub in_order : (layout : Layout) (h : List Event) → IsLegal layout h → RunsInOrder h
in_order layout h legal =
    legal_induction layout RunsInOrder (record { begun_first = ([], refl); ended_first = ([], refl); one_at_a_time = omega arith })
    (λ g e _ a o. in_order_after g e a.2 o) h legal

-- none runs where as many ended as begun, and else the last that was begun
module _ (layout : Layout) (h : List Event) (legal : IsLegal layout h) where
  pub idle-same : ¬ IsRunning h ↔ (length (ended h) ≡ length (begun h))
  idle-same =
      let o = in_order layout h legal in
      (λ idle. omega (arith, idle, prefix_length (ended h) (begun h) o.ended_first), λ same runs. absurd (omega arith))

  one_more : IsRunning h → length (begun h) - 1 ≡ length (ended h)
  one_more runs = omega (arith, runs, (in_order layout h legal).one_at_a_time)

  pub running-last : (k : ℕ) → (running h ≡ Some k) ↔ (IsRunning h × (slice_get (begun h) (length (begun h) - 1) ≡ Some k))
  running-last k = (
    λ at. let runs : IsRunning h = slice_get_within (begun h) (length (ended h)) k at in (runs, ap (slice_get (begun h)) (one_more runs) ∙ at),
    λ last. ap (slice_get (begun h)) (sym (one_more last.0)) ∙ last.1,
  )
