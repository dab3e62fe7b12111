-- The parts of a worker whose items bring values, after its steps.
use Rattle.wq_value_worker.proofs.Common.{◌≡◌, ℕ, ⊎_elim, List, [], ap, sym, refl, ◌∙◌, subst, arith, Layout, Event, begun, IsLegal, Sees, handed_in}
use Rattle.wq_value_worker.proofs.Common.{pair_owner, pair_sender, KnownValuePair, owner_of, StaysOr, Both, pairs_of, numbers_in, Moves, ValueWorkerState}
use Rattle.wq_value_worker.proofs.Common.{KeepsHanded, AreValueParts}
use Rattle.wq_words.proofs.Prefixes.{prefix_self}
use Rattle.wq_worker.proofs.Pair.{by_owner}
use Rattle.wq_worker.proofs.State.{begun_both}
use Rattle.wq_worker.proofs.Step.{state_of, moves_by}

-- what such a worker is of its parts
abbrev pub value_state_of : {V W : Type 0} → KnownValuePair V → ℕ → List (ℕ × V) → W → ValueWorkerState V W
value_state_of p tries pairs w = record { worker = state_of p.known tries (numbers_in pairs) w; brought = p.brought; unqueued = pairs }

module _ {V : Type 0} (log : List (ℕ × V)) (tries : ℕ) where
  pub keeps_still : (p : KnownValuePair V) → AreValueParts log tries p → KeepsHanded p p
  keeps_still p fit = record { learnt = record { more = prefix_self p.brought; was_whole = fit.whole; as_many = fit.whole }; handed_same = refl }

  -- where no step was made, or one by which nothing more was handed
  pub keeps_or : (old new : KnownValuePair V) → AreValueParts log tries old → StaysOr KeepsHanded old new → KeepsHanded old new
  keeps_or old new fit kept = ⊎_elim
      (λ (same : new ≡ old). subst (λ (p : KnownValuePair V). KeepsHanded old p) (sym same) (keeps_still old fit))
      (λ (keeps : KeepsHanded old new). keeps) kept

  -- nothing began, and nothing more was handed
  pub value_fit : (old new : KnownValuePair V) → AreValueParts log tries old → KeepsHanded old new → IsLegal new.known.layout new.known.seen
      → new.known.number ≡ old.known.number → new.known.layout ≡ old.known.layout → begun new.known.seen ≡ begun old.known.seen
      → AreValueParts log tries new
  value_fit old new fit keeps legal same size now = record {
    legal = legal;
    numbered = omega (arith, fit.numbered, same, ap (λ (l : Layout). l.senders) size);
    some_try = fit.some_try;
    whole = keeps.learnt.as_many;
    logged = fit.logged ∙ (ap (λ (ks : List ℕ). pairs_of ks (handed_in (owner_of old))) (sym now)
        ∙ ap (pairs_of (begun new.known.seen)) (sym keeps.handed_same));
  }

  -- where events were added by which nothing begins
  pub value_fit_both : (xs : List Event) (old new : KnownValuePair V) → begun xs ≡ [] → AreValueParts log tries old → KeepsHanded old new
      → Both xs 0 old.known new.known → AreValueParts log tries new
  value_fit_both xs old new none fit keeps b =
      value_fit old new fit keeps b.legal b.number_is b.layout_is (begun_both xs old.known new.known none b)

-- the owner made steps
module _ {V : Type 0} (xs : List Event) (n m : ℕ) (old new : KnownValuePair V) (mine : Sees xs n (pair_owner old.known) (pair_owner new.known))
    (others : Sees [] m (pair_sender old.known) (pair_sender new.known)) where
  pub value_fit_owner : (log : List (ℕ × V)) (tries : ℕ) → begun xs ≡ [] → AreValueParts log tries old → KeepsHanded old new → AreValueParts log tries new
  value_fit_owner log tries none fit keeps = value_fit_both log tries xs old new none fit keeps (by_owner xs n m old.known new.known mine others)

  pub value_moves_owner : {W : Type 0} (tries : ℕ) (pairs : List (ℕ × V)) (w : W)
      → Moves xs 0 (value_state_of old tries pairs w).worker (value_state_of new tries pairs w).worker
  value_moves_owner tries pairs w =
      moves_by xs 0 tries (numbers_in pairs) (numbers_in pairs) w w old.known new.known (by_owner xs n m old.known new.known mine others)
