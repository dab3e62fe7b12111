-- The execution of a number begins, with what its own queueing brought.
use Rattle.wq_value_worker.proofs.Common.{◌≡◌, ℕ, ◌<◌, ◌≤◌, List, [], ◌∷◌, ◌++◌, length, Option, Some, None, slice_get, refl, sym, ap, ◌∙◌, subst, arith}
use Rattle.wq_value_worker.proofs.Common.{Layout, Begin, begun, IsRunning, IsLegal, Sees, Learnt, handed_in, pair_owner, pair_sender, KnownValuePair}
use Rattle.wq_value_worker.proofs.Common.{owner_of, learnt_on, taking, Both, StaysOr, MayLeave, pairs_of, numbers_in, KeepsHanded, AreValueParts}
use Rattle.wq_value_worker.proofs.Common.{BeginsValue}
use Rattle.std.proofs.lemmas.List.{length-take-le}
use Rattle.wq_words.specs.Valued.{Carries}
use Rattle.wq_value_worker.specs.Deals.{item, other}
use Rattle.wq_worker.proofs.Pair.{both_on, by_owner}
use Rattle.wq_worker.proofs.State.{begun_both, begun_one, quiet_taking}
use Rattle.wq_worker.proofs.Step.{begins_by}
use Rattle.wq_value_worker.proofs.ValueState.{value_state_of, keeps_or}
use Rattle.wq_value_worker.proofs.Logged.{few_begun}
use Rattle.wq_value_worker.proofs.Returned.{gives_none, pairs_push, pairs_pass, with_item, with_other}

module _ {V : Type 0} where
  -- k begins, and y is what its own queueing brought
  pub record BeginsWith (k : ℕ) (y : Option V) (old new : KnownValuePair V) : Type 0 where
    pub both : Both (taking old.known.seen ++ Begin k ∷ []) 0 old.known new.known
    pub learnt : Learnt (owner_of old) (owner_of new)
    pub handed : handed_in (owner_of new) ≡ handed_in (owner_of old) ++ y ∷ []
    pub value : slice_get new.brought (length (begun old.known.seen)) ≡ Some y
    pub kind : Carries old.known.layout.items k y

  -- by a take where nothing taken waits, and a begin
  pub begins_with : (k : ℕ) (y : Option V) (log : List (ℕ × V)) (tries : ℕ) (old mid new : KnownValuePair V) → AreValueParts log tries old
      → Both (taking old.known.seen) 0 old.known mid.known → StaysOr KeepsHanded old mid → Sees (Begin k ∷ []) 0 (pair_owner mid.known) (pair_owner new.known)
      → Sees [] 0 (pair_sender mid.known) (pair_sender new.known) → Learnt (owner_of mid) (owner_of new)
      → handed_in (owner_of new) ≡ handed_in (owner_of mid) ++ y ∷ [] → slice_get new.brought (length (begun mid.known.seen)) ≡ Some y
      → Carries mid.known.layout.items k y → BeginsWith k y old new
  begins_with k y log tries old mid new fit took kept began others learnt handed value kind =
      let xs = taking old.known.seen in let keeps = keeps_or log tries old mid fit kept in
      let same = begun_both xs old.known mid.known (quiet_taking old.known.seen).begun_none took in
      record {
        both = both_on xs (Begin k ∷ []) 0 0 old.known mid.known new.known took (by_owner (Begin k ∷ []) 0 0 mid.known new.known began others);
        learnt = learnt_on (owner_of old) (owner_of mid) (owner_of new) keeps.learnt learnt;
        handed = handed ∙ ap (λ (ys : List (Option V)). ys ++ y ∷ []) keeps.handed_same;
        value = subst (λ (ks : List ℕ). slice_get new.brought (length ks) ≡ Some y) same value;
        kind = subst (λ (l : Layout). Carries l.items k y) took.layout_is kind;
      }

  -- the log goes on by the pair
  module _ (k tries : ℕ) (log : List (ℕ × V)) (old new : KnownValuePair V) (fit : AreValueParts log tries old) where
    as_many : length (handed_in (owner_of old)) ≡ length (begun old.known.seen)
    as_many = length-take-le (length (begun old.known.seen)) old.brought (few_begun old.known.layout old.known.seen old.brought fit.legal fit.whole)

    fit_handed : (y : Option V) (more : List (ℕ × V)) → BeginsWith k y old new
        → more ≡ pairs_of (begun old.known.seen ++ k ∷ []) (handed_in (owner_of old) ++ y ∷ []) → AreValueParts more tries new
    fit_handed y more b is = record {
      legal = b.both.legal;
      numbered = omega (arith, fit.numbered, b.both.number_is, ap (λ (l : Layout). l.senders) b.both.layout_is);
      some_try = fit.some_try;
      whole = b.learnt.as_many;
      logged = is ∙ (λ i. pairs_of (sym (begun_one k old.known new.known b.both) i) (sym b.handed i));
    }

    pub fit_item : (v : V) (more : List (ℕ × V)) → BeginsWith k (Some v) old new → more ≡ log ++ (k, v) ∷ [] → AreValueParts more tries new
    fit_item v more b ran = fit_handed (Some v) more b (ran ∙ (ap (λ (z : List (ℕ × V)). z ++ (k, v) ∷ []) fit.logged ∙
        sym (pairs_push (begun old.known.seen) (handed_in (owner_of old)) k v as_many)))

    pub fit_other : BeginsWith k None old new → AreValueParts log tries new
    fit_other b = fit_handed None log b (fit.logged ∙ sym (pairs_pass (begun old.known.seen) (handed_in (owner_of old)) k as_many))

module _ {V W : Type 0} (given : W → List (ℕ × V)) (may : W → ℕ → V → List (ℕ × V) → W → Type 0) (takes : W → ℕ → V → W → Type 0) (k tries : ℕ)
    (left pairs : List (ℕ × V)) (w u : W) (old new : KnownValuePair V) (legal : IsLegal old.known.layout old.known.seen)
    (idle : ¬ IsRunning old.known.seen) where
  abbrev BeginsBy : Type 0
  BeginsBy = BeginsValue given may takes (value_state_of old tries left w) k (value_state_of new tries pairs u)

  pub begins_item : (v : V) → BeginsWith k (Some v) old new → may w k v pairs u → given u ≡ given w → BeginsBy
  begins_item v b ran same = let low : k < old.known.layout.items = with_item old.known.layout.items k v b.kind in record {
    begins = begins_by (MayLeave may takes) k tries (numbers_in left) (numbers_in pairs) w u old.known new.known legal idle b.both
        (λ _. record { value = v; pairs = pairs; ran = u; numbers = refl; runs = ran; gives = gives_none takes u })
        (λ (high : old.known.layout.items ≤ k). absurd (omega (arith, low, high)));
    asks = item k v idle b.value ran refl;
    given_same = same;
  }

  pub begins_other : BeginsWith k None old new → pairs ≡ [] → u ≡ w → BeginsBy
  begins_other b none same = let high : old.known.layout.items ≤ k = with_other old.known.layout.items k b.kind in record {
    begins = begins_by (MayLeave may takes) k tries (numbers_in left) (numbers_in pairs) w u old.known new.known legal idle b.both
        (λ (low : k < old.known.layout.items). absurd (omega (arith, low, high))) (λ _. (ap numbers_in none, same));
    asks = other k idle high none same refl;
    given_same = ap given same;
  }
