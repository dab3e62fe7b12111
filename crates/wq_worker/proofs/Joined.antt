-- What the owner and the sender of a worker have seen once they are one seat.
use Rattle.wq_worker.proofs.Common.{◌≡◌, ℕ, List, [], length, refl, sym, ap, ◌∙◌, subst, arith, append-nil, Layout}
use Rattle.wq_worker.proofs.Common.{Event, begun, IsRunning, IsShut, IsLegal, owner_seat, own, Grows, Known, Sees, KnownPair, pair_owner}
use Rattle.wq_worker.proofs.Common.{WorkerState}
use Rattle.wq_calls.proofs.Seated.{made_nothing}
use Rattle.wq_worker.specs.State.{IsMadeOf, IsNew}
use Rattle.wq_worker.proofs.Owned.{owner_grows}
use Rattle.wq_calls.proofs.PhaseKept.{phase_grown, open_still}

module _ (owner : Known) (p : KnownPair) (met : Sees [] 0 owner (pair_owner p)) where
  pub joined_grows : Grows owner_seat [] 0 owner.seen p.seen
  joined_grows = subst (λ (z : ℕ). Grows z [] 0 owner.seen p.seen) (sym met.same.number_is) met.grows

  pub joined_begun : begun owner.seen ≡ [] → begun p.seen ≡ []
  joined_begun none = (owner_grows [] 0 owner.seen p.seen joined_grows).begun_is ∙ (append-nil (begun owner.seen) ∙ none)

  pub joined_idle : begun owner.seen ≡ [] → ¬ IsRunning p.seen
  joined_idle none runs = omega (arith, runs, ap (λ (ks : List ℕ). length ks) (joined_begun none))

  pub joined_open : ¬ IsShut owner.seen → ¬ IsShut p.seen
  joined_open = open_still owner.seen p.seen (phase_grown [] 0 owner.seen p.seen joined_grows refl)

-- a worker of two seats that had seen nothing
pub made_new : {W : Type 0} (layout : Layout) (work : W) (tries : ℕ) (owner sender : Known) (w : WorkerState W) → owner.layout ≡ layout → owner.seen ≡ []
    → sender.seen ≡ [] → IsMadeOf owner sender work tries w → Grows owner_seat [] 0 owner.seen w.seen → Grows sender.number [] 0 sender.seen w.seen
    → IsLegal w.layout w.seen → ¬ IsRunning w.seen → IsNew layout work tries w
made_new layout work tries owner sender w size none nothing parts owned sent legal idle = record {
  layout_is = parts.1 ∙ size;
  tries_is = parts.3;
  unqueued_is = parts.4;
  work_is = parts.5;
  legal = legal;
  idle = idle;
  untouched = made_nothing owner_seat 0 owner.seen w.seen none owned;
  unsent = subst (λ (k : ℕ). own k w.seen ≡ []) (sym parts.2) (made_nothing sender.number 0 sender.seen w.seen nothing sent);
}

-- a queue that was open before anything was seen of it
pub made_open : (v w : List Event) → v ≡ [] → (¬ IsShut v → ¬ IsShut w) → ¬ IsShut w
made_open v w none opens = opens (λ is. let shut : IsShut [] = subst IsShut none is in omega (arith, shut))
