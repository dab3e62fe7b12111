-- What the owner knows of its next number stays while others alone add events.
use Rattle.wq_calls.proofs.Common.{◌≡◌, ℕ, ◌<◌, false, List, [], ◌++◌, ap, ◌∙◌, subst, arith, Layout, Event, IsLegal, owner_seat, own, next_of}
use Rattle.std.proofs.Common.{◌==◌, slice_get}
use Rattle.std.proofs.lemmas.Bool.Decides.{nat_tests}
use Rattle.wq_calls.proofs.OwnerStays.{batch_still}

pub next_still : (layout : Layout) (v w new : List Event) → w ≡ v ++ new → IsLegal layout w → own owner_seat new ≡ [] → next_of w ≡ next_of v
next_still layout v w new is legal none =
    ap next_of is ∙ ap (λ (ks : List ℕ). slice_get ks 0) (batch_still layout v new (subst (IsLegal layout) is legal) none)

-- a number that is not zero
pub some_fresh : (n : ℕ) → (n == 0) ≡ false → 0 < n
some_fresh n is = grind (arith, nat_tests)
