-- The callers of a new ready queue.
use Rattle.std.proofs.lemmas.List.Elements.{All-push, All-nil}
use Rattle.wq_ready.proofs.Common.{◌≡◌, ℕ, zero, suc, [], ◌∷◌, length, All, refl, arith, length-append, Identity, IsCallerOf, new_caller, new_callers}

pub length-new_callers : (ready : Identity) (n : ℕ) → length (new_callers ready n) ≡ n
length-new_callers ready zero = refl
length-new_callers ready (suc m) = omega (arith, length-append (new_callers ready m) (new_caller ready m ∷ []), length-new_callers ready m)

pub new_callers-all : (ready : Identity) (n : ℕ) → All (IsCallerOf ready) (new_callers ready n)
new_callers-all ready zero = All-nil (IsCallerOf ready)
new_callers-all ready (suc m) = All-push (IsCallerOf ready) (new_callers ready m) (new_caller ready m) (new_callers-all ready m) refl
