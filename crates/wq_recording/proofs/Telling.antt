-- What follows of what a checker was told: where the first event of a line is not legal, and that all before it are.
use Rattle.wq_recording.proofs.Common.{◌≡◌, List, [], ◌∷◌, Option, Some, None, refl, sym, ap, subst, ◌∙◌, append-nil, Layout, Cause, Awaited, Rules, ViolatesAmong}
use Rattle.wq_recording.proofs.Common.{layout_at, HasTold, IsMadeAt, same_Some}

pub first_violates : {A E : Type 0} (rules : Rules A E) (layout : Layout) (h : List E) (event : E) (rest : List E) (IsAfter : List E → Type 0) (cause : Cause)
    → IsAfter h → rules.HasCause layout h event cause → ViolatesAmong rules layout h (event ∷ rest) IsAfter cause
first_violates {A} {E} rules layout h event rest IsAfter cause after caused =
    let P : List E → Type 0 = λ g. rules.HasCause layout g event cause in
    record {
      first = [];
      event = event;
      rest = rest;
      cut = refl;
      after = subst IsAfter (sym (append-nil h)) after;
      caused = subst P (sym (append-nil h)) caused;
    }

-- behind a whole header all that was told is legal
module _ {A E C : Type 0} (rules : Rules A E) (layout_of : C → Layout) (after : C → List E → Type 0) (begins : (l : Layout) → rules.IsLegal l [])
    (legal : (c : C) (h : List E) → after c h → rules.IsLegal (layout_of c) h) where
  pub told_legal : (s : Awaited) (layout : Layout) (checker : Option C) (h : List E) → layout_at s ≡ Some layout → IsMadeAt layout_of s checker
      → HasTold after checker h → rules.IsLegal layout h
  told_legal s layout None h here made told = let P : List E → Type 0 = λ g. rules.IsLegal layout g in subst P (sym told) (begins layout)
  told_legal s layout (Some c) h here made told =
      let P : Layout → Type 0 = λ l. rules.IsLegal l h in
      let is : Some (layout_of c) ≡ Some layout = sym (ap layout_at made) ∙ here in
      subst P (same_Some _ _ is) (legal c h told)
