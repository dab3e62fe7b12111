-- A text is spelled in one way at most, or refused for one fault at most, and never both.
use Rattle.wq_text.proofs.Common.{◌≡◌, ℕ, ◌+◌, ◌⊎◌, List, [], ◌∷◌, ◌++◌, length, Option, Some, Result, Ok, Err, refl, sym, ap, ◌∙◌, arith, subst, inl, inr}
use Rattle.wq_text.proofs.Common.{option_to_list, Layout, FaultKind, ScriptError, Awaited, layout_at, Lines, LinesLead, Spells, end_fault, HasLineFault, IsRefusal}
use Rattle.wq_text.proofs.Common.{HasOneOutcome, same_Some}
use Rattle.wq_text.specs.declared.header.Awaited.TheVariants as awaited
use Rattle.wq_words.proofs.Lists.{none_cons}
use Rattle.wq_words.proofs.Cases.{same_ok, same_err, ok_is_no_err}

-- a header that is whole has no fault
pub whole_or_not : (s : Awaited) (layout : Layout) (k : FaultKind) → layout_at s ≡ Some layout → end_fault s ≡ Some k → ⊥
whole_or_not awaited.Version layout k whole fault = cc
whole_or_not _ layout k whole fault = cc

heads : {a b : List ℕ} {xs ys : List (List ℕ)} → a ∷ xs ≡ b ∷ ys → a ≡ b
heads e = cc

tails : {a b : List ℕ} {xs ys : List (List ℕ)} → a ∷ xs ≡ b ∷ ys → xs ≡ ys
tails e = cc

pub same_error : (e f : ScriptError) → e.line ≡ f.line → e.kind ≡ f.kind → e ≡ f
same_error e f p q = λ i. record { line = p i; kind = q i }

module _ {A : Type 0} (gives : Lines A) where
  -- no line is read behind this one
  abbrev Stops : Awaited → List ℕ → List (List ℕ) → Type 0
  Stops s line behind = (behind ≡ []) ⊎ ((k : FaultKind) × (gives s line ≡ Err k))

  -- where two readings stop, they are one
  record IsSameStop (s t : Awaited) (asked others : List A) (line other : List ℕ) (behind rest : List (List ℕ)) (n m : ℕ) : Type 0 where
    reached : s ≡ t
    asking : asked ≡ others
    faulty : line ≡ other
    after : behind ≡ rest
    number : n ≡ m

  goes_on : (s t : Awaited) (line other : List ℕ) (behind lines rest : List (List ℕ)) (f : List ℕ) (x : Awaited × Option A) → s ≡ t
      → line ∷ behind ≡ other ∷ (lines ++ f ∷ rest) → gives s other ≡ Ok x → Stops t line behind → ⊥
  goes_on s t line other behind lines rest f x here same given (inl none) = none_cons lines f rest (sym (tails same) ∙ none)
  goes_on s t line other behind lines rest f x here same given (inr stop) =
      ok_is_no_err (sym given ∙ ap (gives s) (sym (heads same)) ∙ ap (λ r. gives r line) here ∙ stop.1)

  stops_once : (s t r : Awaited) (before lines : List (List ℕ)) (line other : List ℕ) (behind rest : List (List ℕ)) (asked others : List A)
      → before ++ line ∷ behind ≡ lines ++ other ∷ rest
      → LinesLead gives s before t asked → LinesLead gives s lines r others → Stops t line behind → Stops r other rest
      → IsSameStop t r asked others line other behind rest (length before) (length lines)
  stops_once s t r [] [] line other behind rest asked others same leads leads_too stops stops_too =
      record { reached = sym leads.0 ∙ leads_too.0; asking = leads.1 ∙ sym leads_too.1; faulty = heads same; after = tails same; number = refl }
  stops_once s t r [] (first ∷ lines) line other behind rest asked others same leads leads_too stops stops_too =
      absurd (goes_on s t line first behind lines rest other leads_too.0 leads.0 same leads_too.2 stops)
  stops_once s t r (first ∷ before) [] line other behind rest asked others same leads leads_too stops stops_too =
      absurd (goes_on s r other first rest before behind line leads.0 leads_too.0 (sym same) leads.2 stops_too)
  stops_once s t r (first ∷ before) (second ∷ lines) line other behind rest asked others same leads leads_too stops stops_too =
      let next : leads_too.0 ≡ leads.0 = same_ok (sym leads_too.2 ∙ ap (gives s) (sym (heads same)) ∙ leads.2) in
      let P : Awaited × Option A → Type 0 = λ x. LinesLead gives x.0 lines r leads_too.1 in
      let more = stops_once leads.0.0 t r before lines line other behind rest leads.1 leads_too.1 (tails same) leads.4
      (subst P next leads_too.4) stops stops_too in
      let also : others ≡ option_to_list leads.0.1 ++ leads_too.1 = leads_too.3 ∙ ap (λ (x : Awaited × Option A). option_to_list x.1 ++ leads_too.1) next in
      let asking = leads.3 ∙ ap (λ (xs : List A). option_to_list leads.0.1 ++ xs) more.asking ∙ sym also in
      record { reached = more.reached; asking = asking; faulty = more.faulty; after = more.after; number = omega (arith, more.number) }

  fault_stops : (s : Awaited) (line : List ℕ) (behind : List (List ℕ)) (k : FaultKind) → HasLineFault gives s line behind k → Stops s line behind
  fault_stops s line [] k fault = inl refl
  fault_stops s line (next ∷ more) k fault = inr (k, fault)

  fault_once : (s : Awaited) (line : List ℕ) (behind : List (List ℕ)) (k j : FaultKind) → HasLineFault gives s line behind k
      → HasLineFault gives s line behind j → k ≡ j
  fault_once s line (next ∷ more) k j fault too = same_err (sym fault ∙ too)
  fault_once s (b ∷ bs) [] k j fault too = fault ∙ sym too
  fault_once s [] [] k j fault too = same_Some _ _ (sym fault ∙ too)

  module _ (text : List ℕ) where
    spelled_once : (layout other : Layout) (asked others : List A) → Spells gives text layout asked → Spells gives text other others
        → ◌≡◌ {A = Result (Layout × List A) ScriptError} (Ok (layout, asked)) (Ok (other, others))
    spelled_once layout other asked others x y =
        let one = stops_once awaited.Version x.reached y.reached x.lines y.lines [] [] [] [] asked others (sym x.split ∙ y.split) x.leads y.leads
        (inl refl) (inl refl) in
        same (sym x.whole ∙ ap layout_at one.reached ∙ y.whole) one.asking
      where
        same : {a b : Layout} {c d : List A} → Some a ≡ Some b → c ≡ d → ◌≡◌ {A = Result (Layout × List A) ScriptError} (Ok (a, c)) (Ok (b, d))
        same p q = cc

    never_both : (layout : Layout) (asked : List A) (e : ScriptError) → Spells gives text layout asked → IsRefusal gives text e → ⊥
    never_both layout asked e x (inl long) = omega (arith, x.short, long.0)
    never_both layout asked e x (inr y) =
        let one = stops_once awaited.Version x.reached y.reached x.lines y.before [] y.faulty [] y.behind asked y.asked
        (sym x.split ∙ y.split) x.leads y.leads (inl refl) (fault_stops y.reached y.faulty y.behind e.kind y.fault) in
        let P : Awaited → Type 0 = λ s. HasLineFault gives s y.faulty y.behind e.kind in
        let Q : List ℕ → Type 0 = λ line. HasLineFault gives x.reached line y.behind e.kind in
        let R : List (List ℕ) → Type 0 = λ ps. HasLineFault gives x.reached [] ps e.kind in
        whole_or_not x.reached layout e.kind x.whole (subst R (sym one.after) (subst Q (sym one.faulty) (subst P (sym one.reached) y.fault)))

    refused_once : (e f : ScriptError) → IsRefusal gives text e → IsRefusal gives text f → e ≡ f
    refused_once e f (inl x) (inl y) = x.1 ∙ sym y.1
    refused_once e f (inl x) (inr y) = absurd (omega (arith, x.0, y.short))
    refused_once e f (inr x) (inl y) = absurd (omega (arith, y.0, x.short))
    refused_once e f (inr x) (inr y) =
        let one = stops_once awaited.Version x.reached y.reached x.before y.before x.faulty y.faulty x.behind y.behind x.asked y.asked
        (sym x.split ∙ y.split) x.leads y.leads
        (fault_stops x.reached x.faulty x.behind e.kind x.fault) (fault_stops y.reached y.faulty y.behind f.kind y.fault) in
        let P : Awaited → Type 0 = λ s. HasLineFault gives s y.faulty y.behind f.kind in
        let Q : List ℕ → Type 0 = λ line. HasLineFault gives x.reached line y.behind f.kind in
        let R : List (List ℕ) → Type 0 = λ ps. HasLineFault gives x.reached x.faulty ps f.kind in
        let too = subst R (sym one.after) (subst Q (sym one.faulty) (subst P (sym one.reached) y.fault)) in
        same_error e f (x.number ∙ ap (λ n. 1 + n) one.number ∙ sym y.number) (fault_once x.reached x.faulty x.behind e.kind f.kind x.fault too)

    pub one_outcome : HasOneOutcome gives text
    one_outcome (Ok x) (Ok y) a b = spelled_once x.0 y.0 x.1 y.1 a b
    one_outcome (Ok x) (Err f) a b = absurd (never_both x.0 x.1 f a b)
    one_outcome (Err e) (Ok y) a b = absurd (never_both y.0 y.1 e b a)
    one_outcome (Err e) (Err f) a b = ap (λ (x : ScriptError). Err x) (refused_once e f a b)
