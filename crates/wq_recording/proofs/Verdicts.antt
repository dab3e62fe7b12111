-- A text has one verdict at most.
use Rattle.wq_recording.proofs.Common.{◌≡◌, ◌≢◌, ℕ, ◌+◌, List, [], ◌∷◌, ◌++◌, length, Option, Some, None, Result, Ok, Err, refl, sym, ap, subst, ◌∙◌}
use Rattle.wq_recording.proofs.Common.{inl, inr, flat_map, option_to_list, append_assoc, append-nil, Layout, Cause, FaultKind, ScriptError, Awaited, Lines}
use Rattle.wq_recording.proofs.Common.{LinesLead, layout_at, Violation, Rules, Verdict, IsLineAt, IsLegalText, IsFirstViolation, IsRefusedText, HasVerdict}
use Rattle.wq_recording.proofs.Common.{HasFaultAt, same_Some}
use Rattle.wq_text.proofs.Leading.{same_lead, LeadsThrough, through, stays_through}
use Rattle.wq_words.proofs.TwoPlaces.{Places, places}
use Rattle.wq_text.specs.declared.header.Awaited.TheVariants as awaited
use Rattle.wq_text.proofs.Outcomes.{whole_or_not, same_error}
use Rattle.std.proofs.lemmas.Grind.{flat_map-append}
use Rattle.wq_words.proofs.Lists.{none_cons}
use Rattle.wq_words.proofs.Cases.{same_ok, same_err, ok_is_no_err}

same_violation : (x y : Violation) → x.line ≡ y.line → x.cause ≡ y.cause → x ≡ y
same_violation x y p q = λ i. record { line = p i; cause = q i }

same_verdict : {E : Type 0} (v w : Verdict E) → v.layout ≡ w.layout → v.events ≡ w.events → v.violation ≡ w.violation → v ≡ w
same_verdict v w p q r = λ i. record { layout = p i; events = q i; violation = r i }

-- what the rules of a kind of recording and its lines are to promise
pub record AreFit {A E : Type 0} (gives : Lines A) (rules : Rules A E) : Type 0 where
  pub stays : (l : Layout) (line : List ℕ) (next : Awaited) (one : Option A) → gives (awaited.Commands l) line ≡ Ok (next, one) → next ≡ awaited.Commands l
  pub asks : (s next : Awaited) (a : A) (line : List ℕ) → gives s line ≡ Ok (next, Some a) → (l : Layout) × (next ≡ awaited.Commands l)
  pub uncaused : (layout : Layout) (h : List E) (e : E) (more : List E) (c : Cause) → rules.IsLegal layout (h ++ e ∷ more) → rules.HasCause layout h e c → ⊥
  pub one_cause : (layout : Layout) (h : List E) (e : E) (c d : Cause) → rules.HasCause layout h e c → rules.HasCause layout h e d → c ≡ d

module _ {A E : Type 0} (gives : Lines A) (rules : Rules A E) (fit : AreFit gives rules) (text : List ℕ) where
  -- what is legal where lines lead to, with more behind it
  abbrev LegalTo : Awaited → List A → List E → Type 0
  LegalTo t asked tail = (layout : Layout) → t ≡ awaited.Commands layout → rules.IsLegal layout (flat_map rules.tells asked ++ tail)

  -- no line that stops is passed by legal ones
  violation_passed : (layout : Layout) (events : List E) (violation : Violation) (x : IsFirstViolation gives rules text layout events violation)
      (more : List (List ℕ)) (t : Awaited)
      (asked : List A) (tail : List E) → LinesLead gives awaited.Version (x.at.before ++ x.line ∷ more) t asked → LegalTo t asked tail → ⊥
  violation_passed layout events violation x more t asked tail leads legal =
      let y = through gives awaited.Version t x.at.before x.line more asked leads in
      let same = same_lead gives awaited.Version x.reached y.reached x.at.before x.asked y.first x.at.leads y.leads in
      let one : (y.next, y.one) ≡ (x.next, Some x.one) = same_ok (sym y.given ∙ ap (λ s. gives s x.line) (sym same.0) ∙ x.given) in
      let c = fit.asks x.reached x.next x.one x.line x.given in
      let next : y.next ≡ awaited.Commands c.0 = ap (λ (z : Awaited × Option A). z.0) one ∙ c.1 in
      let told : y.one ≡ Some x.one = ap (λ (z : Awaited × Option A). z.1) one in
      let P : Awaited → Type 0 = λ s. LinesLead gives s more t y.rest in
      let at_end : t ≡ awaited.Commands c.0 = stays_through gives fit.stays c.0 more t y.rest (subst P next y.goes) in
      let has : c.0 ≡ layout = same_Some _ _ (sym (ap layout_at c.1) ∙ x.whole) in
      let others = flat_map rules.tells y.rest in
      let first = flat_map rules.tells x.asked in
      let all : flat_map rules.tells asked ≡ first ++ ((x.first ++ x.event ∷ x.rest) ++ others) =
      ap (flat_map rules.tells) (y.asks ∙ ap (λ zs. zs ++ (option_to_list y.one ++ y.rest)) (sym same.1)
      ∙ ap (λ o. x.asked ++ (option_to_list o ++ y.rest)) told)
      ∙ flat_map-append rules.tells x.asked (x.one ∷ y.rest) ∙ ap (λ zs. first ++ (zs ++ others)) x.cut in
      let shape : flat_map rules.tells asked ++ tail ≡ (first ++ x.first) ++ x.event ∷ (x.rest ++ (others ++ tail)) =
      ap (λ zs. zs ++ tail) all ∙ simp append_assoc in
      let Q : List E → Type 0 = λ h. rules.IsLegal layout h in
      let S : Layout → Type 0 = λ l. rules.IsLegal l (flat_map rules.tells asked ++ tail) in
      let R : List E → Type 0 = λ h. rules.HasCause layout h x.event violation.cause in
      fit.uncaused layout (first ++ x.first) x.event (x.rest ++ (others ++ tail)) violation.cause (subst Q shape (subst S has (legal c.0 at_end)))
      (subst R x.events_are x.caused)

  -- nor is a line that has a fault
  fault_passed : (e : ScriptError) (x : IsRefusedText gives rules text e) (more : List (List ℕ)) (t : Awaited) (asked : List A)
      → x.behind ≢ [] → LinesLead gives awaited.Version (x.at.before ++ x.line ∷ more) t asked → ⊥
  fault_passed e x more t asked ended leads = by_behind x.behind x.fault ended
    where
      y : LeadsThrough gives awaited.Version t x.at.before x.line more asked
      y = through gives awaited.Version t x.at.before x.line more asked leads

      by_behind : (behind : List (List ℕ)) → HasFaultAt gives rules text x.reached x.line behind e.kind → behind ≢ [] → ⊥
      by_behind [] fault ended = ended refl
      by_behind (next ∷ rest) fault ended =
          let same = same_lead gives awaited.Version x.reached y.reached x.at.before x.asked y.first x.at.leads y.leads in
          ok_is_no_err (sym y.given ∙ ap (λ s. gives s x.line) (sym same.0) ∙ fault)

  cut : (n m : ℕ) (s t : Awaited) (asked others : List A) (line other : List ℕ) (behind rest : List (List ℕ))
      → (x : IsLineAt gives text n s asked line behind) (y : IsLineAt gives text m t others other rest) → Places x.before y.before line other behind rest
  cut n m s t asked others line other behind rest x y = places x.before y.before line other behind rest (sym x.split ∙ y.split)

  led : (s : Awaited) (asked : List A) (before lines : List (List ℕ)) → before ≡ lines → LinesLead gives awaited.Version before s asked
      → LinesLead gives awaited.Version lines s asked
  led s asked before lines same leads = let P : List (List ℕ) → Type 0 = λ ls. LinesLead gives awaited.Version ls s asked in subst P same leads

  one_lead : (s t : Awaited) (asked others : List A) (before lines : List (List ℕ)) → before ≡ lines → LinesLead gives awaited.Version before s asked
      → LinesLead gives awaited.Version lines t others → (s ≡ t) × (asked ≡ others)
  one_lead s t asked others before lines same leads too = same_lead gives awaited.Version s t lines asked others (led s asked before lines same leads) too

  legal_of_text : (layout : Layout) (events : List E) (x : IsLegalText gives rules text layout events) → LegalTo x.reached x.asked []
  legal_of_text layout events x = λ l e.
      let P : Layout → Type 0 = λ m. rules.IsLegal m events in
      let Q : List E → Type 0 = λ h. rules.IsLegal l h in
      subst Q (x.events_are ∙ sym (append-nil (flat_map rules.tells x.asked))) (subst P (same_Some _ _ (sym x.whole ∙ ap layout_at e)) x.legal)

  legal_of_violation : (layout : Layout) (events : List E) (violation : Violation) (x : IsFirstViolation gives rules text layout events violation)
      → LegalTo x.reached x.asked x.first
  legal_of_violation layout events violation x = λ l e.
      let P : Layout → Type 0 = λ m. rules.IsLegal m events in
      let Q : List E → Type 0 = λ h. rules.IsLegal l h in
      let G : Awaited → Type 0 = λ s. gives s x.line ≡ Ok (x.next, Some x.one) in
      let next = fit.stays l x.line x.next (Some x.one) (subst G e x.given) in
      subst Q x.events_are (subst P (same_Some _ _ (sym x.whole ∙ ap layout_at next)) x.legal)

  legal_of_refused : (e : ScriptError) (x : IsRefusedText gives rules text e) → LegalTo x.reached x.asked []
  legal_of_refused e x = λ l is.
      let Q : List E → Type 0 = λ h. rules.IsLegal l h in subst Q (sym (append-nil (flat_map rules.tells x.asked))) (x.legal l (ap layout_at is))

  both_legal : (l m : Layout) (h k : List E) → IsLegalText gives rules text l h → IsLegalText gives rules text m k → (l ≡ m) × (h ≡ k)
  both_legal l m h k x y = by_place (cut x.number y.number x.reached y.reached x.asked y.asked [] [] [] [] x.at y.at)
    where
      by_place : Places x.at.before y.at.before [] [] [] [] → (l ≡ m) × (h ≡ k)
      by_place (inl s) =
          let same = one_lead x.reached y.reached x.asked y.asked x.at.before y.at.before s.before x.at.leads y.at.leads in
          (same_Some _ _ (sym x.whole ∙ ap layout_at same.0 ∙ y.whole), x.events_are ∙ ap (flat_map rules.tells) same.1 ∙ sym y.events_are)
      by_place (inr (inl s)) = absurd (none_cons s.more [] [] (sym s.after))
      by_place (inr (inr s)) = absurd (none_cons s.more [] [] (sym s.after))

  legal_violates : (l m : Layout) (h k : List E) (violation : Violation) → IsLegalText gives rules text l h
      → IsFirstViolation gives rules text m k violation → ⊥
  legal_violates l m h k violation x y = by_place (cut x.number violation.line x.reached y.reached x.asked y.asked [] y.line [] y.behind x.at y.at)
    where
      by_place : Places x.at.before y.at.before [] y.line [] y.behind → ⊥
      by_place (inl s) = y.ended (sym s.after)
      by_place (inr (inl s)) = none_cons s.more y.line y.behind (sym s.after)
      by_place (inr (inr s)) =
          violation_passed m k violation y s.more x.reached x.asked [] (led x.reached x.asked x.at.before _ s.before x.at.leads) (legal_of_text l h x)

  legal_refused : (l : Layout) (h : List E) (e : ScriptError) → IsLegalText gives rules text l h → IsRefusedText gives rules text e → ⊥
  legal_refused l h e x y = by_place (cut x.number e.line x.reached y.reached x.asked y.asked [] y.line [] y.behind x.at y.at)
    where
      by_place : Places x.at.before y.at.before [] y.line [] y.behind → ⊥
      by_place (inl s) =
          let same = one_lead x.reached y.reached x.asked y.asked x.at.before y.at.before s.before x.at.leads y.at.leads in
          let P : Awaited → Type 0 = λ t. HasFaultAt gives rules text t y.line y.behind e.kind in
          let Q : List ℕ → Type 0 = λ line. HasFaultAt gives rules text x.reached line y.behind e.kind in
          let R : List (List ℕ) → Type 0 = λ ps. HasFaultAt gives rules text x.reached [] ps e.kind in
          whole_or_not x.reached l e.kind x.whole (subst R (sym s.after) (subst Q (sym s.here) (subst P (sym same.0) y.fault)))
      by_place (inr (inl s)) = none_cons s.more y.line y.behind (sym s.after)
      by_place (inr (inr s)) =
          fault_passed e y s.more x.reached x.asked (λ none. none_cons s.more [] [] (sym s.after ∙ none))
          (led x.reached x.asked x.at.before _ s.before x.at.leads)

  -- of one line the first event that is not legal is one
  one_violation : (layout : Layout) (h told : List E) (first others : List E) (e f : E) (rest more : List E) (c d : Cause)
      → first ++ e ∷ rest ≡ others ++ f ∷ more
      → rules.IsLegal layout (h ++ first) → rules.IsLegal layout (h ++ others) → rules.HasCause layout (h ++ first) e c
      → rules.HasCause layout (h ++ others) f d
      → (first ≡ others) × (c ≡ d)
  one_violation layout h told first others e f rest more c d same legal too caused also = by_place (places first others e f rest more same)
    where
      by_place : Places first others e f rest more → (first ≡ others) × (c ≡ d)
      by_place (inl s) =
          let P : List E → Type 0 = λ hs. rules.HasCause layout (h ++ hs) f d in
          let Q : E → Type 0 = λ g. rules.HasCause layout (h ++ first) g d in
          (s.before, fit.one_cause layout (h ++ first) e c d caused (subst Q (sym s.here) (subst P (sym s.before) also)))
      by_place (inr (inl s)) =
          let P : List E → Type 0 = λ hs. rules.IsLegal layout hs in
          absurd (fit.uncaused layout (h ++ first) e s.more c (subst P (ap (λ hs. h ++ hs) s.before ∙ sym (append_assoc h first (e ∷ s.more))) too) caused)
      by_place (inr (inr s)) =
          let P : List E → Type 0 = λ hs. rules.IsLegal layout hs in
          absurd (fit.uncaused layout (h ++ others) f s.more d (subst P (ap (λ hs. h ++ hs) s.before ∙ sym (append_assoc h others (f ∷ s.more))) legal) also)

  both_violate : (l m : Layout) (h k : List E) (violation end : Violation) → IsFirstViolation gives rules text l h violation
      → IsFirstViolation gives rules text m k end
      → (l ≡ m) × (h ≡ k) × (violation ≡ end)
  both_violate l m h k violation end x y = by_place (cut violation.line end.line x.reached y.reached x.asked y.asked x.line y.line x.behind y.behind x.at y.at)
    where
      by_place : Places x.at.before y.at.before x.line y.line x.behind y.behind → (l ≡ m) × (h ≡ k) × (violation ≡ end)
      by_place (inl s) =
          let same = one_lead x.reached y.reached x.asked y.asked x.at.before y.at.before s.before x.at.leads y.at.leads in
          let one : (x.next, Some x.one) ≡ (y.next, Some y.one) =
          same_ok (sym x.given ∙ ap (λ t. gives t x.line) same.0 ∙ ap (gives y.reached) s.here ∙ y.given) in
          let layout : l ≡ m = same_Some _ _ (sym x.whole ∙ ap (λ (z : Awaited × Option A). layout_at z.0) one ∙ y.whole) in
          let told : x.one ≡ y.one = same_Some _ _ (ap (λ (z : Awaited × Option A). z.1) one) in
          let first = flat_map rules.tells x.asked in
          let others = flat_map rules.tells y.asked in
          let before : others ≡ first = ap (flat_map rules.tells) (sym same.1) in
          let P : List E → Type 0 = λ hs. rules.IsLegal l hs in
          let Q : Layout → Type 0 = λ n. rules.IsLegal n k in
          let R : List E → Type 0 = λ hs. rules.HasCause l hs x.event violation.cause in
          let S : Layout → Type 0 = λ n. rules.HasCause n k y.event end.cause in
          let T : List E → Type 0 = λ hs. rules.HasCause l hs y.event end.cause in
          let also : k ≡ first ++ y.first = y.events_are ∙ ap (λ hs. hs ++ y.first) before in
          let found = one_violation l first (rules.tells x.one) x.first y.first x.event y.event x.rest y.rest violation.cause end.cause
          (sym x.cut ∙ ap rules.tells told ∙ y.cut)
          (subst P x.events_are x.legal) (subst P also (subst Q (sym layout) y.legal))
          (subst R x.events_are x.caused) (subst T also (subst S (sym layout) y.caused)) in (
            layout,
            x.events_are ∙ ap (λ hs. first ++ hs) found.0 ∙ sym also,
            same_violation violation end (x.at.number ∙ ap (λ ls. 1 + length ls) s.before ∙ sym y.at.number) found.1,
          )
      by_place (inr (inl s)) =
          absurd (violation_passed l h violation x s.more y.reached y.asked y.first (led y.reached y.asked y.at.before _ s.before y.at.leads)
          (legal_of_violation m k end y))
      by_place (inr (inr s)) =
          absurd (violation_passed m k end y s.more x.reached x.asked x.first (led x.reached x.asked x.at.before _ s.before x.at.leads)
          (legal_of_violation l h violation x))

  -- a line with others behind it that has a fault gives nothing
  faulty_line : (s : Awaited) (line : List ℕ) (behind : List (List ℕ)) (kind : FaultKind) → behind ≢ [] → HasFaultAt gives rules text s line behind kind
      → gives s line ≡ Err kind
  faulty_line s line [] kind ended fault = absurd (ended refl)
  faulty_line s line (next ∷ more) kind ended fault = fault

  violates_refused : (l : Layout) (h : List E) (violation : Violation) (e : ScriptError)
      → IsFirstViolation gives rules text l h violation → IsRefusedText gives rules text e → ⊥
  violates_refused l h violation e x y = by_place (cut violation.line e.line x.reached y.reached x.asked y.asked x.line y.line x.behind y.behind x.at y.at)
    where
      by_place : Places x.at.before y.at.before x.line y.line x.behind y.behind → ⊥
      by_place (inl s) =
          let same = one_lead x.reached y.reached x.asked y.asked x.at.before y.at.before s.before x.at.leads y.at.leads in
          let wrong = faulty_line y.reached y.line y.behind e.kind (λ none. x.ended (s.after ∙ none)) y.fault in
          ok_is_no_err (sym x.given ∙ ap (λ t. gives t x.line) same.0 ∙ ap (gives y.reached) s.here ∙ wrong)
      by_place (inr (inl s)) =
          violation_passed l h violation x s.more y.reached y.asked [] (led y.reached y.asked y.at.before _ s.before y.at.leads) (legal_of_refused e y)
      by_place (inr (inr s)) =
          fault_passed e y s.more x.reached x.asked (λ none. none_cons s.more x.line x.behind (sym s.after ∙ none))
          (led x.reached x.asked x.at.before _ s.before x.at.leads)

  fault_once : (s : Awaited) (line : List ℕ) (behind : List (List ℕ)) (k j : FaultKind) → HasFaultAt gives rules text s line behind k
      → HasFaultAt gives rules text s line behind j → k ≡ j
  fault_once s line (next ∷ more) k j fault too = same_err (sym fault ∙ too)
  fault_once s line [] k j fault too = same_Some _ _ (sym fault ∙ too)

  both_refused : (e f : ScriptError) → IsRefusedText gives rules text e → IsRefusedText gives rules text f → e ≡ f
  both_refused e f x y = by_place (cut e.line f.line x.reached y.reached x.asked y.asked x.line y.line x.behind y.behind x.at y.at)
    where
      by_place : Places x.at.before y.at.before x.line y.line x.behind y.behind → e ≡ f
      by_place (inl s) =
          let same = one_lead x.reached y.reached x.asked y.asked x.at.before y.at.before s.before x.at.leads y.at.leads in
          let P : Awaited → Type 0 = λ t. HasFaultAt gives rules text t y.line y.behind f.kind in
          let Q : List ℕ → Type 0 = λ line. HasFaultAt gives rules text x.reached line y.behind f.kind in
          let R : List (List ℕ) → Type 0 = λ ps. HasFaultAt gives rules text x.reached x.line ps f.kind in
          let too = subst R (sym s.after) (subst Q (sym s.here) (subst P (sym same.0) y.fault)) in
          same_error e f (x.at.number ∙ ap (λ ls. 1 + length ls) s.before ∙ sym y.at.number) (fault_once x.reached x.line x.behind e.kind f.kind x.fault too)
      by_place (inr (inl s)) =
          absurd (fault_passed e x s.more y.reached y.asked (λ none. none_cons s.more y.line y.behind (sym s.after ∙ none))
          (led y.reached y.asked y.at.before _ s.before y.at.leads))
      by_place (inr (inr s)) =
          absurd (fault_passed f y s.more x.reached x.asked (λ none. none_cons s.more x.line x.behind (sym s.after ∙ none))
          (led x.reached x.asked x.at.before _ s.before x.at.leads))

  found_once : (l m : Layout) (h k : List E) (o p : Option Violation)
      → HasVerdict gives rules text (Ok (record { layout = l; events = h; violation = o }))
      → HasVerdict gives rules text (Ok (record { layout = m; events = k; violation = p }))
      → (l ≡ m) × (h ≡ k) × (o ≡ p)
  found_once l m h k None None x y = let same = both_legal l m h k x y in (same.0, same.1, refl)
  found_once l m h k None (Some s) x y = absurd (legal_violates l m h k s x y)
  found_once l m h k (Some s) None x y = absurd (legal_violates m l k h s y x)
  found_once l m h k (Some s) (Some r) x y = let same = both_violate l m h k s r x y in (same.0, same.1, ap (λ z. Some z) same.2)

  never_both : (l : Layout) (h : List E) (o : Option Violation) (e : ScriptError)
      → HasVerdict gives rules text (Ok (record { layout = l; events = h; violation = o }))
      → IsRefusedText gives rules text e → ⊥
  never_both l h None e x y = legal_refused l h e x y
  never_both l h (Some s) e x y = violates_refused l h s e x y

  pub one_verdict : (v w : Result (Verdict E) ScriptError) → HasVerdict gives rules text v → HasVerdict gives rules text w → v ≡ w
  one_verdict (Ok v) (Ok w) x y =
      let same = found_once v.layout w.layout v.events w.events v.violation w.violation x y in
      ap (λ z. Ok z) (same_verdict v w same.0 same.1 same.2)
  one_verdict (Ok v) (Err f) x y = absurd (never_both v.layout v.events v.violation f x y)
  one_verdict (Err e) (Ok w) x y = absurd (never_both w.layout w.events w.violation e y x)
  one_verdict (Err e) (Err f) x y = ap (λ z. Err z) (both_refused e f x y)
