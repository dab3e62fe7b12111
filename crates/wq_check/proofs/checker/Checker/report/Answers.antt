use Rattle.std.proofs.Common.{◌≡◌, ◌==◌, ◌&&◌, ◌↔◌, ◌∙◌, ℕ, true, length, sym, ap, inl, inr}
use Rattle.std.proofs.lemmas.Bool.{eq-eqb, ne_eqb, cases_eq}
use Rattle.wq_words.specs.History.{accepted, ended, closed}
use Rattle.wq_check.proofs.Standing.{left-ended}
use Rattle.wq_check.proofs.checker.Checker.report.Goals as goal

same_test : (n a b : ℕ) → (n ≡ 0) ↔ (a ≡ b) → (n == 0) ≡ (a == b)
same_test n a b alike = elim (cases_eq n 0) [
  | inl same ↦ eq-eqb n 0 same ∙ sym (eq-eqb a b (alike.0 same))
  | inr other ↦ ne_eqb n 0 other ∙ sym (ne_eqb a b (λ e. other (alike.1 e)))
]

pub returns-then-closed : goal.returns-then-closed
returns-then-closed c = record {
  report = λ h o.
      let at = rw (← c.self.view_is) at o in
      let left' = c.left_count-left.ensures h at.stands in
      let closed' = c.is_closed-closed.ensures ∙ at.stands.closed_is in
      let shut : closed h ≡ true = sym closed' ∙ c.if-closed.true in
      let ends = same_test _ (length (ended h)) (length (accepted h)) (left-ended _ h at.stands) in
      let complete' = ap (λ n. n == 0) left' ∙ (ends ∙ sym (ap (λ b. b && (length (ended h) == length (accepted h))) shut)) in
      (λ i. record { counts = at.counted i; left = left' i; closed = closed' i; complete = complete' i });
}
