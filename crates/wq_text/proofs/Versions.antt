-- The lines of a text, by its first.
use Rattle.wq_text.proofs.Common.{◌≡◌, ℕ, Bool, true, false, List, if◌then◌else◌, sym, ap, Grammar, line_gives}
use Rattle.wq_text.specs.Version.{begins_with_line, lines_of_version}

module _ {M N A : Type 0} (one : Grammar M A) (two : Grammar N A) (text : List ℕ) where
  pub in_two : begins_with_line two.version text ≡ true → line_gives two ≡ lines_of_version one two text
  in_two is = sym (ap (λ (b : Bool). if b then line_gives two else line_gives one) is)

  pub in_one : begins_with_line two.version text ≡ false → line_gives one ≡ lines_of_version one two text
  in_one is = sym (ap (λ (b : Bool). if b then line_gives two else line_gives one) is)
