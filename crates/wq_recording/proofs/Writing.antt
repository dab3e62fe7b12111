-- What is written behind a text, one part after the other.
use Rattle.wq_recording.proofs.Common.{◌≡◌, ℕ, List, ◌++◌, ap, ◌∙◌, append_assoc}

-- three parts that were written one after the other
pub three_written : (old first second new x y z : List ℕ) → first ≡ old ++ x → second ≡ first ++ y → new ≡ second ++ z → new ≡ old ++ ((x ++ y) ++ z)
three_written old first second new x y z one two three =
    three ∙ ap (λ l. l ++ z) (two ∙ ap (λ l. l ++ y) one ∙ append_assoc old x y) ∙ append_assoc old (x ++ y) z
