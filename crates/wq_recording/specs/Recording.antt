-- What a recording's checker says of what a line tells.
use Rattle.std.specs.Prelude.{◌≡◌, List, ◌∷◌, ◌++◌}
use Rattle.wq_words.specs.declared.layout.Layout.{Layout}
use Rattle.wq_check.specs.declared.cause.Cause.{Cause}
use Rattle.wq_recording.specs.Verdict.{Rules}

-- of what is told behind the events h the first that is not legal has this cause, and those before it were told
pub record ViolatesAmong {A E : Type 0} (rules : Rules A E) (layout : Layout) (h told : List E) (IsAfter : List E → Type 0) (cause : Cause) : Type 0 where
  pub first : List E
  pub event : E
  pub rest : List E
  pub cut : told ≡ first ++ event ∷ rest
  pub after : IsAfter (h ++ first)
  pub caused : rules.HasCause layout (h ++ first) event cause
