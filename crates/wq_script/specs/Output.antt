-- The history of a script's run.
use Rattle.std.specs.Prelude.{List}
use Rattle.wq_words.specs.declared.layout.Layout.{Layout}
use Rattle.wq_words.specs.Legal.{IsLegal}
use Rattle.wq_words.specs.Headline.{KeepsHeadline}
use Rattle.wq_text.specs.declared.command.Command.{Command}
use Rattle.wq_meaning.specs.Order.{final_state}
use Rattle.wq_script.specs.Seats.{IsWider}

-- The history that the commands leave is one that a queue can have, with two senders more than the script, and so it keeps
-- what each such history keeps.
pub record HasLegalHistory (layout : Layout) (commands : List Command) : Type 0 where
  pub wide : Layout
  pub wider : IsWider layout wide
  pub legal : IsLegal wide (final_state layout commands).history
  pub headline : KeepsHeadline (final_state layout commands).history
