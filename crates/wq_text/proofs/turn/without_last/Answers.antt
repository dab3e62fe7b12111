use Rattle.wq_text.proofs.Turns.{without_last-map}
use Rattle.wq_text.proofs.turn.without_last.Goals as goal

pub returns : goal.returns
returns c = record { words = rw c.saturating_sub.ensures (without_last-map c.args.words.now) }
