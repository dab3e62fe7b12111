use Rattle.wq_words.proofs.Valued.{legal_with, events_with, brought_with, handed_with}
use Rattle.wq_words.proofs.laws.values_are_legal.Goals as goal

pub returns : goal.returns
returns V c = record { legal = legal_with; events = events_with; brought = brought_with; handed = handed_with }
