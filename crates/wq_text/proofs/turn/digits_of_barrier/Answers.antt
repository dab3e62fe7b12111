use Rattle.std.proofs.Common.{lit<}
use Rattle.std.proofs.lemmas.Str.Pattern.{strip_prefix_char}
use Rattle.wq_text.proofs.Turns.{stripped}
use Rattle.wq_text.proofs.turn.digits_of_barrier.Goals as goal

pub returns : goal.returns
returns c = stripped c.args.word.now c.strip_prefix.result (strip_prefix_char 98 c.args.word.now c.strip_prefix.result c.strip_prefix.ensures.cases (lit< tt))
