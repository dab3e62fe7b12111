use Rattle.wq_words.proofs.Listed.{reverse-listed, length-accepted, fresh-open, listed-shut}
use Rattle.wq_words.proofs.laws.pending_list.Goals as goal

pub returns : goal.returns
returns c = record { behind_taken = reverse-listed; in_all = length-accepted; while_open = fresh-open; while_shut = listed-shut }
