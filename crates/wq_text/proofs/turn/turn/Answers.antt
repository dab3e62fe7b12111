use Rattle.wq_text.proofs.Turns.{senders_placed, owners_placed}
use Rattle.wq_text.proofs.turn.turn.Goals as goal

pub returns-in_ok-sender-in-Sender-clause-fits : goal.returns-in_ok-sender-in-Sender-clause-fits
returns-in_ok-sender-in-Sender-clause-fits c =
    let turn = c.in_ok-sender-in-Sender in
    rw c.senders_step.ensures (senders_placed c.args.layout c.in-Sender.step turn.sender turn.number turn.ensures.within.0 turn.ensures.within.1)

pub returns-in_ok-no_word-in-Owner-clause-fits : goal.returns-in_ok-no_word-in-Owner-clause-fits
returns-in_ok-no_word-in-Owner-clause-fits c = rw c.owners_step.ensures (owners_placed c.args.layout c.in-Owner.step)
