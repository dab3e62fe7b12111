use Rattle.wq_race.proofs.Common.{List, [], ◌∷◌, ◌++◌, ap, ◌∙◌, LedgerState, ledger_of}
use Rattle.wq_race.proofs.Booking.{heard_on, told_on}
use Rattle.wq_race.proofs.outcome.enter_team.Goals as goal

pub returns : goal.returns
returns c =
    let met = c.enter_all.new.book in let last = c.enter.new.book in
    let first = c.enter_all.ensures.book in let second = c.enter.ensures.book in
    record {
      heard = heard_on c.args.book.now met last first second;
      legal = c.legal.ensures.legal;
      complete = c.legal.ensures.complete;
      told = told_on c.args.book.now.seen met.seen last.seen c.args.senders.items second.begins c.in_ok-enter_all.ensures.told;
      program_told = c.enter.ensures.told;
      made = c.in_ok-enter.ensures.made;
      ledgers_are = c.in_ok-enter.ensures.ledger
          ∙ ap (λ (ls : List LedgerState). ls ++ ledger_of c.args.program.now ∷ []) c.in_ok-enter_all.ensures.ledgers;
    }
