use Rattle.std.proofs.Common.{not, ap}
use Rattle.wq_words.proofs.Closed.{open_from_shut}
use Rattle.wq_words.proofs.Cases.{none_told}
use Rattle.wq_calls.proofs.Reading.{empty_from_next}
use Rattle.wq_worker.proofs.Common.{sym, ◌∙◌, IsShut_from_shut}
use Rattle.wq_worker.proofs.Shut.{nothing_shut, nothing_taken}
use Rattle.wq_worker.proofs.steps.take_where_empty.Goals as goal

pub take-requires-clause-open : goal.take-requires-clause-open
take-requires-clause-open g c = open_from_shut (g.P.Paired.known c.args.pair.now).seen (sym c.is_shut.ensures.shut ∙ c.if-not-is_shut.true)

pub take-requires-clause-empty : goal.take-requires-clause-empty
take-requires-clause-empty g c = empty_from_next (g.P.Paired.known c.args.pair.now).seen
    (sym c.next.ensures.first ∙ none_told c.next.result (c.is_none.ensures ∙ ap not c.if-is_none.true))

pub returns-then-not-is_shut-clause-empty : goal.returns-then-not-is_shut-clause-empty
returns-then-not-is_shut-clause-empty g c none =
    nothing_taken c.take.result (g.P.Paired.known c.take.new.self).seen c.take.ensures.takes none

pub returns-else-not-is_shut-clause-empty : goal.returns-else-not-is_shut-clause-empty
returns-else-not-is_shut-clause-empty g c none =
    let h = (g.P.Paired.known c.args.pair.now).seen in nothing_shut h (IsShut_from_shut h (sym c.is_shut.ensures.shut ∙ c.if-not-is_shut.false)) none
