use Rattle.std.proofs.Common.{rules, ◌≡◌}
use Rattle.example_log.specs.declared.message.Log.TheVariants.{Access, Errors}
use Rattle.example_log.proofs.Lines.{has_lines}
use Rattle.example_log.proofs.Turned.{sends_all}
use Rattle.example_log.proofs.logs.write.Goals as goal

pub returns-clause-access : goal.returns-clause-access
returns-clause-access g c =
    let w = c.in_ok-access-2 in let e = w.ensures in let sent = c.in_ok-access.sent in let h = c.in_ok-access.ensures.sent in
    let size : w.access.book.book.layout ≡ c.args.layout = search rules in
    let zero : sent.first.access.known.number ≡ 0 = search rules in
    let one : sent.second.access.known.number ≡ 1 = search rules in
    let last = c.in_ok-pool.clients.last.access.known in let two : last.number ≡ 2 = search rules in let sized : last.layout ≡ c.args.layout = search rules in
    has_lines Access c.args.layout sent.first.access sent.second.access sent.access last c.args.first.items c.args.second.items sent.first.count
    sent.second.count w.access size e.legal e.complete e.text zero one two sized h.stops_access e.of_first e.of_second e.of_third
    h.first_has.to_access h.second_has.to_access e.counts.0 e.counts.1 e.of_worker

pub returns-clause-errors : goal.returns-clause-errors
returns-clause-errors g c =
    let w = c.in_ok-errors in let e = w.ensures in let sent = c.in_ok-access.sent in let h = c.in_ok-access.ensures.sent in
    let size : w.errors.book.book.layout ≡ c.args.layout = search rules in
    let zero : sent.first.errors.known.number ≡ 0 = search rules in
    let one : sent.second.errors.known.number ≡ 1 = search rules in
    let last = c.in_ok-pool.clients.last.errors.known in let two : last.number ≡ 2 = search rules in let sized : last.layout ≡ c.args.layout = search rules in
    has_lines Errors c.args.layout sent.first.errors sent.second.errors sent.errors last c.args.first.items c.args.second.items sent.first.count
    sent.second.count w.errors size e.legal e.complete e.text zero one two sized h.stops_errors e.of_first e.of_second e.of_third
    h.first_has.to_errors h.second_has.to_errors e.counts.0 e.counts.1 e.of_worker

pub returns-clause-all_of_first : goal.returns-clause-all_of_first
returns-clause-all_of_first g c =
    let w = c.in_ok-access-2 in let e = w.ensures in let v = c.in_ok-errors in let sent = c.in_ok-access.sent in let h = c.in_ok-access.ensures.sent in
    let number = c.in_ok-pool.clients.first.access.known.number in let zero : number ≡ 0 = search rules in
    sends_all 0 number c.args.first.items sent.first.count w.access.of_first sent.first.access.known.seen w.access.book.book.seen
    sent.first.errors.known.seen v.errors.book.book.seen zero e.counts.0 e.seen_by_first v.ensures.seen_by_first h.first_has.all_sent

pub returns-clause-all_of_second : goal.returns-clause-all_of_second
returns-clause-all_of_second g c =
    let w = c.in_ok-access-2 in let e = w.ensures in let v = c.in_ok-errors in let sent = c.in_ok-access.sent in let h = c.in_ok-access.ensures.sent in
    let number = c.in_ok-pool.clients.second.access.known.number in let one : number ≡ 1 = search rules in
    sends_all 1 number c.args.second.items sent.second.count w.access.of_second sent.second.access.known.seen w.access.book.book.seen
    sent.second.errors.known.seen v.errors.book.book.seen one e.counts.1 e.seen_by_second v.ensures.seen_by_second h.second_has.all_sent
