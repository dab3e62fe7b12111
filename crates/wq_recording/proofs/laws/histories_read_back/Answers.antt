use Rattle.wq_recording.proofs.WrittenEvents.{written_event}
use Rattle.wq_recording.proofs.WrittenHistories.{text_told, legal_as_text, found_legal, never_refused}
use Rattle.wq_recording.proofs.laws.histories_read_back.Goals as goal

pub returns-clause-event : goal.returns-clause-event
returns-clause-event c = λ layout e is. (written_event layout e is).1

pub returns-clause-events : goal.returns-clause-events
returns-clause-events c = λ layout h. text_told layout h

pub returns-clause-legal : goal.returns-clause-legal
returns-clause-legal c = λ layout h. legal_as_text layout h

pub returns-clause-found : goal.returns-clause-found
returns-clause-found c = λ layout h finding. found_legal layout h finding

pub returns-clause-accepted : goal.returns-clause-accepted
returns-clause-accepted c = λ layout h e. never_refused layout h e
