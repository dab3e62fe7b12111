-- How the answers of calls read. A script never meets an answer that has no text: no other seat steps between two of its
-- commands, and where memory is refused it has no report.
use Rattle.std.specs.Prelude.{ℕ, true, false, List, [], ◌++◌, Option, Some, None, codes}
use Rattle.std.specs.Fmt.{decimal}
use Rattle.wq_words.specs.declared.answer.Answer.{Answer}
use Rattle.wq_words.specs.declared.answer.Answer.TheVariants as answer
use Rattle.wq_words.specs.declared.answer.Armed.{Armed}
use Rattle.wq_words.specs.declared.answer.Armed.TheVariants as armed
use Rattle.wq_words.specs.declared.answer.Modified.{Modified}
use Rattle.wq_words.specs.declared.answer.Modified.TheVariants as modified

abbrev pub answer_text : Answer → List ℕ
answer_text (answer.Queued true wakes) = codes "true first"
answer_text (answer.Queued false wakes) = codes "true"
answer_text answer.Pending = codes "false pending"
answer_text answer.Closed = codes "false closed"
answer_text answer.Draining = codes "false draining"
answer_text answer.Contended = []

abbrev pub armed_text : Armed → List ℕ
armed_text (armed.Queued is_first wakes) = answer_text (answer.Queued is_first wakes)
armed_text armed.OnTable = codes "on table"
armed_text armed.Pending = answer_text answer.Pending
armed_text armed.Closed = answer_text answer.Closed
armed_text armed.Draining = answer_text answer.Draining
armed_text armed.Contended = []
armed_text armed.TooFar = codes "false too far"
armed_text armed.Memory = []

abbrev pub modified_text : Modified → List ℕ
modified_text modified.WasIdle = codes "was idle"
modified_text modified.Moved = codes "moved"
modified_text modified.Pending = codes "pending"
modified_text modified.Closed = codes "closed"
modified_text modified.Draining = codes "draining"
modified_text modified.Contended = []
modified_text modified.TooFar = codes "too far"
modified_text modified.Memory = []

abbrev pub close_text : Option ℕ → List ℕ
close_text None = codes "already closed"
close_text (Some taken) = codes "closed " ++ decimal taken
