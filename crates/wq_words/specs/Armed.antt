-- The answers of an arming or a modification that queues at once.
use Rattle.wq_words.specs.declared.answer.Answer.{Answer}
use Rattle.wq_words.specs.declared.answer.Answer.TheVariants as answer
use Rattle.wq_words.specs.declared.answer.Posted.{Posted}
use Rattle.wq_words.specs.declared.answer.Posted.TheVariants as posted
use Rattle.wq_words.specs.declared.answer.Armed.{Armed}
use Rattle.wq_words.specs.declared.answer.Armed.TheVariants as armed
use Rattle.wq_words.specs.declared.answer.Modified.{Modified}
use Rattle.wq_words.specs.declared.answer.Modified.TheVariants as modified

abbrev pub armed_of : Answer → Armed
armed_of (answer.Queued is_first wakes) = armed.Queued is_first wakes
armed_of answer.Pending = armed.Pending
armed_of answer.Closed = armed.Closed
armed_of answer.Contended = armed.Contended
armed_of answer.Draining = armed.Draining

-- what a modification that arms the item answers
abbrev pub modified_of : Armed → Modified
modified_of (armed.Queued is_first wakes) = modified.WasIdle
modified_of armed.OnTable = modified.WasIdle
modified_of armed.Pending = modified.Pending
modified_of armed.Closed = modified.Closed
modified_of armed.Contended = modified.Contended
modified_of armed.Draining = modified.Draining
modified_of armed.TooFar = modified.TooFar
modified_of armed.Memory = modified.Memory

-- what a modification that posts the item answers
abbrev pub modified_of_posted : Posted → Modified
modified_of_posted (posted.Queued is_first wakes) = modified.Moved
modified_of_posted posted.Closed = modified.Closed
modified_of_posted posted.Contended = modified.Contended
modified_of_posted posted.Draining = modified.Draining
