-- How the steps of a schedule read: the table of steps, row by row.
use Rattle.std.specs.Prelude.{ℕ, true, false, List, [], ◌++◌, Some, None, codes}
use Rattle.wq_words.specs.declared.layout.Layout.{Layout}
use Rattle.wq_words.specs.declared.head.Head.{Head}
use Rattle.wq_words.specs.declared.head.Head.TheVariants as heads
use Rattle.wq_words.specs.declared.event.Why.{Why}
use Rattle.wq_words.specs.declared.event.Why.TheVariants as why
use Rattle.wq_core.specs.declared.step.Step.{Step}
use Rattle.wq_core.specs.declared.step.Step.TheVariants as step
use Rattle.wq_core.specs.declared.step.Reply.{Reply}
use Rattle.wq_core.specs.declared.step.Reply.TheVariants as reply
use Rattle.wq_meaning.specs.Names.{named}

-- what a head says: that nothing waits on the list, its newest number, that the queue is closed, or that it drains
abbrev pub head_text : Layout → Head → List ℕ
head_text layout heads.Empty = codes "empty"
head_text layout (heads.Item k) = codes "item" ++ named layout k
head_text layout heads.Closed = codes "closed"
head_text layout heads.Draining = codes "draining"

-- what a step is answered
abbrev pub reply_text : Layout → Reply → List ℕ
reply_text layout reply.Held = codes "held"
reply_text layout reply.Busy = codes "busy"
reply_text layout (reply.Looked head) = head_text layout head
reply_text layout reply.Linked = codes "linked"
reply_text layout (reply.Pushed true wakes) = codes "pushed first"
reply_text layout (reply.Pushed false wakes) = codes "pushed"
reply_text layout reply.Lost = codes "lost"
reply_text layout reply.GivenBack = codes "back"
reply_text layout reply.Pending = codes "pending"
reply_text layout reply.Idle = codes "idle"
reply_text layout (reply.Took head) = codes "took " ++ head_text layout head
reply_text layout (reply.Closed head) = codes "closed " ++ head_text layout head
reply_text layout (reply.Drained head) = codes "drained " ++ head_text layout head
reply_text layout reply.Resumed = codes "resumed"
reply_text layout (reply.Walked None) = codes "end"
reply_text layout (reply.Walked (Some k)) = codes "next" ++ named layout k
reply_text layout (reply.Began k) = codes "began" ++ named layout k
reply_text layout (reply.Ended k) = codes "ended" ++ named layout k
reply_text layout reply.Chained = codes "chained"
reply_text layout reply.Turned = codes "turned"
reply_text layout reply.ChainBusy = codes "busy"
reply_text layout reply.Rested = codes "rested"

abbrev pub why_text : Why → List ℕ
why_text why.Closed = codes " closed"
why_text why.Contended = codes " contended"
why_text why.Cancelled = codes " cancelled"
why_text why.Draining = codes " draining"

-- what the line says again of the step: why a number went back, and which item was chained
abbrev pub said_again : Layout → Step → Reply → List ℕ
said_again layout (step.Back k cause) r = why_text cause
said_again layout (step.Chain k) reply.Chained = named layout k
said_again layout s r = []

-- a step that was made, and its reply
abbrev pub made_text : Layout → Step → Reply → List ℕ
made_text layout s r = reply_text layout r ++ said_again layout s r
