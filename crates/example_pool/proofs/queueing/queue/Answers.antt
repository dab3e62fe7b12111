use Rattle.std.specs.Prelude.{◌≡◌, ℕ, List, ◌++◌}
use Rattle.wq_words.specs.declared.answer.Answer.{Answer}
use Rattle.wq_words.specs.declared.answer.Answer.TheVariants as answer
use Rattle.wq_words.specs.declared.event.Event.{Event}
use Rattle.wq_words.specs.Seen.{own}
use Rattle.wq_live.specs.Known.{Known, Sees}
use Rattle.wq_live.specs.Answers.{Answers}
use Rattle.example_pool.specs.Ended.{queueing}
use Rattle.example_pool.proofs.queueing.queue.Goals as goal

-- what each answer of a queueing says of the sender's own events, by the law `own_events_grow`
by_answer : ((n : ℕ) (xs : List Event) (old new : Known) → Sees xs n old new → own old.number new.seen ≡ own old.number old.seen ++ xs)
    → (k tries : ℕ) (a : Answer) (old new : Known) → Answers k tries a old new
    → own old.number new.seen ≡ own old.number old.seen ++ queueing old.number k a
by_answer law k tries (answer.Queued is_first is_waking) old new says = law _ _ _ _ says.0
by_answer law k tries answer.Pending old new says = law _ _ _ _ says
by_answer law k tries answer.Closed old new says = law _ _ _ _ says
by_answer law k tries answer.Draining old new says = law _ _ _ _ says.0
by_answer law k tries answer.Contended old new says = law _ _ _ _ says

pub returns-clause-events : goal.returns-clause-events
returns-clause-events g c = by_answer c.own_events_grow.ensures.grows _ _ _ _ _ c.queue-answer.ensures.answer
