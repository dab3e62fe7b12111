-- The tries to push a held number, and what a queueing makes of them.
use Rattle.std.specs.Prelude.{◌≡◌, ℕ, [], ◌∷◌}
use Rattle.wq_words.specs.declared.event.Event.TheVariants.{Push, Back}
use Rattle.wq_words.specs.declared.event.Why.TheVariants as why
use Rattle.wq_words.specs.declared.answer.Answer.{Answer}
use Rattle.wq_words.specs.declared.answer.Answer.TheVariants as answer
use Rattle.wq_words.specs.declared.answer.Posted.{Posted}
use Rattle.wq_words.specs.declared.answer.Posted.TheVariants as posted
use Rattle.wq_words.specs.History.{Holds}
use Rattle.wq_calls.specs.Known.{Known, Sees}
use Rattle.wq_calls.specs.Answers.{IsPushed, HasMetDrain}

-- tries to push k, which a sender that finds the queue shut holds still
abbrev pub Tries : ℕ → ℕ → Posted → Known → Known → Type 0
Tries k tries (posted.Queued is_first is_waking) old new = Sees (Push old.number k ∷ []) 0 old new × IsPushed old.number k is_first is_waking new.seen
Tries k tries posted.Closed old new = Sees [] 0 old new
Tries k tries posted.Draining old new = Sees [] 0 old new × HasMetDrain old.seen new.seen
Tries k tries posted.Contended old new = Sees [] tries old new

-- tries that did not push k leave it held
abbrev pub IsHeldAfter : Posted → ℕ → Known → Type 0
IsHeldAfter (posted.Queued is_first is_waking) k s = Unit {0}
IsHeldAfter _ k s = Holds s.seen s.number k

-- what a queueing of k answers after such tries: k is given back where it was not pushed
abbrev pub Settles : ℕ → Posted → Answer → Known → Known → Type 0
Settles k (posted.Queued is_first is_waking) a old new = (a ≡ answer.Queued is_first is_waking) × (new ≡ old)
Settles k posted.Closed a old new = (a ≡ answer.Closed) × Sees (Back old.number k why.Closed ∷ []) 0 old new
Settles k posted.Draining a old new = (a ≡ answer.Draining) × Sees (Back old.number k why.Draining ∷ []) 0 old new
Settles k posted.Contended a old new = (a ≡ answer.Contended) × Sees (Back old.number k why.Contended ∷ []) 0 old new
