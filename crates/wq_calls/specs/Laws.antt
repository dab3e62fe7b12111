-- What follows from what the calls of a queue say.
use Rattle.std.specs.Prelude.{◌≡◌, ℕ, ◌≤◌, List, [], ◌∷◌, length, take}
use Rattle.wq_words.specs.declared.event.Event.{Event}
use Rattle.wq_words.specs.History.{accepted, begun, ended, running, closed, shut, IsPending, IsRunning, IsClosed, IsShut}
use Rattle.wq_words.specs.Seen.{own}
use Rattle.wq_words.specs.declared.answer.Answer.{Answer}
use Rattle.wq_words.specs.declared.answer.Answer.TheVariants.{Queued}
use Rattle.wq_words.specs.declared.answer.Posted.{Posted}
use Rattle.wq_words.specs.declared.answer.Posted.TheVariants as posted
use Rattle.wq_calls.specs.Batch.{batch}

-- the number, where its queueing was answered Queued
abbrev pub queued_number : ℕ → Answer → List ℕ
queued_number k (Queued is_first is_waking) = k ∷ []
queued_number k _ = []

-- the number, where its push was answered Queued
abbrev pub pushed_number : ℕ → Posted → List ℕ
pushed_number k (posted.Queued is_first is_waking) = k ∷ []
pushed_number k _ = []

-- The number was pending behind what was seen before a call: so it was after some beginning of what is seen after it, not shorter
-- than what was seen before.
abbrev pub WasPending : ℕ → List Event → List Event → Type 0
WasPending k before after = (moment : ℕ) × (length before ≤ moment) × IsPending (take moment after) k

-- what was seen first has accepted, begun and ended all that the later has, and all that it accepted of each seat
pub record IsStillEnd (earlier later : List Event) : Type 0 where
  pub accepted_is : accepted later ≡ accepted earlier
  pub of_each : (s : ℕ) → accepted (own s later) ≡ accepted (own s earlier)
  pub begun_is : begun later ≡ begun earlier
  pub ended_is : ended later ≡ ended earlier

-- The batch, what began, ended and runs, and whether the queue is closed or shut are in the later what they were: so nothing runs
-- where nothing ran, and what ran runs; an open queue is open, and so on.
pub record IsStillOwned (earlier later : List Event) : Type 0 where
  pub batch_is : batch later ≡ batch earlier
  pub begun_is : begun later ≡ begun earlier
  pub ended_is : ended later ≡ ended earlier
  pub running_is : running later ≡ running earlier
  pub closed_is : closed later ≡ closed earlier
  pub shut_is : shut later ≡ shut earlier
  pub stays_idle : ¬ IsRunning earlier → ¬ IsRunning later
  pub stays_running : IsRunning earlier → IsRunning later
  pub stays_open : ¬ IsShut earlier → ¬ IsShut later
  pub stays_shut : IsShut earlier → IsShut later
  pub stays_unclosed : ¬ IsClosed earlier → ¬ IsClosed later
  pub stays_closed : IsClosed earlier → IsClosed later
