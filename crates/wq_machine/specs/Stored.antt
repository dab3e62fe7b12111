-- The machine as it is kept in memory, and what is kept beside it to answer at once.
use Rattle.std.specs.Prelude.{◌≡◌, ℕ, ◌<◌, ◌≤◌, List, length, reverse, get_or, Option, Some, None}
use Rattle.wq_words.specs.declared.layout.Layout.{Layout}
use Rattle.wq_words.specs.declared.event.Event.{Event}
use Rattle.wq_words.specs.Numbers.{number_count}
use Rattle.wq_words.specs.History.{running}
use Rattle.wq_words.specs.Keeper.{Keeper, Sender, keeper}
use Rattle.wq_core.specs.declared.step.Private.{Private}
use Rattle.wq_core.specs.Words.{link_place, TakesPushes, link_word}
use Rattle.wq_core.specs.Machine.{Machine, nothing_seen}
use Rattle.wq_core.specs.Sound.{IsSound}

-- the machine in these parts: what was walked stands newest first, and so does the batch
abbrev pub stored_machine : Layout → List ℕ → List Private → Option ℕ → List ℕ → List ℕ → List Event → Machine
stored_machine l ws ps c walked batch h =
    record { layout = l; words = ws; seats = ps; cursor = c; walked = reverse walked; batch = reverse batch; history = h }

-- the sender that holds the number
abbrev pub holder : Keeper → Option ℕ
holder (Sender s) = Some s
holder _ = None

-- each link is the end or leads to a number below n
abbrev pub LinksFit : ℕ → List ℕ → Type 0
LinksFit n words = (k : ℕ) → k < n → get_or words (link_place k) 0 ≤ n

-- and so would the link to a head that a sender saw, where that was of a queue that takes pushes
abbrev pub LooksFit : ℕ → List Private → Type 0
LooksFit n seats = (s w : ℕ) → (get_or seats s nothing_seen).seen ≡ Some w → TakesPushes w → link_word w ≤ n

-- the machine is sound, beside it stand who holds each number and which number runs, and each word that is stored as a link
-- leads to a number
pub record IsStored (m : Machine) (holders : List (Option ℕ)) (runs : Option ℕ) : Type 0 where
  pub sound : IsSound m
  pub has_holders : length holders ≡ number_count m.layout
  pub holders_are : (k : ℕ) → k < number_count m.layout → get_or holders k None ≡ holder (keeper m.history k)
  pub running_is : runs ≡ running m.history
  pub links_fit : LinksFit (number_count m.layout) m.words
  pub looks_fit : LooksFit (number_count m.layout) m.seats
