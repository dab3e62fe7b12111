-- What the steps of a seat tell it.
use Rattle.std.specs.Prelude.{◌≡◌, ℕ, List, [], ◌∷◌}
use Rattle.wq_words.specs.declared.event.Event.{Event}
use Rattle.wq_words.specs.declared.event.Event.TheVariants.{Push}
use Rattle.wq_words.specs.declared.answer.Posted.{Posted}
use Rattle.wq_words.specs.declared.answer.Posted.TheVariants as posted
use Rattle.wq_words.specs.Legal.{IsLegal}
use Rattle.wq_words.specs.Seen.{Grows}
use Rattle.wq_table.specs.declared.table.Part.{Part}
use Rattle.wq_calls.specs.Answers.{IsPushed, HasMetDrain}

-- the seat is the same and has seen more, with these events of its own
pub record TellsSo (xs : List Event) (n : ℕ) (p q : Part) : Type 0 where
  pub layout_is : q.layout ≡ p.layout
  pub seat_is : q.seat ≡ p.seat
  pub grows : Grows p.seat xs n p.seen q.seen
  pub legal : IsLegal p.layout q.seen

-- one try to push the held number k, which a seat that finds the queue shut holds still
abbrev pub PostsAs : ℕ → Posted → Part → Part → Type 0
PostsAs k (posted.Queued is_first is_waking) p q = TellsSo (Push p.seat k ∷ []) 0 p q × IsPushed p.seat k is_first is_waking q.seen
PostsAs k posted.Closed p q = TellsSo [] 0 p q
PostsAs k posted.Draining p q = TellsSo [] 0 p q × HasMetDrain p.seen q.seen
PostsAs k posted.Contended p q = TellsSo [] 1 p q
