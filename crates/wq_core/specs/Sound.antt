-- What every step keeps.
use Rattle.std.specs.Prelude.{◌≡◌, ℕ, Bool, true, Some, ◌+◌, ◌%◌, ◌^◌, ◌<◌, if◌then◌else◌, List, [], ◌∷◌, ◌++◌, length, reverse, get_or, Option, Some, None}
use mathlib.Core.List.{reverse_aux}
use Rattle.wq_words.specs.declared.head.Head.{Head}
use Rattle.wq_words.specs.declared.head.Head.TheVariants.{Empty, Item, Closed, Draining}
use Rattle.wq_words.specs.declared.event.Event.{Event}
use Rattle.wq_words.specs.declared.event.Why.{Why}
use Rattle.wq_words.specs.Head.{head_word, busy_word}
use Rattle.wq_words.specs.Numbers.{number_count}
use Rattle.wq_words.specs.History.{accepted, begun, ended, pending, closed, shut, Holds}
use Rattle.wq_words.specs.Legal.{IsLegal, IsCause}
use Rattle.wq_words.specs.Listed.{listed}
use Rattle.wq_words.specs.Rest.{wakes}
use Rattle.wq_core.specs.Words.{link_place, word_count, resting_word, TakesPushes, link_to, word_at}
use Rattle.wq_core.specs.Machine.{Machine, head, link, item_word, done_word, private, HasSeenCause}

-- the head of a list of numbers, newest first
abbrev pub head_of_list : List ℕ → Head
head_of_list [] = Empty
head_of_list (k ∷ ks) = Item k

-- the head that the history leaves
abbrev pub head_of : List Event → Head
head_of h = if closed h then Closed else (if shut h then Draining else head_of_list (listed h))

-- the word of a head: that of an empty list says whether it rests
abbrev pub marked : Bool → Head → ℕ
marked rests Empty = if rests then resting_word else busy_word
marked rests x = head_word x

-- the head word that the history leaves
abbrev pub head_word_of : List Event → ℕ
head_word_of h = marked (wakes h) (head_of h)

-- from this word the links spell these numbers of a queue of n
abbrev pub IsChain : ℕ → List ℕ → ℕ → List ℕ → Type 0
IsChain n words word [] = word ≡ 0
IsChain n words word (k ∷ ks) = (word ≡ k + 1) × (k < n) × IsChain n words (get_or words (link_place k) 0) ks

-- The chain from the head spells what is listed. The chain from the cursor spells what remains to be walked. Both, what
-- was walked, and the batch are just what was accepted and has not begun, in order.
pub record AreChained (n : ℕ) (words : List ℕ) (cursor : Option ℕ) (walked batch accepted begun listed : List ℕ) : Type 0 where
  pub remaining : List ℕ
  pub list_chain : IsChain n words (head_word (head_of_list listed)) listed
  pub walk_chain : IsChain n words (word_at cursor) remaining
  pub order : accepted ≡ begun ++ (batch ++ reverse_aux remaining walked) ++ reverse listed
  pub none_walked : cursor ≡ None → walked ≡ []

pub record IsSound (m : Machine) : Type 0 where
  pub has_words : length m.words ≡ word_count (number_count m.layout)
  pub has_seats : length m.seats ≡ m.layout.senders
  pub legal : IsLegal m.layout m.history
  pub head_is : head m ≡ head_word_of m.history
  -- a queue that rests has nothing on its list
  pub rests : wakes m.history ≡ true → listed m.history ≡ []
  -- the item words are the PENDING bits
  pub items_are : (k : ℕ) → k < number_count m.layout → item_word m k ≡ (if pending m.history k then 1 else 0)
  -- the done word counts the ended executions, as far as a word can
  pub done_is : done_word m ≡ length (ended m.history) % 2 ^ 64
  pub chains : AreChained (number_count m.layout) m.words m.cursor m.walked m.batch (accepted m.history) (begun m.history) (listed m.history)
  -- what a sender linked it holds, and the link leads to the head that it saw, which was that of a queue that takes pushes
  pub linked : (s k : ℕ) → (private m s).linked ≡ Some k
      → (k < number_count m.layout) × Holds m.history s k × (link_to (private m s).seen ≡ Some (link m k)) × TakesPushes (link m k)
  -- what was seen as a cause to give a number back is one: a drain that was seen may have ended since
  pub seen : (s : ℕ) (why : Why) → HasSeenCause why (private m s).seen → IsCause m.history why
