-- The words of a queue's table: the head, the links, the item words with the PENDING bits, and the count of ended
-- executions. n is how many numbers the queue has.
use Rattle.std.specs.Prelude.{◌≢◌, ℕ, ◌+◌, ◌-◌, ◌*◌, ◌==◌, if◌then◌else◌, Option, Some, None}
use Rattle.wq_words.specs.declared.head.Head.{Head}
use Rattle.wq_words.specs.declared.head.Head.TheVariants.{Empty, Item, Closed, Draining}
use Rattle.wq_words.specs.Head.{head_word, busy_word}

-- where each word stands
abbrev pub head_place : ℕ
head_place = 0

abbrev pub link_place : ℕ → ℕ
link_place k = 1 + k

abbrev pub item_place : ℕ → ℕ → ℕ
item_place n k = 1 + n + k

abbrev pub done_place : ℕ → ℕ
done_place n = 1 + 2 * n

abbrev pub word_count : ℕ → ℕ
word_count n = 2 * n + 2

-- the head word of a closed queue
abbrev pub closed_word : ℕ
closed_word = head_word Closed

-- the head word of a queue that drains
abbrev pub draining_word : ℕ
draining_word = head_word Draining

-- the head word is of a queue that takes pushes
abbrev pub TakesPushes : ℕ → Type 0
TakesPushes word = (word ≢ closed_word) × (word ≢ draining_word)

-- the head word of an empty list that rests
abbrev pub resting_word : ℕ
resting_word = head_word Empty

-- the word that links to what stands at a head: that of an empty list is the end, whether it rests or not
abbrev pub link_word : ℕ → ℕ
link_word word = if word == busy_word then 0 else word

-- the link to the head that was seen, if one was
abbrev pub link_to : Option ℕ → Option ℕ
link_to None = None
link_to (Some word) = Some (link_word word)

-- the number that a link stands for
abbrev pub number_at : ℕ → Option ℕ
number_at word = if word == 0 then None else Some (word - 1)

-- the word that links to a number, or to none
abbrev pub word_at : Option ℕ → ℕ
word_at None = 0
word_at (Some k) = k + 1

-- what a word says as a link, or as the head of a queue that takes no push
abbrev pub said_at : ℕ → Head
said_at word = if word == 0 then Empty else (if word == closed_word then Closed else (if word == draining_word then Draining else Item (word - 1)))

-- what a head word says
abbrev pub head_at : ℕ → Head
head_at word = said_at (link_word word)

-- the number at a head, if it has one
abbrev pub item_of : Head → Option ℕ
item_of (Item k) = Some k
item_of _ = None
