-- The codes of the head word.
use Rattle.std.specs.Prelude.{◌≡◌, ℕ, ◌+◌, ◌-◌, ◌^◌, ◌<◌, ◌⊎◌}
use Rattle.wq_words.specs.declared.head.Head.{Head}
use Rattle.wq_words.specs.declared.head.Head.TheVariants.{Empty, Item, Closed, Draining}

abbrev pub head_word : Head → ℕ
head_word Empty = 0
head_word (Item k) = k + 1
head_word Closed = 2 ^ 64 - 1
head_word Draining = 2 ^ 64 - 3

-- the word of an empty list that does not rest: the owner took what stood there, and will look again before it rests
abbrev pub busy_word : ℕ
busy_word = 2 ^ 64 - 2

-- the word is one of the head's: an empty list has two
abbrev pub IsWordOf : Head → ℕ → Type 0
IsWordOf Empty word = (word ≡ head_word Empty) ⊎ (word ≡ busy_word)
IsWordOf head word = word ≡ head_word head

-- its number, if it has one, is a u32
abbrev pub IsCodable : Head → Type 0
IsCodable Empty = Unit {0}
IsCodable (Item k) = k < 2 ^ 32
IsCodable Closed = Unit {0}
IsCodable Draining = Unit {0}
