-- Traces: what is seen of a queue from outside, by three lists of marks.
use Rattle.std.specs.Prelude.{◌≡◌, ℕ, ◌+◌, ◌<◌, ◌==◌, if◌then◌else◌, List, length, take, drop, Option, Some, None, slice_get, filter_map, Contains}
use Rattle.wq_words.specs.declared.layout.Layout.{Layout}
use Rattle.wq_check.specs.declared.mark.Mark.{Mark}
use Rattle.wq_check.specs.declared.mark.Mark.TheVariants.{Queue, Start, End}
use Rattle.wq_check.specs.Left.{largest_up_to}

abbrev pub queued_by : Mark → Option ℕ
queued_by (Queue k) = Some k
queued_by _ = None

abbrev pub started_by : Mark → Option ℕ
started_by (Start k) = Some k
started_by _ = None

abbrev pub returned_by : Mark → Option ℕ
returned_by (End k) = Some k
returned_by _ = None

-- the items that were queued, whose functions were called, and whose functions returned, in order
abbrev pub queued : List Mark → List ℕ
queued t = filter_map queued_by t

abbrev pub started : List Mark → List ℕ
started t = filter_map started_by t

abbrev pub returned : List Mark → List ℕ
returned t = filter_map returned_by t

-- as many returned as were called: no function is seen to run
abbrev pub IsAtRest : List Mark → Type 0
IsAtRest t = length (started t) ≡ length (returned t)

-- then the next one may have begun unseen, since PENDING is cleared before its function is called
abbrev pub unseen : List Mark → ℕ
unseen t = if length (started t) == length (returned t) then 1 else 0

-- the item whose function runs, and the item whose function is called next
abbrev pub executing : List Mark → Option ℕ
executing t = slice_get (started t) (length (returned t))

abbrev pub next_start : List Mark → Option ℕ
next_start t = slice_get (queued t) (length (started t))

-- what was queued and not started, and of it what has not begun for sure; what was queued and has not returned
abbrev pub unstarted : List Mark → List ℕ
unstarted t = drop (length (started t)) (queued t)

abbrev pub surely_unbegun : List Mark → List ℕ
surely_unbegun t = drop (length (started t) + unseen t) (queued t)

abbrev pub unreturned : List Mark → List ℕ
unreturned t = drop (length (returned t)) (queued t)

-- how many waited for their start at the moment when most did
abbrev pub most_unstarted : List Mark → ℕ
most_unstarted t = largest_up_to (λ moment. length (unstarted (take moment t))) (length t)

-- the mark may be shown after these
abbrev pub MayShow : List Mark → Mark → Type 0
MayShow t (Queue k) = ¬ Contains (surely_unbegun t) k
MayShow t (Start k) = IsAtRest t × (next_start t ≡ Some k)
MayShow t (End k) = executing t ≡ Some k

abbrev pub number_of : Mark → ℕ
number_of (Queue k) = k
number_of (Start k) = k
number_of (End k) = k

-- each mark is of an item, and may be shown after those before it
abbrev pub IsLegalTrace : Layout → List Mark → Type 0
IsLegalTrace layout t = (place : ℕ) (m : Mark) → slice_get t place ≡ Some m → (number_of m < layout.items) × MayShow (take place t) m

-- each mark may be shown after those before it, whatever its number
abbrev pub FollowsRules : List Mark → Type 0
FollowsRules t = (place : ℕ) (m : Mark) → slice_get t place ≡ Some m → MayShow (take place t) m
