-- The machine of an ordered workqueue: the words of its table, what each seat keeps in private, and what has happened.
-- A step is one operation on one word. For each kind of step: when it is enabled, the machine after it, and its reply.
use Rattle.std.specs.Prelude.{◌≡◌, ◌≢◌, ℕ, ◌+◌, ◌%◌, ◌^◌, ◌==◌, if◌then◌else◌, List, [], ◌∷◌, ◌++◌, get_or, set, replicate, Option, Some, None, unwrap_or, ◌⊎◌}
use Rattle.std.specs.Prelude.{Contains}
use Rattle.wq_words.specs.declared.layout.Layout.{Layout}
use Rattle.wq_words.specs.declared.event.Why.{Why}
use Rattle.wq_words.specs.declared.event.Why.TheVariants.{Closed, Draining}
use Rattle.wq_words.specs.declared.event.Event.{Event}
use Rattle.wq_words.specs.declared.event.Event.TheVariants as event
use Rattle.wq_words.specs.Head.{busy_word}
use Rattle.wq_words.specs.Numbers.{number_count}
use Rattle.wq_words.specs.History.{Holds, IsClosed, IsShut, IsDraining, IsRunning, running}
use Rattle.wq_core.specs.declared.step.Private.{Private}
use Rattle.wq_core.specs.declared.step.Seat.{Seat}
use Rattle.wq_core.specs.declared.step.Seat.TheVariants.{Sender, Owner}
use Rattle.wq_core.specs.declared.step.Step.{Step}
use Rattle.wq_core.specs.declared.step.Step.TheVariants.{Hold, Look, Link, Push, Back, Check, Take, Close, Drain, Resume, Walk, Begin, End, Chain, Turn, Rest}
use Rattle.wq_core.specs.declared.step.Reply.{Reply}
use Rattle.wq_core.specs.declared.step.Reply.TheVariants as reply
use Rattle.wq_core.specs.Words.{head_place, link_place, item_place, done_place, word_count, closed_word, draining_word, resting_word, TakesPushes}
use Rattle.wq_core.specs.Words.{link_word, number_at, word_at, head_at, item_of}

-- Which numbers a sender holds, whether the queue is closed or drains, and which number runs are read off the history.
pub record Machine : Type 0 where
  pub layout : Layout
  pub words : List ℕ
  pub seats : List Private  -- of each sender
  pub cursor : Option ℕ  -- the number that the owner walks next
  pub walked : List ℕ  -- the numbers of a walk that goes on, oldest first: at its end they go behind the batch
  pub batch : List ℕ  -- the numbers to begin, oldest first
  pub history : List Event

-- a sender that has looked at nothing and linked nothing
abbrev pub nothing_seen : Private
nothing_seen = record { seen = None; linked = None }

-- nothing has happened
abbrev pub opening : Layout → Machine
opening l = record {
  layout = l;
  words = replicate (word_count (number_count l)) 0;
  seats = replicate l.senders nothing_seen;
  cursor = None;
  walked = [];
  batch = [];
  history = [];
}

abbrev pub head : Machine → ℕ
head m = get_or m.words head_place 0

abbrev pub link : Machine → ℕ → ℕ
link m k = get_or m.words (link_place k) 0

abbrev pub item_word : Machine → ℕ → ℕ
item_word m k = get_or m.words (item_place (number_count m.layout) k) 0

abbrev pub done_word : Machine → ℕ
done_word m = get_or m.words (done_place (number_count m.layout)) 0

abbrev pub private : Machine → ℕ → Private
private m s = get_or m.seats s nothing_seen

-- the head word that the sender saw last, and EMPTY where it saw none
abbrev pub seen_word : Machine → ℕ → ℕ
seen_word m s = unwrap_or (private m s).seen 0

-- a sender saw the head of a queue that takes pushes
abbrev pub HasSeenOpen : Option ℕ → Type 0
HasSeenOpen None = ⊥
HasSeenOpen (Some word) = TakesPushes word

-- a sender saw what it gives a number back for: a closed queue, or one that drained
abbrev pub HasSeenCause : Why → Option ℕ → Type 0
HasSeenCause Closed seen = seen ≡ Some closed_word
HasSeenCause Draining seen = seen ≡ Some draining_word
HasSeenCause _ seen = Unit {0}

-- the owner walked k, or k waits in its batch
abbrev pub StandsIn : List ℕ → List ℕ → ℕ → Type 0
StandsIn walked batch k = Contains walked k ⊎ Contains batch k

-- the step is one of the seat's kinds and may be made now
abbrev pub IsEnabled : Machine → Seat → Step → Type 0
IsEnabled m (Sender s) (Hold k) = Unit {0}
IsEnabled m (Sender s) Look = Unit {0}
IsEnabled m (Sender s) (Link k) = Holds m.history s k × HasSeenOpen (private m s).seen
IsEnabled m (Sender s) (Push k) = (private m s).linked ≡ Some k
IsEnabled m (Sender s) (Back k why) = Holds m.history s k × HasSeenCause why (private m s).seen
IsEnabled m (Sender s) (Check k) = Unit {0}
IsEnabled m Owner Take = (¬ IsShut m.history) × (m.cursor ≡ None) × (m.batch ≡ [])
IsEnabled m Owner Close = (¬ IsClosed m.history) × (m.cursor ≡ None)
IsEnabled m Owner Drain = (¬ IsShut m.history) × (m.cursor ≡ None)
IsEnabled m Owner Resume = IsDraining m.history × (m.cursor ≡ None) × (m.batch ≡ []) × (¬ IsRunning m.history)
IsEnabled m Owner Walk = (m.cursor ≢ None) ⊎ (m.batch ≢ [])
IsEnabled m Owner Begin = (m.cursor ≡ None) × (m.batch ≢ []) × (¬ IsRunning m.history)
IsEnabled m Owner End = IsRunning m.history
IsEnabled m Owner (Chain k) = IsShut m.history × (m.cursor ≡ None) × IsRunning m.history
IsEnabled m Owner (Turn k next) = StandsIn m.walked m.batch k
IsEnabled m Owner Rest = (¬ IsShut m.history) × (m.cursor ≡ None) × (m.batch ≡ []) × (¬ IsRunning m.history)
IsEnabled m seat step = ⊥

-- a word is written, a sender keeps other things, an event is added
abbrev pub with_head : Machine → ℕ → Machine
with_head m word = record m { words = set m.words head_place word }

abbrev pub with_link : Machine → ℕ → ℕ → Machine
with_link m k word = record m { words = set m.words (link_place k) word }

abbrev pub with_item : Machine → ℕ → ℕ → Machine
with_item m k word = record m { words = set m.words (item_place (number_count m.layout) k) word }

abbrev pub with_done : Machine → ℕ → Machine
with_done m word = record m { words = set m.words (done_place (number_count m.layout)) word }

abbrev pub with_private : Machine → ℕ → Private → Machine
with_private m s p = record m { seats = set m.seats s p }

abbrev pub happened : Machine → Event → Machine
happened m e = record m { history = m.history ++ e ∷ [] }

-- what a sender keeps once it has given k back: it has linked nothing, where that was k
abbrev pub other_than : ℕ → Option ℕ → Option ℕ
other_than k None = None
other_than k (Some j) = if j == k then None else Some j

abbrev pub unlinked : Private → ℕ → Private
unlinked p k = record p { linked = other_than k p.linked }

-- the owner swaps the head for this word, and what stood there is walked next
abbrev pub after_swap : Machine → ℕ → Event → Machine
after_swap m word e = happened (record (with_head m word) { cursor = item_of (head_at (head m)) }) e

-- the owner may do so now, and adds this event by it
abbrev pub MaySwap : Machine → ℕ → Event → Type 0
MaySwap m word event.Take = (word ≡ busy_word) × IsEnabled m Owner Take
MaySwap m word event.Close = (word ≡ closed_word) × IsEnabled m Owner Close
MaySwap m word event.Drain = (word ≡ draining_word) × IsEnabled m Owner Drain
MaySwap m word event.Resume = (word ≡ busy_word) × IsEnabled m Owner Resume
MaySwap m word e = ⊥

-- the owner has walked k, whose link is this word; at the end all that it walked goes behind the batch
abbrev pub walked_past : Machine → ℕ → ℕ → Machine
walked_past m k word =
    if word == 0
    then record m { cursor = None; walked = []; batch = m.batch ++ k ∷ m.walked }
    else record m { cursor = number_at word; walked = k ∷ m.walked }

abbrev pub after_walk : Machine → Option ℕ → Machine
after_walk m None = m
after_walk m (Some k) = walked_past m k (link m k)

abbrev pub after_begin : Machine → List ℕ → Machine
after_begin m [] = m
after_begin m (k ∷ ks) = happened (record (with_item m k 0) { batch = ks }) (event.Begin k)

abbrev pub after_end : Machine → Option ℕ → Machine
after_end m None = m
after_end m (Some k) = happened (with_done m ((done_word m + 1) % 2 ^ 64)) (event.End k)

-- the machine after the step
abbrev pub after : Machine → Seat → Step → Machine
after m (Sender s) (Hold k) =
    if item_word m k == 0 then happened (with_item m k 1) (event.Hold s k) else happened m (event.Busy s k)
after m (Sender s) Look = with_private m s (record { seen = Some (head m); linked = None })
after m (Sender s) (Link k) = with_private (with_link m k (link_word (seen_word m s))) s (record (private m s) { linked = Some k })
after m (Sender s) (Push k) =
    if head m == seen_word m s
    then happened (with_private (with_head m (k + 1)) s nothing_seen) (event.Push s k)
    else with_private m s nothing_seen
after m (Sender s) (Back k why) = happened (with_private (with_item m k 0) s (unlinked (private m s) k)) (event.Back s k why)
after m (Sender s) (Check k) = m
after m Owner Take = after_swap m busy_word event.Take
after m Owner Close = after_swap m closed_word event.Close
after m Owner Drain = after_swap m draining_word event.Drain
after m Owner Resume = after_swap m busy_word event.Resume
after m Owner Walk = after_walk m m.cursor
after m Owner Begin = after_begin m m.batch
after m Owner End = after_end m (running m.history)
after m Owner (Chain k) =
    if item_word m k == 0
    then happened (record (with_item m k 1) { batch = m.batch ++ k ∷ [] }) (event.Chain k)
    else happened m (event.ChainBusy k)
after m Owner (Turn k next) = with_link m k (word_at next)
after m Owner Rest = if head m == busy_word then happened (with_head m resting_word) event.Rest else m
after m seat step = m

abbrev pub first_of : List ℕ → ℕ
first_of [] = 0
first_of (k ∷ ks) = k

-- the number whose link a walk loads: what is to be walked next, and once all is walked the first of the batch
abbrev pub walk_number : Machine → ℕ
walk_number m = unwrap_or m.cursor (first_of m.batch)

-- what the step is answered
abbrev pub reply_to : Machine → Seat → Step → Reply
reply_to m (Sender s) (Hold k) = if item_word m k == 0 then reply.Held else reply.Busy
reply_to m (Sender s) Look = reply.Looked (head_at (head m))
reply_to m (Sender s) (Link k) = reply.Linked
reply_to m (Sender s) (Push k) = if head m == seen_word m s then reply.Pushed (link_word (seen_word m s) == 0) (seen_word m s == resting_word) else reply.Lost
reply_to m (Sender s) (Back k why) = reply.GivenBack
reply_to m (Sender s) (Check k) = if item_word m k == 0 then reply.Idle else reply.Pending
reply_to m Owner Take = reply.Took (head_at (head m))
reply_to m Owner Close = reply.Closed (head_at (head m))
reply_to m Owner Drain = reply.Drained (head_at (head m))
reply_to m Owner Resume = reply.Resumed
reply_to m Owner Walk = reply.Walked (number_at (link m (walk_number m)))
reply_to m Owner Begin = reply.Began (first_of m.batch)
reply_to m Owner End = reply.Ended (unwrap_or (running m.history) 0)
reply_to m Owner (Chain k) = if item_word m k == 0 then reply.Chained else reply.ChainBusy
reply_to m Owner (Turn k next) = reply.Turned
reply_to m Owner Rest = if head m == busy_word then reply.Rested else reply.Lost
reply_to m seat step = reply.Idle
