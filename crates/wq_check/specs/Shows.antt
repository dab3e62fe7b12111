-- Which histories a trace shows.
use Rattle.std.specs.Prelude.{◌≡◌, ℕ, ◌+◌, Bool, true, List, [], ◌∷◌, ◌++◌, length, filter, nat_lt, Some, None}
use Rattle.wq_words.specs.declared.layout.Layout.{Layout}
use Rattle.wq_words.specs.declared.event.Event.{Event}
use Rattle.wq_words.specs.declared.event.Event.TheVariants.{Hold, Busy, Push, Back, Begin, End, Chain, ChainBusy}
use Rattle.wq_words.specs.History.{accepted_by, begun_by, ended_by, begun, running}
use Rattle.wq_words.specs.Legal.{IsLegal}
use Rattle.wq_check.specs.declared.mark.Mark.{Mark}
use Rattle.wq_check.specs.declared.mark.Mark.TheVariants as mark
use Rattle.wq_check.specs.Trace.{started}

-- an event that no trace shows: it neither accepts, begins nor ends
pub record IsHidden (e : Event) : Type 0 where
  pub accepts : accepted_by e ≡ None
  pub begins : begun_by e ≡ None
  pub ends : ended_by e ≡ None

-- the trace shows the history: a Push or a Chain is a Queue, an End is an End, and a Begin comes unseen, no later than its Start
pub data Shows : List Mark → List Event → Type 0 where
  nothing : Shows [] []
  hides : (t : List Mark) (h : List Event) (e : Event) → Shows t h → IsHidden e → Shows t (h ++ e ∷ [])
  queues : (t : List Mark) (h : List Event) (e : Event) (k : ℕ) → Shows t h → accepted_by e ≡ Some k → Shows (t ++ mark.Queue k ∷ []) (h ++ e ∷ [])
  begins : (t : List Mark) (h : List Event) (k : ℕ) → Shows t h → Shows t (h ++ Begin k ∷ [])
  starts : (t : List Mark) (h : List Event) (k : ℕ) → Shows t h → running h ≡ Some k → length (begun h) ≡ length (started t) + 1
      → Shows (t ++ mark.Start k ∷ []) h
  ends : (t : List Mark) (h : List Event) (k : ℕ) → Shows t h → length (begun h) ≡ length (started t)
      → Shows (t ++ mark.End k ∷ []) (h ++ End k ∷ [])

abbrev pub ShowsLegalHistory : Layout → List Mark → Type 0
ShowsLegalHistory layout t = (h : List Event) × IsLegal layout h × Shows t h

-- false of an event of a barrier or of the stop item
abbrev pub is_of_items : Layout → Event → Bool
is_of_items layout (Hold s k) = nat_lt k layout.items
is_of_items layout (Busy s k) = nat_lt k layout.items
is_of_items layout (Push s k) = nat_lt k layout.items
is_of_items layout (Back s k why) = nat_lt k layout.items
is_of_items layout (Begin k) = nat_lt k layout.items
is_of_items layout (End k) = nat_lt k layout.items
is_of_items layout (Chain k) = nat_lt k layout.items
is_of_items layout (ChainBusy k) = nat_lt k layout.items
is_of_items layout _ = true

-- the history without its barriers and the stop item
abbrev pub item_part : Layout → List Event → List Event
item_part layout h = filter (is_of_items layout) h

-- the trace shows that part of the history: barriers and the stop item are hidden wherever they come
abbrev pub ShowsItems : Layout → List Mark → List Event → Type 0
ShowsItems layout t h = Shows t (item_part layout h)

abbrev pub ShowsItemsOfLegalHistory : Layout → List Mark → Type 0
ShowsItemsOfLegalHistory layout t = (h : List Event) × IsLegal layout h × ShowsItems layout t h
