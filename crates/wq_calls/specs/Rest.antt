-- What a rest of the owner's says.
use Rattle.std.specs.Prelude.{◌≡◌, true, false, Bool, List, [], ◌∷◌, ◌++◌, ◌⊎◌}
use Rattle.wq_words.specs.declared.event.Event.{Event}
use Rattle.wq_words.specs.declared.event.Event.TheVariants.{Rest}
use Rattle.wq_words.specs.History.{first}
use Rattle.wq_words.specs.Rest.{wakes}
use Rattle.wq_calls.specs.Known.{Known, Sees}

-- the owner's rest: true where the queue rests by it
abbrev pub Rests : Bool → Known → Known → Type 0
Rests true old new = Sees (Rest ∷ []) 0 old new
Rests false old new = Sees [] 0 old new

-- The last event of all is a Rest. Just before it nothing had been pushed since the last Take, Drain or Resume, and the queue
-- did not rest.
pub record HasRested (h : List Event) : Type 0 where
  pub before : List Event
  pub is : h ≡ before ++ Rest ∷ []
  pub first_is : first before ≡ true
  pub wakes_is : wakes before ≡ false

-- why no Rest comes now: something was pushed since the last Take, Drain or Resume, or nothing was taken, drained or pushed since
-- the last Rest, or at all
abbrev pub MayNotRest : List Event → Type 0
MayNotRest h = (first h ≡ false) ⊎ (wakes h ≡ true)
