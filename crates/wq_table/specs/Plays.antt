-- What a step tells the seat that makes it: the machine was sound just before, the seat was of it, and has now seen all that has happened.
use Rattle.std.specs.Prelude.{◌≡◌, ℕ, ◌-◌, ◌==◌, if◌then◌else◌, List, [], ◌∷◌, ◌++◌, get_or, set, Option, Some, None}
use Rattle.wq_words.specs.declared.layout.Layout.{Layout}
use Rattle.wq_words.specs.Numbers.{number_count}
use Rattle.wq_words.specs.declared.event.Why.TheVariants.{Closed, Draining, Contended, Cancelled}
use Rattle.wq_words.specs.declared.event.Event.{Event}
use Rattle.wq_core.specs.declared.step.Step.{Step}
use Rattle.wq_core.specs.declared.step.Step.TheVariants.{Hold, Look, Link, Push, Back, Check, Take, Close, Drain, Resume, Walk, Begin, End, Chain, Turn, Rest}
use Rattle.wq_core.specs.Words.{link_place, item_place, link_word, number_at, word_at, head_at, item_of}
use Rattle.wq_core.specs.Machine.{Machine, nothing_seen, unlinked, head, link, item_word, done_word, seen_word, first_of, walk_number, after}
use Rattle.wq_core.specs.Made.{IsMade}
use Rattle.wq_core.specs.Sound.{IsSound}
use Rattle.wq_table.specs.declared.table.Part.{Part}
use Rattle.wq_table.specs.declared.table.Stage.{Stage}
use Rattle.wq_table.specs.declared.table.Stage.TheVariants.{Sends, Owns}
use Rattle.wq_table.specs.Law.{View, part, seat_at, IsPartOf}

-- the word that the step finds; a store finds what it stores
abbrev pub word_found : Machine → ℕ → Step → ℕ
word_found m c (Hold k) = item_word m k
word_found m c Look = head m
word_found m c (Link k) = link_word (seen_word m c)
word_found m c (Push k) = head m
word_found m c (Back k why) = item_word m k
word_found m c (Check k) = item_word m k
word_found m c Take = head m
word_found m c Close = head m
word_found m c Drain = head m
word_found m c Resume = head m
word_found m c Walk = link m (walk_number m)
word_found m c Begin = item_word m (first_of m.batch)
word_found m c End = done_word m
word_found m c (Chain k) = item_word m k
word_found m c (Turn k next) = word_at next
word_found m c Rest = head m

-- a batch without its first number
abbrev pub tail_of : List ℕ → List ℕ
tail_of [] = []
tail_of (k ∷ ks) = ks

-- the owner walked k, and found this link
abbrev pub walked_on : ℕ → List ℕ → List ℕ → ℕ → Stage
walked_on k walked batch word = if word == 0 then Owns None [] (batch ++ k ∷ walked) else Owns (number_at word) (k ∷ walked) batch

-- the owner found this link of the number that it was to walk, or, having walked all, of the oldest of its batch
abbrev pub walked_by : Option ℕ → List ℕ → List ℕ → ℕ → Stage
walked_by None walked batch word = Owns None walked batch
walked_by (Some k) walked batch word = walked_on k walked batch word

-- the owner swapped the head, found this word, and walks what stood there next
abbrev pub swapped : ℕ → List ℕ → List ℕ → Stage
swapped word walked batch = Owns (item_of (head_at word)) walked batch

-- what the seat keeps after a step that found this word
abbrev pub stage_after : Stage → Step → ℕ → Stage
stage_after (Sends p) Look word = Sends (record { seen = Some word; linked = None })
stage_after (Sends p) (Link k) word = Sends (record p { linked = Some k })
stage_after (Sends p) (Push k) word = Sends nothing_seen
stage_after (Sends p) (Back k why) word = Sends (unlinked p k)
stage_after (Sends p) _ word = Sends p
stage_after (Owns cursor walked batch) Take word = swapped word walked batch
stage_after (Owns cursor walked batch) Close word = swapped word walked batch
stage_after (Owns cursor walked batch) Drain word = swapped word walked batch
stage_after (Owns cursor walked batch) Resume word = swapped word walked batch
stage_after (Owns cursor walked batch) Walk word = walked_by cursor walked batch word
stage_after (Owns cursor walked batch) Begin word = Owns cursor walked (tail_of batch)
stage_after (Owns cursor walked batch) (Chain k) word = Owns cursor walked (if word == 0 then batch ++ k ∷ [] else batch)
stage_after (Owns cursor walked batch) _ word = Owns cursor walked batch

-- The seat makes the step, finds this word, and is p before and q after
pub record Makes (step : Step) (word : ℕ) (p q : Part) : Type 0 where
  pub before : Machine
  pub sound : IsSound before
  pub fits : IsPartOf before p
  pub word_is : word ≡ word_found before p.seat step
  pub sound_after : IsSound (after before (seat_at p.seat p.stage) step)
  pub fits_after : IsPartOf (after before (seat_at p.seat p.stage) step) q
  pub seat_is : q.seat ≡ p.seat
  pub seen_is : q.seen ≡ (after before (seat_at p.seat p.stage) step).history
  pub words_are : q.words ≡ (after before (seat_at p.seat p.stage) step).words
  pub stage_is : q.stage ≡ stage_after p.stage step word

-- Whatever machine the part is of, the step is made, makes f of its word, which has the place i, and finds g of it
pub record Performs (p : Part) (step : Step) (i : ℕ) (f g : ℕ → ℕ) : Type 0 where
  pub made : (m : Machine) → IsSound m → IsPartOf m p → IsMade m (seat_at p.seat p.stage) step
  pub writes : (m : Machine) → IsSound m → IsPartOf m p → (after m (seat_at p.seat p.stage) step).words ≡ set m.words i (f (get_or m.words i 0))
  pub finds : (m : Machine) → IsSound m → IsPartOf m p → g (get_or m.words i 0) ≡ word_found m p.seat step

-- the step of a seat that an operation is, by the place of its word and, where it is stored or exchanged, the new word
abbrev pub Kind : Type 0
Kind = ℕ → ℕ → Layout → Step

-- the number whose item word has this place
abbrev pub item_at : ℕ → Layout → ℕ
item_at i layout = i - item_place (number_count layout) 0

abbrev pub holds : Kind
holds i new layout = Hold (item_at i layout)

abbrev pub looks : Kind
looks i new layout = Look

abbrev pub links : Kind
links i new layout = Link (i - link_place 0)

abbrev pub pushes : Kind
pushes i new layout = Push (new - 1)

abbrev pub finds_closed : Kind
finds_closed i new layout = Back (item_at i layout) Closed

abbrev pub finds_draining : Kind
finds_draining i new layout = Back (item_at i layout) Draining

abbrev pub gives_up : Kind
gives_up i new layout = Back (item_at i layout) Contended

abbrev pub cancels : Kind
cancels i new layout = Back (item_at i layout) Cancelled

abbrev pub checks : Kind
checks i new layout = Check (item_at i layout)

abbrev pub takes : Kind
takes i new layout = Take

abbrev pub closes : Kind
closes i new layout = Close

abbrev pub drains : Kind
drains i new layout = Drain

abbrev pub resumes : Kind
resumes i new layout = Resume

abbrev pub walks : Kind
walks i new layout = Walk

abbrev pub turns_link : Kind
turns_link i new layout = Turn (i - link_place 0) (Some (new - 1))

abbrev pub begins : Kind
begins i new layout = Begin

abbrev pub ends : Kind
ends i new layout = End

abbrev pub chains : Kind
chains i new layout = Chain (item_at i layout)

abbrev pub rests : Kind
rests i new layout = Rest

-- the part has seen h, and keeps all else
abbrev pub see : List Event → Part → Part
see h p = part p.seat p.layout h p.words p.stage

abbrev pub all_see : List Event → View → View
all_see h [] = []
all_see h (p ∷ ps) = see h p ∷ all_see h ps

abbrev pub AllOf : Machine → View → Type 0
AllOf m [] = Unit {0}
AllOf m (p ∷ ps) = IsPartOf m p × AllOf m ps
