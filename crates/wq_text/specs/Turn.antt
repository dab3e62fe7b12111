-- The table of steps: which step the words of a schedule's line name, and what they ask for.
use Rattle.std.specs.Prelude.{ℕ, true, List, [], ◌∷◌, length, Option, Some, None, Result, Ok, ◌-◌, take, slice_index_or, ◌==◌, if◌then◌else◌, codes, option_map}
use Rattle.std.specs.Str.{bytes_eq}
use Rattle.wq_words.specs.declared.event.Why.{Why}
use Rattle.wq_words.specs.declared.event.Why.TheVariants as why
use Rattle.wq_words.specs.declared.layout.Layout.{Layout}
use Rattle.wq_words.specs.Limits.{most_items, most_senders, most_text_items}
use Rattle.wq_words.specs.Numbers.{barrier_number, stop_number}
use Rattle.wq_core.specs.declared.step.Seat.{Seat}
use Rattle.wq_core.specs.declared.step.Seat.TheVariants as seat
use Rattle.wq_core.specs.declared.step.Step.{Step}
use Rattle.wq_core.specs.declared.step.Step.TheVariants as step
use Rattle.wq_text.specs.declared.fault.FaultKind.{FaultKind}
use Rattle.wq_text.specs.declared.turn.Action.{Action}
use Rattle.wq_text.specs.declared.turn.Action.TheVariants as action
use Rattle.wq_text.specs.declared.turn.OwnersStep.{OwnersStep}
use Rattle.wq_text.specs.declared.turn.OwnersStep.TheVariants as owners
use Rattle.wq_text.specs.declared.turn.SendersStep.{SendersStep}
use Rattle.wq_text.specs.declared.turn.SendersStep.TheVariants as senders
use Rattle.wq_text.specs.Arguments.{sender, item, barrier, no_word, one_word, two_words, one}
use Rattle.wq_text.specs.Fault.{◌>>=◌, of_none, of_one, of_two}
use Rattle.wq_text.specs.Line.{Grammar, Lines}
use Rattle.wq_text.specs.Version.{lines_of_version}
use Rattle.wq_text.specs.Word.{without_first}

-- whose step it is, and which
abbrev pub Turn : Type 0
Turn = Seat × Step

-- what stands behind the b of a barrier's word
abbrev pub after_b : List ℕ → Option (List ℕ)
after_b [] = None
after_b (b ∷ bs) = if b == 98 then Some bs else None

abbrev pub barrier_or_item : Layout → List ℕ → Option (List ℕ) → Result ℕ FaultKind
barrier_or_item l w (Some digits) = of_one (barrier_number l) (barrier l digits)
barrier_or_item l w None = item l w

-- a number of the queue: an item, b and a barrier, or stop
unfoldable pub number_of_queue : Layout → List ℕ → Result ℕ FaultKind
number_of_queue l w = if bytes_eq w (codes "stop") then Ok (stop_number l) else barrier_or_item l w (after_b w)

-- where a link leads: to a number of the queue, or to none
unfoldable pub link_of : Layout → List ℕ → Result (Option ℕ) FaultKind
link_of l w = if bytes_eq w (codes "end") then Ok None else of_one Some (number_of_queue l w)

-- the steps of the owner, those of a sender, and the causes of giving back
unfoldable pub owners_action : List ℕ → Option Action
owners_action w =
    if bytes_eq w (codes "take") then Some (action.Owner owners.Take)
    else if bytes_eq w (codes "close") then Some (action.Owner owners.Close)
    else if bytes_eq w (codes "walk") then Some (action.Owner owners.Walk)
    else if bytes_eq w (codes "begin") then Some (action.Owner owners.Begin)
    else if bytes_eq w (codes "end") then Some (action.Owner owners.End)
    else if bytes_eq w (codes "chain") then Some action.Chain
    else if bytes_eq w (codes "turn") then Some action.Turn
    else if bytes_eq w (codes "rest") then Some (action.Owner owners.Rest)
    else None

unfoldable pub cause_at : List ℕ → Option Why
cause_at w =
    if bytes_eq w (codes "closed") then Some why.Closed
    else if bytes_eq w (codes "contended") then Some why.Contended
    else if bytes_eq w (codes "cancelled") then Some why.Cancelled
    else None

-- a cause in a language that knows drains
unfoldable pub why_at : List ℕ → Option Why
why_at w = if bytes_eq w (codes "draining") then Some why.Draining else cause_at w

unfoldable pub senders_action : List ℕ → List ℕ → Option Action
senders_action w last =
    if bytes_eq w (codes "hold") then Some (action.Sender senders.Hold)
    else if bytes_eq w (codes "look") then Some action.Look
    else if bytes_eq w (codes "link") then Some (action.Sender senders.Link)
    else if bytes_eq w (codes "push") then Some (action.Sender senders.Push)
    else if bytes_eq w (codes "back") then option_map action.Back (cause_at last)
    else if bytes_eq w (codes "check") then Some (action.Sender senders.Check)
    else None

-- which step the first word and the others name: the owner's behind o, a sender's behind any other word
abbrev pub nth_word : ℕ → List (List ℕ) → List ℕ
nth_word n ws = slice_index_or ws n []

abbrev pub action_at : List ℕ → List (List ℕ) → Option Action
action_at w ws =
    if length ws == 0 then None
    else if bytes_eq w (codes "o") then owners_action (nth_word 0 ws)
    else senders_action (nth_word 0 ws) (nth_word (length ws - 1) ws)

-- the same in version 2
unfoldable pub owners_action_2 : List ℕ → Option Action
owners_action_2 w =
    if bytes_eq w (codes "drain") then Some (action.Owner owners.Drain)
    else if bytes_eq w (codes "resume") then Some (action.Owner owners.Resume)
    else owners_action w

unfoldable pub senders_action_2 : List ℕ → List ℕ → Option Action
senders_action_2 w last = if bytes_eq w (codes "back") then option_map action.Back (why_at last) else senders_action w last

abbrev pub action_at_2 : List ℕ → List (List ℕ) → Option Action
action_at_2 w ws =
    if length ws == 0 then None
    else if bytes_eq w (codes "o") then owners_action_2 (nth_word 0 ws)
    else senders_action_2 (nth_word 0 ws) (nth_word (length ws - 1) ws)

-- a sender alone, or a sender and a number of the queue, with so many words behind the step's
abbrev pub seat_alone : Layout → List ℕ → List (List ℕ) → Result ℕ FaultKind
seat_alone l w ws = do
  _ ← no_word ws
  sender l w

abbrev pub seat_and_number : Layout → List ℕ → List (List ℕ) → Result (ℕ × ℕ) FaultKind
seat_and_number l w ws = do
  v ← one_word ws
  s ← sender l w
  k ← number_of_queue l v
  Ok (s, k)

-- a number of the queue and where its link leads, word by word from the left
abbrev pub number_and_link : Layout → List (List ℕ) → Result (ℕ × Option ℕ) FaultKind
number_and_link l ws = do
  w ← two_words ws
  k ← number_of_queue l w.0
  next ← link_of l w.1
  Ok (k, next)

abbrev pub without_last : List (List ℕ) → List (List ℕ)
without_last ws = take (length ws - 1) ws

-- the sender's step of this number, and the owner's without one
abbrev pub senders_step : SendersStep → ℕ → Step
senders_step senders.Hold k = step.Hold k
senders_step senders.Link k = step.Link k
senders_step senders.Push k = step.Push k
senders_step senders.Check k = step.Check k

abbrev pub owners_step : OwnersStep → Step
owners_step owners.Take = step.Take
owners_step owners.Close = step.Close
owners_step owners.Drain = step.Drain
owners_step owners.Resume = step.Resume
owners_step owners.Walk = step.Walk
owners_step owners.Begin = step.Begin
owners_step owners.End = step.End
owners_step owners.Rest = step.Rest

-- the table of steps, by the first word and the words behind the second
unfoldable pub turn_gives : Layout → Action → List ℕ → List (List ℕ) → Result Turn FaultKind
turn_gives l (action.Sender kind) w ws = of_two (λ s k. (seat.Sender s, senders_step kind k)) (seat_and_number l w ws)
turn_gives l action.Look w ws = of_one (λ s. (seat.Sender s, step.Look)) (seat_alone l w ws)
turn_gives l (action.Back cause) w ws = of_two (λ s k. (seat.Sender s, step.Back k cause)) (seat_and_number l w (without_last ws))
turn_gives l (action.Owner kind) w ws = of_none (seat.Owner, owners_step kind) (no_word ws)
turn_gives l action.Chain w ws = of_one (λ k. (seat.Owner, step.Chain k)) (one (item l) ws)
turn_gives l action.Turn w ws = of_two (λ k next. (seat.Owner, step.Turn k next)) (number_and_link l ws)

abbrev pub schedule_grammar : Grammar Action Turn
schedule_grammar = record {
  version = codes "steps 1";
  names_seats = true;
  most = record { items = most_text_items; senders = most_senders };
  names = action_at;
  asks = λ l a w ws. turn_gives l a w (without_first ws);
}

-- that of version 2
abbrev pub schedule_grammar_2 : Grammar Action Turn
schedule_grammar_2 = record {
  version = codes "steps 2";
  names_seats = true;
  most = record { items = most_items; senders = most_senders };
  names = action_at_2;
  asks = λ l a w ws. turn_gives l a w (without_first ws);
}

-- the lines of a schedule
abbrev pub schedule_lines : List ℕ → Lines Turn
schedule_lines = lines_of_version schedule_grammar schedule_grammar_2
