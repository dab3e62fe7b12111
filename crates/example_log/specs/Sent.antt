-- What a client has sent.
use Rattle.std.specs.Prelude.{◌≡◌, ℕ, ◌<◌, ◌≤◌, Bool, true, false, cond, List, [], ◌∷◌, ◌++◌, Option, Some, None, length, map, take, filter_map, All}
use Rattle.wq_words.specs.declared.layout.Layout.{Layout}
use Rattle.wq_words.specs.declared.event.Event.{Event}
use Rattle.wq_words.specs.declared.event.Event.TheVariants.{Back}
use Rattle.wq_words.specs.declared.event.Why.{Why}
use Rattle.wq_words.specs.declared.event.Why.TheVariants as why
use Rattle.wq_words.specs.History.{accepted}
use Rattle.wq_words.specs.Numbers.{stop_number}
use Rattle.wq_words.specs.Seen.{own}
use Rattle.wq_values.specs.Known.{Known, IsSame}
use Rattle.wq_values.specs.KnownWith.{KnownWith}
use Rattle.wq_values.specs.OwnBrought.{own_brought}
use Rattle.wq_ready.specs.Known.{Identity, IsCallerOf}
use Rattle.example_log.specs.declared.message.Log.{Log}
use Rattle.example_log.specs.declared.message.Log.TheVariants.{Access, Errors}
use Rattle.example_log.specs.declared.message.Message.{Message}
use Rattle.example_log.specs.declared.sending.Client.{Client}
use Rattle.example_log.specs.declared.sending.ClientSent.{ClientSent}
use Rattle.example_log.specs.declared.clients.Clients.{Clients}
use Rattle.example_log.specs.declared.clients.SentAndStopped.{SentAndStopped}
use Rattle.example_log.specs.Text.{Line}

-- a line that is for the first of these logs, if it is for the second
abbrev pub line_if : Log → Log → Line → Option Line
line_if Access Access line = Some line
line_if Errors Errors line = Some line
line_if _ _ line = None

-- the line of a message, if it is for this log
abbrev pub line_to : Log → Message → Option Line
line_to log message = line_if message.log log message.line

-- the lines of these messages that are for this log, in order
abbrev pub lines_to : Log → List Message → List Line
lines_to log messages = filter_map (line_to log) messages

-- what the queueings of this sender brought
abbrev pub own_lines : KnownWith Line → List (Option Line)
own_lines s = own_brought s.known.number s.known.seen s.brought

-- what a message brings to this log, if it was queued
abbrev pub brings : Log → Message → Bool → List (Option Line)
brings log message is_queued = cond is_queued (map Some (lines_to log (message ∷ []))) []

-- a client of this number, of which no sender has seen anything, and whose logs have so many items at least, with a caller of this
-- ready queue
pub record IsNewClient (ready : Identity) (number items : ℕ) (client : Client) : Type 0 where
  pub numbers : (client.access.known.number ≡ number) × (client.errors.known.number ≡ number)
  pub fits : (items ≤ client.access.known.layout.items) × (items ≤ client.errors.known.layout.items)
  pub unseen : (client.access.known.seen ≡ []) × (client.errors.known.seen ≡ [])
  pub unbrought : (client.access.brought ≡ []) × (client.errors.brought ≡ [])
  pub caller_is : IsCallerOf ready client.caller

-- an item that is given back for this was, since its queue takes no more
abbrev pub takes_no_more : Why → Bool
takes_no_more why.Closed = true
takes_no_more why.Draining = true
takes_no_more _ = false

-- among what sender s did in this history is that it gave an item back, since the queue took no more
pub record WasTurnedAway (s : ℕ) (h : List Event) : Type 0 where
  pub before : List Event
  pub item : ℕ
  pub reason : Why
  pub after : List Event
  pub is : own s h ≡ before ++ Back s item reason ∷ after
  pub takes_none : takes_no_more reason ≡ true

-- one of the two logs, which have these histories, turned sender s away
pub data IsTurnedAway (s : ℕ) (access errors : List Event) : Type 0 where
  from_access : WasTurnedAway s access → IsTurnedAway s access errors
  from_errors : WasTurnedAway s errors → IsTurnedAway s access errors

-- a client that sent fewer than its messages was turned away
abbrev pub SendsUnlessTurned : ℕ → List Message → ℕ → List Event → List Event → Type 0
SendsUnlessTurned s messages count access errors = count < length messages → IsTurnedAway s access errors

-- the same two senders have brought the lines of so many messages, from the first on, each log its own, and of all, unless a log
-- turned one away
pub record HasSent (client : Client) (messages : List Message) (sent : ClientSent) : Type 0 where
  pub same_access : IsSame client.access.known sent.access.known
  pub same_errors : IsSame client.errors.known sent.errors.known
  pub to_access : own_lines sent.access ≡ map Some (lines_to Access (take sent.count messages))
  pub to_errors : own_lines sent.errors ≡ map Some (lines_to Errors (take sent.count messages))
  pub all_sent : SendsUnlessTurned client.access.known.number messages sent.count sent.access.known.seen sent.errors.known.seen

-- two new clients, of four items each, and who stops the logs behind them
pub record AreNewClients (ready : Identity) (clients : Clients) : Type 0 where
  pub first_is : IsNewClient ready 0 4 clients.first
  pub second_is : IsNewClient ready 1 8 clients.second
  pub last_is : IsNewClient ready 2 0 clients.last

-- no other number than the stop item was accepted of sender s
abbrev pub OnlyStops : Layout → ℕ → List Event → Type 0
OnlyStops layout s h = All (λ k. k ≡ stop_number layout) (accepted (own s h))

-- the same sender, which has queued no other number than the stop item
pub record StopsAlone (old new : Known) : Type 0 where
  pub same : IsSame old new
  pub only_stops : OnlyStops old.layout old.number new.seen

-- both clients have sent these messages, unless a log turned one away, and who stops the logs has stopped them
pub record HaveSent (clients : Clients) (first second : List Message) (sent : SentAndStopped) : Type 0 where
  pub first_has : HasSent clients.first first sent.first
  pub second_has : HasSent clients.second second sent.second
  pub stops_access : StopsAlone clients.last.access.known sent.access.known
  pub stops_errors : StopsAlone clients.last.errors.known sent.errors.known
