-- How far accepted numbers have come.
use Rattle.std.specs.Prelude.{ℕ, List, Option, filter_map}
use Rattle.wq_words.specs.declared.counts.Milestone.{Milestone}
use Rattle.wq_words.specs.declared.counts.Milestone.TheVariants.{Accepted, Begun, Ended}
use Rattle.wq_words.specs.declared.event.Event.{Event}
use Rattle.wq_words.specs.History.{accepted_by, begun_by, ended_by}

-- the number that comes so far by the event, and all that have come so far, in order
abbrev pub reached_by : Milestone → Event → Option ℕ
reached_by Accepted = accepted_by
reached_by Begun = begun_by
reached_by Ended = ended_by

abbrev pub reached : Milestone → List Event → List ℕ
reached milestone h = filter_map (reached_by milestone) h
