-- What a schedule shows.
use Rattle.std.specs.Prelude.{List}
use Rattle.wq_words.specs.declared.layout.Layout.{Layout}
use Rattle.wq_text.specs.declared.schedule.Schedule.{Schedule}
use Rattle.wq_text.specs.Turn.{Turn}

-- the numbers of its queue, and the turns
abbrev pub schedule_layout : Schedule → Layout
schedule_layout schedule = schedule.layout

abbrev pub turns_of : Schedule → List Turn
turns_of schedule = schedule.turns.items
