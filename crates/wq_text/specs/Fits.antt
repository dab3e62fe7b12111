-- Which commands a queue has the numbers for.
use Rattle.std.specs.Prelude.{ℕ, ◌<◌, List, All}
use Rattle.std.specs.Coded.{×_prop, Π_prop, →_prop, Unit-prop, le_prop}
use Rattle.wq_words.specs.declared.layout.Layout.{Layout}
use Rattle.wq_text.specs.declared.command.Command.{Command}
use Rattle.wq_text.specs.declared.command.Command.TheVariants as command

abbrev pub IsItem : Layout → ℕ → Type 0
IsItem layout item = item < layout.items

abbrev pub IsBarrier : Layout → ℕ → Type 0
IsBarrier layout barrier = barrier < layout.barriers

abbrev pub Fits : Layout → Command → Type 0
Fits layout (command.Queue sender item) = (sender < layout.senders) × IsItem layout item
Fits layout (command.Run limit) = Unit {0}
Fits layout command.Close = Unit {0}
Fits layout command.Report = Unit {0}
Fits layout (command.Follow item follow) = IsItem layout item × All (IsItem layout) follow.items
Fits layout (command.Flush sender barrier) = (sender < layout.senders) × IsBarrier layout barrier
Fits layout (command.Done sender barrier) = (sender < layout.senders) × IsBarrier layout barrier
Fits layout (command.Stop sender) = sender < layout.senders
Fits layout (command.Drain limit) = Unit {0}
Fits layout (command.DrainAndResume limit) = Unit {0}
Fits layout (command.Check item) = IsItem layout item
Fits layout (command.Arm item delay) = IsItem layout item
Fits layout (command.Cancel item) = IsItem layout item
Fits layout (command.Modify item delay) = IsItem layout item
Fits layout (command.Advance tick) = Unit {0}

-- a command fits in one way at most, and so do all of a list
Fits-prop : (layout : Layout) (c : Command) → IsProp (Fits layout c)
Fits-prop layout (command.Queue sender item) = ×_prop le_prop le_prop
Fits-prop layout (command.Follow item follow) = ×_prop le_prop (Π_prop (λ k. Π_prop (λ d. →_prop le_prop)))
Fits-prop layout (command.Flush sender barrier) = ×_prop le_prop le_prop
Fits-prop layout (command.Done sender barrier) = ×_prop le_prop le_prop
Fits-prop layout (command.Stop sender) = le_prop
Fits-prop layout (command.Check item) = le_prop
Fits-prop layout (command.Arm item delay) = le_prop
Fits-prop layout (command.Cancel item) = le_prop
Fits-prop layout (command.Modify item delay) = le_prop
Fits-prop layout _ = Unit-prop

pub All_Fits-prop : (layout : Layout) (commands : List Command) → IsProp (All (Fits layout) commands)
All_Fits-prop layout commands = Π_prop (λ k. Π_prop (λ d. →_prop (Fits-prop layout _)))
