-- Who keeps a number, as a call answers it.
use Rattle.wq_words.specs.Keeper as words
use Rattle.wq_machine.specs.declared.keeper.Keeper.{Keeper}
use Rattle.wq_machine.specs.declared.keeper.Keeper.TheVariants.{Home, Sender, List, Owner}

-- the keeper of the definitions that the answer names
abbrev pub kept_by : Keeper → words.Keeper
kept_by Home = words.Home
kept_by (Sender s) = words.Sender s
kept_by List = words.Listed
kept_by Owner = words.Owner
