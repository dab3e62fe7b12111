use Rattle.std.specs.Prelude.{Some}
use Rattle.wq_table.proofs.chair.Chair.chain_value.Given as goal

abbrev pub ghosts-chain_said : goal.ghosts-chain_said
ghosts-chain_said g a = record { said = Some a.value.now }
