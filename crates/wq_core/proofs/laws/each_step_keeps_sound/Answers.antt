use Rattle.wq_core.proofs.Sound.{sound_opening, sound_after}
use Rattle.wq_core.proofs.laws.each_step_keeps_sound.Goals as goal

pub returns : goal.returns
returns c = record { opening = sound_opening; step = sound_after }
