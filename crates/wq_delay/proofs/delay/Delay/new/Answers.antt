use Rattle.wq_delay.proofs.Common.{ap, ◌∙◌, Layout}
use Rattle.wq_delay.proofs.Sound.{fit_at, sound_empty}
use Rattle.wq_delay.proofs.delay.Delay.new.Goals as goal

pub invariant_of-result : goal.invariant_of-result
invariant_of-result c =
    let t = c.in-Ok.table in
    let sound = sound_empty t.size c.args.now c.args.sender t.entries c.in-Ok.ensures.1
    (c.in-Ok.ensures.0 ∙ ap (λ (z : Layout). z.items) c.layout.ensures.layout) c.layout.ensures.legal c.requires in
    (sound.0, fit_at c.args.sender t.entries c.args.now t.tick 0 sound.1)

pub returns-in-Ok-clause-fit : goal.returns-in-Ok-clause-fit
returns-in-Ok-clause-fit c =
    let t = c.in-Ok.table in
    let sound = sound_empty t.size c.args.now c.args.sender t.entries c.in-Ok.ensures.1
    (c.in-Ok.ensures.0 ∙ ap (λ (z : Layout). z.items) c.layout.ensures.layout) c.layout.ensures.legal c.requires in
    fit_at c.args.sender t.entries c.args.now t.tick 0 sound.1
