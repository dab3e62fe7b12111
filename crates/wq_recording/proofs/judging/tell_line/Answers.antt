use Rattle.wq_recording.proofs.Awaiting.{made_behind, sound_on, fits_on}
use Rattle.wq_recording.proofs.judging.tell_line.Goals as goal

pub tell-requires-clause-made : goal.tell-requires-clause-made
tell-requires-clause-made g c =
    made_behind g.L.Language.grammar g.L.Recording.layout_of c.args.awaited c.in_ok-next.next c.in_ok-next.asked c.args.checker.now c.args.line.now
    c.requires.made c.in_ok-next.ensures.exact

pub tell-requires-clause-fits : goal.tell-requires-clause-fits
tell-requires-clause-fits g c =
    fits_on g.L.Language.grammar.most.senders g.L.Language.fits c.args.awaited c.in_ok-next.next c.in_ok-next.asked c.in_ok-next.ensures.sound c.requires.sound

pub returns-clause-told : goal.returns-clause-told
returns-clause-told g c =
    let sound = sound_on g.L.Language.grammar.most.senders g.L.Language.fits c.args.awaited c.in_ok-next.next c.in_ok-next.asked
    c.in_ok-next.ensures.sound c.requires.sound in
    (c.in_ok-next.next, c.in_ok-next.asked, c.in_ok-next.ensures.exact, sound, c.in_ok-told.ensures)
