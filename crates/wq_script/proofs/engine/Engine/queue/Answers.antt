use Rattle.std.proofs.lemmas.Result.{on_ok_weaker}
use Rattle.wq_script.proofs.Common.{◌∙◌, sym, refl, queue_uncontended}
use Rattle.wq_script.proofs.Meetings.{asked_does}
use Rattle.wq_script.proofs.engine.Engine.queue.Goals as goal

pub answer_text-requires : goal.answer_text-requires
answer_text-requires c =
    let e = c.args.self.now in let s = c.requires.ready.0 in let m = c.requires.ready.1 in
    record { alone = λ is. queue_uncontended (c.args.item) s.history (sym (c.queue-answer.ensures e.layout s.history m.seated).answer ∙ is) }

pub returns : goal.returns
returns c = on_ok_weaker c.write_line.result
    (λ written. asked_does c.args.self.now c.queue-answer.new.self c.queueing.new.self _ _ _ c.args.sender (λ _. c.args.item) c.queue-answer.result _
    c.requires.fits.0 c.queue-answer.ensures c.queueing.ensures written c.answer_text.ensures.text (λ s. refl) (λ s t. refl)) c.write_line.ensures.written
