use Rattle.std.proofs.lemmas.Result.{on_ok_weaker}
use Rattle.wq_script.proofs.Common.{◌∙◌, sym, refl, stop_number, queue_uncontended}
use Rattle.wq_script.proofs.Meetings.{asked_does}
use Rattle.wq_script.proofs.engine.Engine.stop.Goals as goal

pub answer_text-requires : goal.answer_text-requires
answer_text-requires c =
    let e = c.args.self.now in let s = c.requires.ready.0 in let m = c.requires.ready.1 in
    record { alone = λ is. queue_uncontended (stop_number e.layout) s.history (sym (c.stop-answer.ensures e.layout s.history m.seated).answer ∙ is) }

pub returns : goal.returns
returns c = on_ok_weaker c.write_line.result
    (λ written. asked_does c.args.self.now c.stop-answer.new.self c.queueing.new.self _ _ _ c.args.sender stop_number c.stop-answer.result _
    c.requires.fits c.stop-answer.ensures c.queueing.ensures written c.answer_text.ensures.text (λ s. refl) (λ s t. refl)) c.write_line.ensures.written
