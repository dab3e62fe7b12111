use Rattle.std.proofs.lemmas.Result.{on_ok_weaker}
use Rattle.wq_script.proofs.Common.{◌∙◌, sym, refl, barrier_number, queue_uncontended, Layout, ℕ}
use Rattle.wq_script.proofs.Meetings.{asked_does}
use Rattle.wq_script.proofs.engine.Engine.flush.Goals as goal

pub answer_text-requires : goal.answer_text-requires
answer_text-requires c =
    let e = c.args.self.now in let s = c.requires.ready.0 in let m = c.requires.ready.1 in
    record {
      alone = λ is. queue_uncontended (barrier_number e.layout c.args.barrier) s.history
          (sym (c.flush-answer.ensures e.layout s.history m.seated).answer ∙ is);
    }

pub returns : goal.returns
returns c =
    let k : Layout → ℕ = λ l. barrier_number l c.args.barrier in
    on_ok_weaker c.write_line.result
    (λ written. asked_does c.args.self.now c.flush-answer.new.self c.queueing.new.self _ _ _ c.args.sender k c.flush-answer.result _ c.requires.fits.0
    c.flush-answer.ensures c.queueing.ensures written c.answer_text.ensures.text (λ s. refl) (λ s t. refl)) c.write_line.ensures.written
