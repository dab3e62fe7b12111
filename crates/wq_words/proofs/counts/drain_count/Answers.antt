use Rattle.wq_words.proofs.Common.{sym, ◌∙◌, ap, arith, cond, Bool, ℕ, is_drain, is_resume}
use Rattle.wq_words.proofs.Counted.{counted_since_yes, counted_since_no}
use Rattle.wq_words.proofs.counts.drain_count.Goals.{then-is_resume, else-is_resume+then-is_drain, else-is_resume+else-is_drain}
use Rattle.wq_words.proofs.counts.drain_count.Goals as goal

pub loop-event-preserved : goal.loop-event-preserved
loop-event-preserved c =
    let h = c.args.history.now in
    let i = c.loop-event.event-index in
    elim c.if-is_resume.branch [
      | then-is_resume w ↦
          let none = counted_since_yes is_drain h i _ c.loop-event-test.true is_resume (sym c.is_resume.ensures ∙ w.if-is_resume.true) in
          (omega (arith, w.count-is, none), omega (arith, w.count-is))
      | else-is_resume+then-is_drain w ↦
          let more = counted_since_no is_drain h i _ c.loop-event-test.true is_resume (sym c.is_resume.ensures ∙ w.if-is_resume.false) in
          let one = ap {B = ℕ} (λ (b : Bool). cond b 1 0) (sym w.is_drain.ensures ∙ w.if-is_drain.true) in
          (omega (arith, w.count-is, more, one), omega (arith, w.count-is))
      | else-is_resume+else-is_drain w ↦
          let more = counted_since_no is_drain h i _ c.loop-event-test.true is_resume (sym c.is_resume.ensures ∙ w.if-is_resume.false) in
          let none = ap {B = ℕ} (λ (b : Bool). cond b 1 0) (sym w.is_drain.ensures ∙ w.if-is_drain.false) in
          (omega (arith, w.count-is, more, none), omega (arith, w.count-is))
    ]
