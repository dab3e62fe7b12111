use Rattle.std.proofs.lemmas.Result.{on_ok_weaker}
use Rattle.wq_script.proofs.Common.{◌∙◌, ℕ, ◌+◌, ◌++◌, ap, refl, arith, string_bytes, length-append, if◌then◌else◌, codes, line, cancel_events}
use Rattle.wq_meaning.proofs.Sizes.{cancel_few, without_few}
use Rattle.wq_script.proofs.TableMeetings.{cancelled_meets}
use Rattle.wq_script.proofs.engine.Engine.cancel.Goals as goal

pub returns : goal.returns
returns c =
    let e = c.args.self.now in
    let p : ℕ = e.layout.senders + 1 in let k : ℕ = c.args.item in
    let b = c.cancel-was_on_table.new.self in let was = c.cancel-was_on_table.result in
    on_ok_weaker c.write_line.result (λ written. record {
      layout = refl;
      meets = λ s m. (cancelled_meets e.layout e.seats b e.tally e.tally s m k was c.cancel-was_on_table.ensures refl).0;
      lines = λ s m few.
          let so = (cancelled_meets e.layout e.seats b e.tally e.tally s m k was c.cancel-was_on_table.ensures refl).1 in
          written ∙ ap (λ x. string_bytes c.args.out.now ++ line x)
          (c.either.ensures.chosen ∙ ap (λ b. if b then codes "cancelled" else codes "not on table") so);
      room = λ s m. omega (arith, length-append s.history (cancel_events p k s.table), cancel_few p k s.table, without_few k s.table.entries);
    }) c.write_line.ensures.written
