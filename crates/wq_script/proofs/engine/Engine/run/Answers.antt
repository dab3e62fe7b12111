use Rattle.std.proofs.lemmas.Result.{on_ok_weaker}
use Rattle.wq_script.proofs.Common.{ℕ, Some, ◌∙◌, ◌++◌, ap, refl, arith, string_bytes, codes, subst, stop_number, row_text, ends_at, ScriptState}
use Rattle.wq_script.proofs.Common.{executions_few, RunsAs, Meets}
use Rattle.wq_script.proofs.Meetings.{ran_meets}
use Rattle.wq_script.proofs.engine.Engine.run.Goals as goal

pub returns : goal.returns
returns c =
    let e = c.args.self.now in let limit : ℕ = c.args.limit in let ran = c.in_ok-ran.ran.items in
    let ends = ends_at (Some (stop_number e.layout)) in
    let P : ℕ → Type 0 = λ last. RunsAs e.layout limit (Some last) ran e.seats c.run.new.self in
    let runs : P (stop_number e.layout) = subst P c.stop-stop.ensures.number c.in_ok-ran.ensures in
    let goes = λ (s : ScriptState) (m : Meets e s).
    ran_meets e.layout e.seats c.run.new.self e.tally s limit ends ran m (runs s.history m.seated m.idle m.lists) in
    on_ok_weaker c.write_row.result (λ written. record {
      layout = refl;
      meets = λ s m. (goes s m).0;
      lines = λ s m few.
          written ∙ ap (λ ks. string_bytes c.args.out.now ++ row_text e.layout (codes "ran") ks)
          (c.deref.ensures.value ∙ (goes s m).1);
      room = λ s m. omega (arith, executions_few e.layout.senders s.follows ends limit s.history m.short, c.ranges.limit);
    }) c.write_row.ensures.written
