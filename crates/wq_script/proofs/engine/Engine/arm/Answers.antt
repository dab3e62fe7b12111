use Rattle.std.proofs.lemmas.Result.{on_ok_weaker}
use Rattle.wq_script.proofs.Common.{◌∙◌, ℕ, ◌+◌, ◌++◌, sym, ap, refl, arith, string_bytes, length-append, line, arm_events, arm_given, armed_text}
use Rattle.wq_meaning.proofs.Sizes.{arm_few, arm_table_few}
use Rattle.wq_script.proofs.TableMeetings.{armed_meets}
use Rattle.wq_script.proofs.engine.Engine.arm.Goals as goal

pub armed_text-requires : goal.armed_text-requires
armed_text-requires c =
    let e = c.args.self.now in let s = c.requires.ready.0 in let m = c.requires.ready.1 in
    let so = (armed_meets e.layout e.seats c.arm-armed.new.self e.tally c.arming.new.self s m c.args.item c.args.delay c.arm-armed.result
    c.arm-armed.ensures c.arming.ensures).1 in
    let given = arm_given c.args.item c.args.delay s.history s.table in
    record { alone = λ is. given.0 (sym so ∙ is); memory = λ is. given.1 (sym so ∙ is) }

pub returns : goal.returns
returns c =
    let e = c.args.self.now in
    let p : ℕ = e.layout.senders + 1 in let k : ℕ = c.args.item in let delay : ℕ = c.args.delay in
    on_ok_weaker c.write_line.result (λ written. record {
      layout = refl;
      meets = λ s m.
          (armed_meets e.layout e.seats c.arm-armed.new.self e.tally c.arming.new.self s m k delay c.arm-armed.result c.arm-armed.ensures c.arming.ensures).0;
      lines = λ s m few.
          let same = (armed_meets e.layout e.seats c.arm-armed.new.self e.tally c.arming.new.self s m k delay c.arm-armed.result
          c.arm-armed.ensures c.arming.ensures).1 in
          written ∙ ap (λ x. string_bytes c.args.out.now ++ line x) (c.armed_text.ensures.text ∙ ap armed_text same);
      room = λ s m.
          let adds = arm_few p k delay s.history s.table in
          omega (arith, length-append s.history (arm_events p k delay s.history s.table), adds, arm_table_few k delay s.history s.table);
    }) c.write_line.ensures.written
