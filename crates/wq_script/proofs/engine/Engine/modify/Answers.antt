use Rattle.std.proofs.lemmas.Result.{on_ok_weaker}
use Rattle.wq_script.proofs.Common.{◌∙◌, ℕ, ◌+◌, ◌++◌, sym, ap, refl, arith, string_bytes, length-append, line, modify_events, modify_given, modified_text}
use Rattle.wq_script.proofs.Common.{modify_few, modify_table_few}
use Rattle.wq_script.proofs.TableMeetings.{modified_meets}
use Rattle.wq_script.proofs.engine.Engine.modify.Goals as goal

pub modified_text-requires : goal.modified_text-requires
modified_text-requires c =
    let e = c.args.self.now in let s = c.requires.ready.0 in let m = c.requires.ready.1 in
    let so = (modified_meets e.layout e.seats c.modify-modified.new.self e.tally c.modification.new.self s m c.args.item c.args.delay
    c.modify-modified.result c.is_on_table-was_on_table.result c.is_on_table-was_on_table.ensures c.modify-modified.ensures c.modification.ensures).1 in
    let given = modify_given c.args.item c.args.delay s.history s.table in
    record { alone = λ is. given.0 (sym so ∙ is); memory = λ is. given.1 (sym so ∙ is) }

pub returns : goal.returns
returns c =
    let e = c.args.self.now in
    let p : ℕ = e.layout.senders + 1 in let k : ℕ = c.args.item in let delay : ℕ = c.args.delay in
    on_ok_weaker c.write_line.result (λ written. record {
      layout = refl;
      meets = λ s m.
          (modified_meets e.layout e.seats c.modify-modified.new.self e.tally c.modification.new.self s m k delay c.modify-modified.result
          c.is_on_table-was_on_table.result c.is_on_table-was_on_table.ensures c.modify-modified.ensures c.modification.ensures).0;
      lines = λ s m few.
          let same = (modified_meets e.layout e.seats c.modify-modified.new.self e.tally c.modification.new.self s m k delay
          c.modify-modified.result c.is_on_table-was_on_table.result c.is_on_table-was_on_table.ensures c.modify-modified.ensures c.modification.ensures).1 in
          written ∙ ap (λ x. string_bytes c.args.out.now ++ line x) (c.modified_text.ensures.text ∙ ap modified_text same);
      room = λ s m.
          let adds = modify_few p k delay s.history s.table in
          omega (arith, length-append s.history (modify_events p k delay s.history s.table), adds, modify_table_few k delay s.history s.table);
    }) c.write_line.ensures.written
