use Rattle.std.proofs.lemmas.Result.{on_ok_weaker}
use Rattle.wq_script.proofs.Common.{◌≡◌, ◌∙◌, ℕ, ◌+◌, ◌++◌, sym, ap, refl, arith, string_bytes, subst, length-append, codes, length, MatchOption, lt-ltb}
use Rattle.wq_script.proofs.Common.{le-ltb, closed, DelayTable, line, row_text, advance_word, posted_items, advance_events, ScriptState, wrote, advanced}
use Rattle.wq_script.proofs.Common.{advance_back, advance_on, advance_few, IsBackwards, IsPosted, counted_posts, Meets, size}
use Rattle.wq_text.specs.declared.command.Command.TheVariants as command
use Rattle.wq_script.proofs.Meetings.{engine, back_meets}
use Rattle.wq_script.proofs.TableMeetings.{posted_meets}
use Rattle.wq_script.proofs.engine.Engine.advance.Goals as goal

pub returns-in_default : goal.returns-in_default
returns-in_default c =
    let e = c.args.self.now in let tick : ℕ = c.args.tick in let b = c.advance.new.self in
    let told : IsBackwards tick e.seats b =
    subst (λ o. MatchOption o (IsBackwards tick e.seats b) (λ due. IsPosted tick due.items e.seats b)) c.in_default.is c.in_ok-posted.ensures in
    let so = λ (s : ScriptState) (m : Meets e s).
    advance_back e.layout s tick (lt-ltb _ _ (omega (arith, (told e.layout s.history m.seated).0, ap (λ (t : DelayTable). t.tick) m.table))) in
    on_ok_weaker c.write_line.result (λ written. record {
      layout = refl;
      meets = λ s m.
          subst (λ (t : ScriptState). Meets (engine e.layout b e.tally) t) (sym (so s m).0)
          (back_meets e.layout e.seats b e.tally s m (told e.layout s.history m.seated).1);
      lines = λ s m few. wrote e.layout s s (command.Advance tick) _ _ (line (codes "false backwards"))
          (so s m).0 (so s m).1 written;
      room = λ s m. omega (arith, ap size (so s m).0);
    }) c.write_line.ensures.written

pub returns : goal.returns
returns c =
    let e = c.args.self.now in let tick : ℕ = c.args.tick in let b = c.advance.new.self in
    let p : ℕ = e.layout.senders + 1 in
    let posted = c.in-Some.posted.items in
    let told : IsPosted tick posted e.seats b =
    subst (λ o. MatchOption o (IsBackwards tick e.seats b) (λ due. IsPosted tick due.items e.seats b)) c.in-Some.is c.in_ok-posted.ensures in
    let long : c.len.result ≡ length posted = c.len.ensures ∙ c.in-Some.posted.ok.0 in
    let counts = λ (s : ScriptState) (m : Meets e s).
    c.posting.ensures ∙ (λ i. counted_posts (c.is_closed-is_closed.ensures e.layout s.history m.seated i) (long i) e.tally) in
    let goes = λ (s : ScriptState) (m : Meets e s). posted_meets e.layout e.seats b e.tally c.posting.new.self s m tick posted told (counts s m) in
    let so = λ (s : ScriptState) (m : Meets e s). advance_on e.layout s tick (le-ltb _ _ (goes s m).2) in
    on_ok_weaker c.write_row.result (λ written. record {
      layout = refl;
      meets = λ s m. subst (λ (t : ScriptState). Meets (engine e.layout b c.posting.new.self) t) (sym (so s m).0) (goes s m).0;
      lines = λ s m few.
          let due = (goes s m).1 in
          let closes = c.is_closed-is_closed.ensures e.layout s.history m.seated in
          let word = c.advance_word.ensures.text ∙ (ap (advance_word c.is_closed-is_closed.result) (c.deref.ensures.value ∙ due)
          ∙ ap (λ b. advance_word b (posted_items tick s.history s.table)) closes) in
          wrote e.layout s (advanced e.layout s tick) (command.Advance tick) _ _ _ (so s m).0 (so s m).1
          (written ∙ (ap (λ w. string_bytes c.args.out.now ++ row_text e.layout w c.deref-2.result.now) word
          ∙ ap (λ ks. string_bytes c.args.out.now ++ row_text e.layout (advance_word (closed s.history) (posted_items tick s.history s.table)) ks)
          (c.deref-2.ensures.value ∙ due)));
      room = λ s m.
          omega (arith, ap size (so s m).0, length-append s.history (advance_events p tick s.history s.table), advance_few p tick s.history s.table);
    }) c.write_row.ensures.written
