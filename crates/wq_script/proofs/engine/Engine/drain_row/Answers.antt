use Rattle.wq_script.proofs.Common.{refl, sym, ◌∙◌, arith, ScriptState, Meets, begin_drain, end_drain}
use Rattle.wq_script.proofs.Drains.{drained_at_once, drained_in_turn, ran_meets_so}
use Rattle.wq_script.proofs.engine.Engine.drain_row.Goals as goal

pub returns-then-drain_none : goal.returns-then-drain_none
returns-then-drain_none c =
    let e = c.args.self.now in
    record {
      layout = refl;
      meets = λ s m.
          let begins = c.drain_none.ensures e.layout s.history m.seated in
          (drained_at_once e.layout e.tally s c.args.limit e.seats c.drain_none.new.self m begins.0 (sym begins.1 ∙ c.if-drain_none.true)).0;
      ran_is = λ s m.
          let begins = c.drain_none.ensures e.layout s.history m.seated in
          c.new.ensures.items
          ∙ (drained_at_once e.layout e.tally s c.args.limit e.seats c.drain_none.new.self m begins.0 (sym begins.1 ∙ c.if-drain_none.true)).1;
    }

pub returns : goal.returns
returns c =
    let e = c.args.self.now in
    let both = λ (s : ScriptState) (m : Meets e s).
    let begins = c.drain_none.ensures e.layout s.history m.seated in
    drained_in_turn e.layout e.tally s c.args.limit e.seats c.drain_none.new.self c.run.new.self c.drain_none-2.new.self c.in_ok-ran.ran.items m begins.0
    (sym begins.1 ∙ c.if-drain_none.false) c.in_ok-ran.ensures (λ h g. (c.drain_none-2.ensures e.layout h g).0) in
    record { layout = refl; meets = λ s m. (both s m).0; ran_is = λ s m. (both s m).1 }

pub run-requires-clause-seated : goal.run-requires-clause-seated
run-requires-clause-seated c =
    let s = c.requires.0 in (end_drain (begin_drain s.history), (c.drain_none.ensures c.args.self.now.layout s.history c.requires.1.seated).0.seated)

pub run-requires-clause-some : goal.run-requires-clause-some
run-requires-clause-some c =
    let e = c.args.self.now in
    omega (arith, e.layout.in_limits.2.0, (c.drain_none.ensures e.layout c.requires.0.history c.requires.1.seated).0.seated.count)

pub drain_none-requires-2-clause-seated : goal.drain_none-requires-2-clause-seated
drain_none-requires-2-clause-seated c =
    let e = c.args.self.now in let s = c.requires.0 in let m = c.requires.1 in let begins = c.drain_none.ensures e.layout s.history m.seated in
    let so = ran_meets_so e.layout e.tally s c.args.limit e.seats c.drain_none.new.self c.run.new.self c.in_ok-ran.ran.items m begins.0
    (sym begins.1 ∙ c.if-drain_none.false) c.in_ok-ran.ensures in
    (e.layout, _, so.seated)

pub drain_none-requires-2-clause-some : goal.drain_none-requires-2-clause-some
drain_none-requires-2-clause-some c =
    let e = c.args.self.now in let s = c.requires.0 in let m = c.requires.1 in let begins = c.drain_none.ensures e.layout s.history m.seated in
    let so = ran_meets_so e.layout e.tally s c.args.limit e.seats c.drain_none.new.self c.run.new.self c.in_ok-ran.ran.items m begins.0
    (sym begins.1 ∙ c.if-drain_none.false) c.in_ok-ran.ensures in
    omega (arith, e.layout.in_limits.2.0, so.seated.count)
