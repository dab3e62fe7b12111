use Rattle.wq_text.proofs.Common.{◌≡◌, Some, Err, arith, sym, ◌∙◌, refl, inl, err_from_is_err_and, ScriptError, line_gives, IsRefusal, end_fault}
use Rattle.wq_text.proofs.Texts.{refused_for, read_nothing, read_more, faulty_line, cut_short, no_header, spelled}
use Rattle.wq_text.proofs.Sound.{keeps, ends_sound}
use Rattle.wq_text.proofs.text.read.Goals as goal

pub returns-then-text-gt-MOST_BYTES-clause-refused : goal.returns-then-text-gt-MOST_BYTES-clause-refused
returns-then-text-gt-MOST_BYTES-clause-refused g c = rw c.refused.ensures (inl (omega arith, refl))

pub loop-line-init : goal.loop-line-init
loop-line-init g c = record {
  short = omega arith;
  few = omega arith;
  less = omega (arith, c.new-asked.ensures.len);
  sound = c.new-asked.ensures.items;
  read = read_nothing (line_gives g.L.Language.grammar) c.args.text.now c.new-asked.result.items c.new-asked.ensures.items;
}

pub returns-in_err-next-clause-refused : goal.returns-in_err-next-clause-refused
returns-in_err-next-clause-refused g c =
    let gives = line_gives g.L.Language.grammar in
    let l = c.loop-line in
    let line = c.in-Some.line.now in
    let p = err_from_is_err_and c.from_residual.result c.from_residual.ensures.1 in
    rw (p.1, p.2) (refused_for
    (λ (e : ScriptError). (e.line ≡ l.number) × (gives l.awaited line ≡ Err e.kind))
    (IsRefusal gives c.args.text.now)
    c.in_err-next.field-0.0
    (λ e h. faulty_line gives c.args.text.now l.rest.now line c.in-Some.after.now l.number l.awaited l.asked.items e
    l.invariant.short l.invariant.read c.in-Some.ensures.0 h.0 h.1)
    c.in_err-next.ensures.refused)

pub loop-line-preserved : goal.loop-line-preserved
loop-line-preserved g c =
    let grammar = g.L.Language.grammar in
    let l = c.loop-line in
    let next = c.in_ok-next in
    let new = c.add.new.asked.items in
    let added = c.in_ok-add.ensures in
    record {
      short = l.invariant.short;
      few = omega (arith, c.in-Some.ensures.1, l.invariant.few);
      less = omega (arith, added.few, l.invariant.less);
      sound = keeps grammar.most.senders g.L.Language.fits l.awaited next.next next.one l.asked.items new next.ensures.sound added.added l.invariant.sound;
      read = read_more (line_gives grammar) c.args.text.now l.rest.now c.in-Some.line.now c.in-Some.after.now l.number l.awaited next.next
          l.asked.items new next.one l.invariant.read c.in-Some.ensures.0 next.ensures.gives added.added;
    }

pub returns-then-not-is_empty-clause-refused : goal.returns-then-not-is_empty-clause-refused
returns-then-not-is_empty-clause-refused g c =
    let l = c.loop-line in
    let some = sym c.is_empty.ensures ∙ c.if-not-is_empty.true in
    rw c.refused-then-not-is_empty.ensures
    (cut_short (line_gives g.L.Language.grammar) c.args.text.now l.rest.now l.number l.awaited l.asked.items _
    l.invariant.short l.invariant.read c.in_default.ensures some refl refl)

pub returns-in_err-layout-clause-refused : goal.returns-in_err-layout-clause-refused
returns-in_err-layout-clause-refused g c =
    let gives = line_gives g.L.Language.grammar in
    let l = c.loop-line in
    let none = sym c.is_empty.ensures ∙ c.if-not-is_empty.false in
    let p = err_from_is_err_and c.from_residual-in_err-layout.result c.from_residual-in_err-layout.ensures.1 in
    rw (p.1, p.2) (refused_for
    (λ (e : ScriptError). (e.line ≡ l.number) × (end_fault l.awaited ≡ Some e.kind))
    (IsRefusal gives c.args.text.now)
    c.in_err-layout.field-0.0
    (λ e h. no_header gives c.args.text.now l.rest.now l.number l.awaited l.asked.items e
    l.invariant.short l.invariant.read c.in_default.ensures none h.0 h.1)
    c.in_err-layout.ensures.refused)

pub returns-clause-spells : goal.returns-clause-spells
returns-clause-spells g c =
    let l = c.loop-line in
    let none = sym c.is_empty.ensures ∙ c.if-not-is_empty.false in
    spelled (line_gives g.L.Language.grammar) c.args.text.now l.rest.now l.number l.awaited c.in_ok-layout.layout l.asked.items
    l.invariant.short l.invariant.read c.in_default.ensures none c.in_ok-layout.ensures.whole

pub returns-clause-sound : goal.returns-clause-sound
returns-clause-sound g c =
    let l = c.loop-line in
    ends_sound g.L.Language.grammar.most.senders g.L.Language.fits l.awaited c.in_ok-layout.layout l.asked.items c.in_ok-layout.ensures.whole l.invariant.sound
