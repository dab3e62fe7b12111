use Rattle.wq_words.specs.declared.event.Why.TheVariants.{Cancelled}
use Rattle.wq_delay.proofs.Common.{◌≡◌, false, List, sym, refl, ap, ◌∙◌, subst, Back, Entry, on_table, without_off, DelayState, IsFit}
use Rattle.wq_delay.proofs.Sound.{state, fit_at, sound_leaves, stops_back}
use Rattle.wq_delay.proofs.OnTable.{without_at, without_others}
use Rattle.wq_delay.proofs.delay.Delay.cancel.Goals as goal

pub invariant_of-self : goal.invariant_of-self
invariant_of-self c =
    let i = c.self.inside in
    let same = c.take.ensures.entries ∙ without_off c.args.item i.table.entries (sym c.if-not-take.ensures.answer) in (
      c.take.ensures.size ∙ c.self.invariant.0,
      fit_at i.sender c.take.new.self.entries i.table.tick c.take.new.self.tick i.next
          (subst (λ (z : List Entry). IsFit (state i.sender i.table.tick i.next z)) (sym same) c.self.invariant.1),
    )

pub returns-then-not-take-clause-answer : goal.returns-then-not-take-clause-answer
returns-then-not-take-clause-answer c =
    let i = c.self.inside in
    let off : on_table c.args.item i.table.entries ≡ false = sym c.if-not-take.ensures.answer in
    let same = c.take.ensures.entries ∙ without_off c.args.item i.table.entries off in
    let at = c.take.ensures.tick in (
      subst (λ (z : DelayState). on_table c.args.item z.table.entries ≡ false) c.self.view_is off,
      (λ p. record { sender = i.sender; table = record { entries = same p; tick = at p; next = i.next }; looked = i.looked }) ∙ c.self.view_is,
    )

pub invariant_of-self-2 : goal.invariant_of-self-2
invariant_of-self-2 c =
    let i = c.self.inside in let k = c.args.item in let s = i.sender.number in
    let sound = sound_leaves (Back s k Cancelled) i.table.size 0 k i.sender c.give_back.new.self i.table.tick i.next i.table.entries c.take.new.self.entries
    c.give_back.ensures.seen (λ j. refl) (λ j. stops_back s k j Cancelled) c.take.ensures.entries c.self.invariant in
    (c.take.ensures.size ∙ sound.0, fit_at c.give_back.new.self c.take.new.self.entries i.table.tick c.take.new.self.tick i.next sound.1)

pub returns-then-not-take-clause-off : goal.returns-then-not-take-clause-off
returns-then-not-take-clause-off c = without_at c.args.item c.self.inside.table.entries c.take.new.self.entries c.take.ensures.entries

pub returns-then-not-take-clause-other_items : goal.returns-then-not-take-clause-other_items
returns-then-not-take-clause-other_items c = let i = c.self.inside in
    λ j apart. without_others j c.args.item i.table.entries c.take.new.self.entries c.take.ensures.entries apart
    ∙ ap (λ (z : DelayState). on_table j z.table.entries) c.self.view_is

pub returns-clause-off : goal.returns-clause-off
returns-clause-off c = without_at c.args.item c.self.inside.table.entries c.take.new.self.entries c.take.ensures.entries

pub returns-clause-other_items : goal.returns-clause-other_items
returns-clause-other_items c = let i = c.self.inside in
    λ j apart. without_others j c.args.item i.table.entries c.take.new.self.entries c.take.ensures.entries apart
    ∙ ap (λ (z : DelayState). on_table j z.table.entries) c.self.view_is
