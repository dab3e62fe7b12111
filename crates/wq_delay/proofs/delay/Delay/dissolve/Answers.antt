use Rattle.wq_delay.proofs.Common.{ℕ, sym, ◌∙◌, subst, arith, without_off, Known, DelayState, GivesAllBack}
use Rattle.wq_delay.proofs.Going.{Given, given_none, given_more, given_same, given_all, taken_held, on_less, off_more, all_off}
use Rattle.wq_delay.proofs.Accepted.{given_still}
use Rattle.wq_delay.proofs.delay.Delay.dissolve.Goals.{then-take, else-take}
use Rattle.wq_delay.proofs.delay.Delay.dissolve.Goals as goal

pub loop-item-init : goal.loop-item-init
loop-item-init c =
    let i = c.self.inside in (
      given_none i.table.size i.sender i.table.tick i.next i.table.entries c.self.invariant,
      λ k on. let l = c.size-item-end.ensures.low k on in omega (arith, c.size-item-end.ensures.size),
      λ k low. absurd (omega arith),
      sym c.size-item-end.ensures.size,
    )

pub give_back-requires-clause-held : goal.give_back-requires-clause-held
give_back-requires-clause-held c =
    let i = c.self.inside in let l = c.loop-item in
    taken_held l.table.size l.item i.sender l.sender i.table.entries l.table.entries l.invariant.0 (sym c.take.ensures.answer ∙ c.if-take.true)

pub loop-item-preserved : goal.loop-item-preserved
loop-item-preserved c =
    let i = c.self.inside in let l = c.loop-item in let t = c.take in let k = l.item in
    let left = λ (s : Known). subst (λ (z : ℕ). Given z i.sender i.table.entries s t.new.self.entries) (sym t.ensures.size) in (
      elim c.if-take.branch [
        | then-take w ↦ subst (λ (s : Known). Given t.new.self.size i.sender i.table.entries s t.new.self.entries) (sym w.sender-is)
            (left w.give_back.new.self (given_more l.table.size k i.sender l.sender w.give_back.new.self i.table.entries l.table.entries t.new.self.entries
            l.invariant.0 (sym t.ensures.answer ∙ w.if-take.true) t.ensures.entries w.give_back.ensures.seen))
        | else-take w ↦ subst (λ (s : Known). Given t.new.self.size i.sender i.table.entries s t.new.self.entries) (sym w.sender-is)
            (left l.sender (given_same l.table.size i.sender l.sender i.table.entries l.table.entries t.new.self.entries
            (t.ensures.entries ∙ without_off k l.table.entries (sym t.ensures.answer ∙ w.if-take.false)) l.invariant.0))
      ],
      λ j on. l.invariant.1 j (on_less j k l.table.entries t.new.self.entries t.ensures.entries on),
      λ j low. off_more j k l.table.entries t.new.self.entries t.ensures.entries (l.invariant.2 j) low,
      t.ensures.size ∙ l.invariant.3,
    )

pub returns-clause-given : goal.returns-clause-given
returns-clause-given c =
    let i = c.self.inside in let l = c.loop-item in
    subst (λ (z : DelayState). GivesAllBack z l.sender) c.self.view_is
    (given_all l.table.size i.sender l.sender i.table.entries l.table.entries i.table.tick i.next i.looked l.invariant.0
    (all_off l.table.entries c.size-item-end.result l.item l.invariant.1 c.loop-item-test.false l.invariant.2))

pub returns-clause-unqueued : goal.returns-clause-unqueued
returns-clause-unqueued c = given_still c.args.self c.loop-item.sender (returns-clause-given c)

pub returns-clause-free : goal.returns-clause-free
returns-clause-free c k holds =
    let l = c.loop-item in
    let on = (l.invariant.0.sound.1.held k).1 holds in
    let off = all_off l.table.entries c.size-item-end.result l.item l.invariant.1 c.loop-item-test.false l.invariant.2 k in absurd (cc)
