use Rattle.wq_delay.proofs.Common.{◌≡◌, ℕ, [], ◌∷◌, sym, refl, ap, ◌∙◌, subst, Back, Push, DelayTable, due_part, IsFirstDue, DelayState, IsFit, KeepsTable}
use Rattle.wq_delay.proofs.Common.{TakesOff, PostsDue}
use Rattle.wq_delay.proofs.Advancing.{going_none, going_pushed, going_refused, fewer_left, went_all, went_lost, went_drained}
use Rattle.wq_words.specs.declared.event.Why.TheVariants as why
use Rattle.wq_live.specs.Answers.{HasMetDrain}
use Rattle.wq_delay.proofs.delay.Delay.post_due.Goals as goal

pub loop-item-init : goal.loop-item-init
loop-item-init c = (going_none c.args.self.now.table.tick c.args.self.now (subst IsFit c.self.view_is c.self.invariant.1), refl)

pub loop-item-preserved-in-Queued : goal.loop-item-preserved-in-Queued
loop-item-preserved-in-Queued c =
    let l = c.loop-item in let first = c.in-Some.ensures.first in
    let order = c.in-Some.ensures.ordered in let same = c.in-Some.ensures.same in let now = c.args.self.now.table.tick in
    let leaves = subst (λ (z : DelayState). TakesOff (Push z.sender.number c.in-Some.item ∷ []) c.in-Some.item z c.post_item.new.self)
    same c.in-Queued.ensures.posts in
    let looked = c.in-Queued.ensures.looked ∙ (ap (λ (z : DelayState). z.looked) same ∙ l.invariant.1) in
    let at : l.self.table.tick ≡ now = l.invariant.0.tick_is in (
      going_pushed now c.in-Some.item l.pushed l.refused c.args.self.now l.self c.post_item.new.self
          l.invariant.0 order (subst (λ (z : ℕ). IsFirstDue z c.in-Some.item l.self.table.entries) at first) leaves,
      looked,
    )

pub loop-item-preserved : goal.loop-item-preserved
loop-item-preserved c =
    let l = c.loop-item in let first = c.in-Some.ensures.first in
    let order = c.in-Some.ensures.ordered in let same = c.in-Some.ensures.same in let now = c.args.self.now.table.tick in
    let leaves = subst (λ (z : DelayState). TakesOff (Back z.sender.number c.in-Some.item why.Closed ∷ []) c.in-Some.item z c.post_item.new.self)
    same c.in-Closed.ensures.posts in
    let looked = c.in-Closed.ensures.looked ∙ (ap (λ (z : DelayState). z.looked) same ∙ l.invariant.1) in
    let at : l.self.table.tick ≡ now = l.invariant.0.tick_is in (
      going_refused now c.in-Some.item l.pushed l.refused c.args.self.now l.self c.post_item.new.self
          l.invariant.0 order (subst (λ (z : ℕ). IsFirstDue z c.in-Some.item l.self.table.entries) at first) leaves,
      looked,
    )

pub loop-item-smaller-in-Queued : goal.loop-item-smaller-in-Queued
loop-item-smaller-in-Queued c =
    let l = c.loop-item in let first = c.in-Some.ensures.first in
    let order = c.in-Some.ensures.ordered in let same = c.in-Some.ensures.same in let now = c.args.self.now.table.tick in
    let leaves = subst (λ (z : DelayState). TakesOff (Push z.sender.number c.in-Some.item ∷ []) c.in-Some.item z c.post_item.new.self)
    same c.in-Queued.ensures.posts in
    fewer_left l.self.table.tick c.in-Some.item l.self.table.entries c.post_item.new.self.table.entries order first
    (ap (λ (z : DelayTable). z.entries) leaves.table_is)

pub loop-item-smaller : goal.loop-item-smaller
loop-item-smaller c =
    let l = c.loop-item in let first = c.in-Some.ensures.first in
    let order = c.in-Some.ensures.ordered in let same = c.in-Some.ensures.same in let now = c.args.self.now.table.tick in
    let leaves = subst (λ (z : DelayState). TakesOff (Back z.sender.number c.in-Some.item why.Closed ∷ []) c.in-Some.item z c.post_item.new.self) same
    c.in-Closed.ensures.posts in
    fewer_left l.self.table.tick c.in-Some.item l.self.table.entries c.post_item.new.self.table.entries order first
    (ap (λ (z : DelayTable). z.entries) leaves.table_is)

pub returns-in-Contended-clause-posts : goal.returns-in-Contended-clause-posts
returns-in-Contended-clause-posts c =
    let l = c.loop-item in
    let order = c.in-Some.ensures.ordered in let same = c.in-Some.ensures.same in let now = c.args.self.now.table.tick in
    let keeps = subst (λ (z : DelayState). KeepsTable [] c.args.tries z c.post_item.new.self) same c.in-Contended.ensures.posts in
    went_lost now c.args.tries l.pushed l.refused c.args.self.now l.self c.post_item.new.self l.invariant.0 refl order keeps

pub returns-in-Draining-clause-posts : goal.returns-in-Draining-clause-posts
returns-in-Draining-clause-posts c =
    let l = c.loop-item in
    let order = c.in-Some.ensures.ordered in let same = c.in-Some.ensures.same in let now = c.args.self.now.table.tick in
    let told = subst (λ (z : DelayState). KeepsTable [] 0 z c.post_item.new.self × HasMetDrain z.sender.seen c.post_item.new.self.sender.seen) same
    c.in-Draining.ensures.posts in
    went_drained now c.args.tries l.pushed l.refused c.args.self.now l.self c.post_item.new.self l.invariant.0 refl order told.0 told.1

pub returns-clause-posts : goal.returns-clause-posts
returns-clause-posts c =
    let l = c.loop-item in let now = c.args.self.now.table.tick in
    let order = c.in_default.ensures.ordered in let same = c.in_default.ensures.same in
    let none = subst (λ (z : ℕ). due_part z l.self.table.entries ≡ []) l.invariant.0.tick_is c.in_default.ensures.first in
    subst (λ (z : DelayState). PostsDue now c.args.tries c.args.self.now z l.pushed l.refused) (sym same)
    (went_all now c.args.tries l.pushed l.refused c.args.self.now l.self l.invariant.0 refl order none)
