use Rattle.wq_delay.proofs.Common.{rules, ◌+◌, refl, sym, ap, ◌∙◌, on_table, without, DelayState}
use Rattle.wq_delay.proofs.Sound.{fit_at, sound_moves}
use Rattle.wq_delay.proofs.OnTable.{placed_on, placed_others, without_others, posts_others}
use Rattle.wq_delay.proofs.Accepted.{late_unqueued, posted_more, posted_still}
use Rattle.wq_words.specs.Armed.{modified_of}
use Rattle.wq_delay.proofs.delay.Delay.modify.Goals as goal

pub invariant_of-self : goal.invariant_of-self
invariant_of-self c =
    let i = c.self.inside in
    let sound = sound_moves i.table.size c.args.item i.table.tick i.next c.in-Some.due i.sender i.table.entries c.replace.new.self.entries
    (sym c.if-not-has.ensures) c.replace.ensures.placed c.self.invariant in
    (c.replace.ensures.size ∙ sound.0, fit_at i.sender c.replace.new.self.entries i.table.tick c.replace.new.self.tick (i.next + 1) sound.1)

pub returns-clause-still_on : goal.returns-clause-still_on
returns-clause-still_on c = let i = c.self.inside in
    λ is late. placed_on (record { due = c.in-Some.due; arming = i.next; item = c.args.item }) (without c.args.item i.table.entries)
    c.replace.new.self.entries c.replace.ensures.placed

pub returns-clause-other_items : goal.returns-clause-other_items
returns-clause-other_items c = let i = c.self.inside in let k = c.args.item in
    λ j apart. placed_others j (record { due = c.in-Some.due; arming = i.next; item = k }) (without k i.table.entries) c.replace.new.self.entries
    c.replace.ensures.placed apart
    ∙ (without_others j k i.table.entries (without k i.table.entries) refl apart ∙ ap (λ (z : DelayState). on_table j z.table.entries) c.self.view_is)

pub returns-then-delay-eq0-clause-other_items : goal.returns-then-delay-eq0-clause-other_items
returns-then-delay-eq0-clause-other_items c =
    λ j apart. posts_others j c.args.item c.args.tries c.post_item.result c.args.self.now c.post_item.new.self c.post_item.ensures.posts apart

pub returns-then-delay-eq0-clause-posted : goal.returns-then-delay-eq0-clause-posted
returns-then-delay-eq0-clause-posted c =
    λ is none. posted_more c.args.item c.args.tries c.post_item.result c.args.self.now c.post_item.new.self c.post_item.ensures.posts
    (search rules)

pub returns-then-delay-eq0-clause-unqueued : goal.returns-then-delay-eq0-clause-unqueued
returns-then-delay-eq0-clause-unqueued c =
    λ idle other. posted_still c.args.item c.args.tries c.post_item.result c.args.self.now c.post_item.new.self c.post_item.ensures.posts
    (λ is. other (search rules))

pub returns-then-not-has-clause-unqueued : goal.returns-then-not-has-clause-unqueued
returns-then-not-has-clause-unqueued c =
    λ other moved. c.arm.ensures.unqueued (λ is_first wakes is. other (c.modified_of.ensures ∙ ap modified_of is))

pub returns-then-not-has-clause-delayed : goal.returns-then-not-has-clause-delayed
returns-then-not-has-clause-delayed c =
    λ late. c.arm.ensures.unqueued
    (late_unqueued c.args.item c.args.delay c.args.tries c.arm.result c.args.self.now c.arm.new.self c.arm.ensures.answer late)
