use Rattle.wq_words.specs.History.{accepted}
use Rattle.wq_words.specs.Seen.{own}
use Rattle.wq_calls.proofs.Resting.{queued_accepted}
use Rattle.wq_delay.proofs.Common.{◌≡◌, ℕ, ◌+◌, List, [], ◌∷◌, ◌++◌, refl, sym, ap, subst, ◌∙◌, Busy, on_table, DelayState}
use Rattle.wq_delay.proofs.Sound.{fit_at, sound_queued, sound_keeps, sound_puts, off_before}
use Rattle.wq_delay.proofs.OnTable.{placed_on, placed_others, queued_armed}
use Rattle.wq_delay.proofs.Accepted.{queued_still}
use Rattle.wq_delay.proofs.delay.Delay.arm.Goals as goal

pub invariant_of-self : goal.invariant_of-self
invariant_of-self c =
    let i = c.self.inside in
    sound_queued i.table.size c.args.item c.args.tries c.queue_tries.result i.sender c.queue_tries.new.self i.table.tick i.next i.table.entries
    c.queue_tries.ensures.answer c.self.invariant

pub invariant_of-self-then-not-hold : goal.invariant_of-self-then-not-hold
invariant_of-self-then-not-hold c =
    let i = c.self.inside in
    sound_keeps (Busy i.sender.number c.args.item ∷ []) 0 i.table.size i.sender c.hold.new.self i.table.tick i.next i.table.tick i.table.entries
    c.if-not-hold.ensures.seen (λ j. refl) c.self.invariant

pub put-requires-clause-off : goal.put-requires-clause-off
put-requires-clause-off c =
    let i = c.self.inside in
    off_before 0 i.sender c.hold.new.self c.args.item i.table.entries c.if-not-hold.ensures.seen c.self.invariant.1.held

pub invariant_of-self-2 : goal.invariant_of-self-2
invariant_of-self-2 c =
    let i = c.self.inside in
    let sound = sound_puts i.table.size 0 c.args.item i.sender c.hold.new.self i.table.tick i.next c.in-Some.due i.table.entries
    c.put.new.self.entries c.if-not-hold.ensures.seen c.put.ensures.put c.self.invariant in
    (c.put.ensures.size ∙ sound.0, fit_at c.hold.new.self c.put.new.self.entries i.table.tick c.put.new.self.tick (i.next + 1) sound.1)

pub returns-clause-on : goal.returns-clause-on
returns-clause-on c = let i = c.self.inside in
    λ is. placed_on (record { due = c.in-Some.due; arming = i.next; item = c.args.item }) i.table.entries c.put.new.self.entries c.put.ensures.put

pub returns-clause-other_items : goal.returns-clause-other_items
returns-clause-other_items c = let i = c.self.inside in
    λ j apart. placed_others j (record { due = c.in-Some.due; arming = i.next; item = c.args.item }) i.table.entries c.put.new.self.entries
    c.put.ensures.put apart
    ∙ ap (λ (z : DelayState). on_table j z.table.entries) c.self.view_is

pub returns-then-delay-eq0-clause-accepted : goal.returns-then-delay-eq0-clause-accepted
returns-then-delay-eq0-clause-accepted c = let a = c.self.inside.sender in let b = c.queue_tries.new.self in let k = c.args.item in
    λ is_first wakes is. subst
    (λ (z : DelayState). accepted (own z.sender.number b.seen) ≡ accepted (own z.sender.number z.sender.seen) ++ k ∷ [])
    c.self.view_is
    (queued_accepted k c.args.tries c.queue_tries.result a b c.queue_tries.ensures.answer
    ∙ ap (λ (ks : List ℕ). accepted (own a.number a.seen) ++ ks)
    (queued_armed k c.queue_tries.result is_first wakes (sym c.armed_of.ensures ∙ is)))

pub returns-then-delay-eq0-clause-unqueued : goal.returns-then-delay-eq0-clause-unqueued
returns-then-delay-eq0-clause-unqueued c = let a = c.self.inside.sender in let b = c.queue_tries.new.self in
    λ other. subst (λ (z : DelayState). accepted (own b.number b.seen) ≡ accepted (own z.sender.number z.sender.seen)) c.self.view_is
    (queued_still c.args.item c.args.tries c.queue_tries.result a b c.queue_tries.ensures.answer
    (λ is_first wakes is. other is_first wakes (c.armed_of.ensures ∙ is)))
