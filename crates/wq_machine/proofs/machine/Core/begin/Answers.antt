use Rattle.std.proofs.Common.{◌≡◌, length, arith, refl}
use Rattle.wq_machine.proofs.Stored.{stored_begin, by_top}
use Rattle.wq_core.proofs.OwnerSteps.{first_of_batch}
use Rattle.wq_machine.proofs.machine.Core.begin.Goals as goal

pub index_mut-requires : goal.index_mut-requires
index_mut-requires c =
    let made = rw (← c.self.view_is) at c.requires in
    let o = c.self.invariant.sound in
    let len : c.len-last.result ≡ length c.self.inside.batch.items = omega arith in
    let split = by_top c.self.inside.batch.items c.index-number.result.now made.1.1 (rw len at c.index-number.ensures) in
    let first = first_of_batch _ o c.index-number.result.now _ made.1.0 split in
    omega (arith, first.0, o.has_words, c.item_place-bit.ensures.place)

pub invariant_of-self-2 : goal.invariant_of-self-2
invariant_of-self-2 c =
    let made = rw (← c.self.view_is) at c.requires in
    let len : c.len-last.result ≡ length c.self.inside.batch.items = omega arith in
    let split = by_top c.self.inside.batch.items c.index-number.result.now made.1.1 (rw len at c.index-number.ensures) in
    rw (c.in_ok-push.ensures.items, c.truncate.ensures.items, len, c.item_place-bit.ensures.place)
    (stored_begin _ _ _ c.self.invariant c.index-number.result.now _ made.1.0 split made.1.2)

pub returns-clause-reply : goal.returns-clause-reply
returns-clause-reply c =
    let made = rw (← c.self.view_is) at c.requires in
    let len : c.len-last.result ≡ length c.self.inside.batch.items = omega arith in
    let split = by_top c.self.inside.batch.items c.index-number.result.now made.1.1 (rw len at c.index-number.ensures) in
    rw (← c.self.view_is, split) refl

pub returns-clause-after : goal.returns-clause-after
returns-clause-after c =
    let made = rw (← c.self.view_is) at c.requires in
    let len : c.len-last.result ≡ length c.self.inside.batch.items = omega arith in
    let split = by_top c.self.inside.batch.items c.index-number.result.now made.1.1 (rw len at c.index-number.ensures) in
    rw (← c.self.view_is, split, ← c.self.view_is, c.in_ok-push.ensures.items, c.truncate.ensures.items, len, c.item_place-bit.ensures.place) refl
