use Rattle.wq_check.proofs.Common.{◌≡◌, refl, arith, get_or, Queue, Start, End}
use Rattle.std.proofs.lemmas.List.{get_or_read}
use Rattle.wq_check.proofs.FollowingMarks.{mark_kept, mark_on, finds_place, stands_first, times_small}
use Rattle.wq_check.proofs.seen_queue.SeenQueue.make.Goals as goal

pub overflow_add-index_mut : goal.overflow_add-index_mut
overflow_add-index_mut c =
    let told = c.self.invariant in
    let may = (rw (← c.self.view_is, c.in-Queue.is) at c.requires) told.1.0 told.1.1 in
    let was : c.index_mut.result.now ≡ get_or c.self.inside.times.items c.in-Queue.number 0 =
    get_or_read c.self.inside.times.items _ _ (omega (arith, may.0, told.1.1.has_times)) c.index_mut.ensures.value 0 in
    rw was (omega (arith, times_small _ told.1.0 told.1.1 c.in-Queue.number may.0, c.self.inside.layout.in_limits.0.1, c.self.inside.layout.in_limits.1.1))

pub invariant_of-self : goal.invariant_of-self
invariant_of-self c =
    let told = c.self.invariant in
    let may = (rw (← c.self.view_is, c.in-Queue.is) at c.requires) told.1.0 told.1.1 in
    let fits = finds_place _ _ told.1.0 told.1.1 (Queue c.in-Queue.number) told.0 may c.in-Queue.number refl refl in
    let was : c.index_mut.result.now ≡ get_or c.self.inside.times.items c.in-Queue.number 0 =
    get_or_read c.self.inside.times.items _ _ (omega (arith, may.0, told.1.1.has_times)) c.index_mut.ensures.value 0 in
    rw (c.push_back.ensures.items, fits, was) (mark_on _ _ told.1.0 told.1.1 (Queue c.in-Queue.number) told.0 may refl)

pub overflow_sub-index_mut : goal.overflow_sub-index_mut
overflow_sub-index_mut c =
    let told = c.self.invariant in
    let may = (rw (← c.self.view_is, c.in-Start.is) at c.requires) told.1.0 told.1.1 in
    let was : c.index_mut-in-Start.result.now ≡ get_or c.self.inside.times.items c.in-Start.number 0 =
    get_or_read c.self.inside.times.items _ _ (omega (arith, may.0, told.1.1.has_times)) c.index_mut-in-Start.ensures.value 0 in
    rw was (stands_first _ told.1.0 told.1.1 c.in-Start.number may.0 may.1.1)

pub invariant_of-self-in-Start : goal.invariant_of-self-in-Start
invariant_of-self-in-Start c =
    let told = c.self.invariant in
    let may = (rw (← c.self.view_is, c.in-Start.is) at c.requires) told.1.0 told.1.1 in
    let was : c.index_mut-in-Start.result.now ≡ get_or c.self.inside.times.items c.in-Start.number 0 =
    get_or_read c.self.inside.times.items _ _ (omega (arith, may.0, told.1.1.has_times)) c.index_mut-in-Start.ensures.value 0 in
    rw (c.pop_front-self-inside.ensures.items, was) (mark_on _ _ told.1.0 told.1.1 (Start c.in-Start.number) told.0 may refl)

pub invariant_of-self-in-End : goal.invariant_of-self-in-End
invariant_of-self-in-End c =
    let told = c.self.invariant in
    let may = (rw (← c.self.view_is, c.in-End.is) at c.requires) told.1.0 told.1.1 in
    mark_on _ _ told.1.0 told.1.1 (End c.in-End.field-0) told.0 may refl

pub returns-in-Queue-clause-told : goal.returns-in-Queue-clause-told
returns-in-Queue-clause-told c = λ t o.
    let at = rw (← c.self.view_is) at o in
    let may = (rw (← c.self.view_is, c.in-Queue.is) at c.requires) t at in
    let fits = finds_place _ _ t at (Queue c.in-Queue.number) c.self.invariant.0 may c.in-Queue.number refl refl in
    let was : c.index_mut.result.now ≡ get_or c.self.inside.times.items c.in-Queue.number 0 =
    get_or_read c.self.inside.times.items _ _ (omega (arith, may.0, at.has_times)) c.index_mut.ensures.value 0 in
    rw (c.in-Queue.is, c.push_back.ensures.items, fits, was) (mark_kept _ t at (Queue c.in-Queue.number) may)

pub returns-in-Start-clause-told : goal.returns-in-Start-clause-told
returns-in-Start-clause-told c = λ t o.
    let at = rw (← c.self.view_is) at o in
    let may = (rw (← c.self.view_is, c.in-Start.is) at c.requires) t at in
    let was : c.index_mut-in-Start.result.now ≡ get_or c.self.inside.times.items c.in-Start.number 0 =
    get_or_read c.self.inside.times.items _ _ (omega (arith, may.0, at.has_times)) c.index_mut-in-Start.ensures.value 0 in
    rw (c.in-Start.is, c.pop_front-self-inside.ensures.items, was) (mark_kept _ t at (Start c.in-Start.number) may)

pub returns-in-End-clause-told : goal.returns-in-End-clause-told
returns-in-End-clause-told c = λ t o.
    let at = rw (← c.self.view_is) at o in
    let may = (rw (← c.self.view_is, c.in-End.is) at c.requires) t at in
    rw c.in-End.is (mark_kept _ t at (End c.in-End.field-0) may)
