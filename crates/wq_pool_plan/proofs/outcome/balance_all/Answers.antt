use Rattle.wq_pool_plan.proofs.Common.{◌≡◌, ◌+◌, List, [], ◌∷◌, length, get_or, refl, sym, ap, ◌∙◌, arith, length-append, take_all, BookState, RunCounter, WorkerId}
use Rattle.std.proofs.lemmas.List.{length-take-le}
use Rattle.wq_pool_plan.proofs.Common.{Plan, AreFinished, AllSent}
use Rattle.wq_pool_plan.proofs.Summed.{finished_count, is_last, tells_none, tells_more, few_told}
use Rattle.wq_pool_plan.proofs.outcome.balance_all.Goals as goal

pub loop-work-init : goal.loop-work-init
loop-work-init c =
    let r = c.requires in let n = length c.args.finished.items in
    let size = finished_count (λ w. w.ran.items) r.1 c.args.finished.items r.3 in record {
      within = omega arith;
      finished_are = sym (take_all n c.args.finished.items (omega arith));
      groups_are = sym (take_all n c.args.by_queue.items (omega (arith, size, r.4.groups_count)));
      programs_are = sym (take_all n c.args.programs.items (omega (arith, size, r.4.programs_count)));
      told = λ plan ids f s. ([], omega (arith, finished_count (λ w. w.ran.items) ids c.args.finished.items f), tells_none plan _ refl refl refl);
    }

-- each queue has a group and a sender of the program
pub unreachable-requires : goal.unreachable-requires
unreachable-requires c =
    let l = c.loop-work in let r = c.requires in let n = length l.finished.items in
    let one : RunCounter × BookState = (c.in-Some.work, c.in-Some.book) in
    let some = ap length c.in-Some.ensures.items ∙ length-append c.pop.new.self.items (one ∷ []) in
    let count = finished_count (λ w. w.ran.items) r.1 c.args.finished.items r.3 in
    let left = ap length l.invariant.groups_are ∙ length-take-le n c.args.by_queue.items (omega (arith, l.invariant.within, count, r.4.groups_count)) in
    omega (arith, some, left, c.in_default-pop.ensures.cases.0, l.by_queue.ok.0)

pub unreachable-requires-in_default-pop-2 : goal.unreachable-requires-in_default-pop-2
unreachable-requires-in_default-pop-2 c =
    let l = c.loop-work in let r = c.requires in let n = length l.finished.items in
    let one : RunCounter × BookState = (c.in-Some.work, c.in-Some.book) in
    let some = ap length c.in-Some.ensures.items ∙ length-append c.pop.new.self.items (one ∷ []) in
    let count = finished_count (λ w. w.ran.items) r.1 c.args.finished.items r.3 in
    let left = ap length l.invariant.programs_are ∙ length-take-le n c.args.programs.items (omega (arith, l.invariant.within, count, r.4.programs_count)) in
    omega (arith, some, left, c.in_default-pop-2.ensures.cases.0, l.programs.ok.0)

pub balance_one-requires : goal.balance_one-requires
balance_one-requires c =
    let l = c.loop-work in let r = c.requires in let k = length c.pop.new.self.items in
    let one : RunCounter × BookState = (c.in-Some.work, c.in-Some.book) in
    let next : length l.finished.items ≡ k + 1 = ap length c.in-Some.ensures.items ∙ length-append c.pop.new.self.items (one ∷ []) in
    let some : WorkerId = record { queue = c.in-Some.book.queue; layout = c.in-Some.book.layout; number = 0; tries = 0 } in
    let at = is_last r.0 r.1 c.args.finished.items c.args.by_queue.items c.args.programs.items r.3 r.4 some k (length l.finished.items) next
    l.invariant.within l.finished.items c.pop.new.self.items one l.invariant.finished_are c.in-Some.ensures.items
    l.by_queue.items c.pop-in-Some.new.self.items c.in-Some-pop.group l.invariant.groups_are c.in-Some-pop.ensures.items
    l.programs.items c.pop-in-Some-2.new.self.items c.in-Some-pop-2.program l.invariant.programs_are c.in-Some-pop-2.ensures.items in
    (r.0, get_or r.1 k some, at.finishes, at.sent)

pub both-all-requires : goal.both-all-requires
both-all-requires c =
    let l = c.loop-work in let r = c.requires in let k = length c.pop.new.self.items in
    let one : RunCounter × BookState = (c.in-Some.work, c.in-Some.book) in
    let next : length l.finished.items ≡ k + 1 = ap length c.in-Some.ensures.items ∙ length-append c.pop.new.self.items (one ∷ []) in
    let some : WorkerId = record { queue = c.in-Some.book.queue; layout = c.in-Some.book.layout; number = 0; tries = 0 } in
    let at = is_last r.0 r.1 c.args.finished.items c.args.by_queue.items c.args.programs.items r.3 r.4 some k (length l.finished.items) next
    l.invariant.within l.finished.items c.pop.new.self.items one l.invariant.finished_are c.in-Some.ensures.items
    l.by_queue.items c.pop-in-Some.new.self.items c.in-Some-pop.group l.invariant.groups_are c.in-Some-pop.ensures.items
    l.programs.items c.pop-in-Some-2.new.self.items c.in-Some-pop-2.program l.invariant.programs_are c.in-Some-pop-2.ensures.items in
    let mine = c.in_ok-one.ensures r.0 (get_or r.1 k some) at.finishes at.sent in
    let t = l.invariant.told r.0 r.1 r.3 r.4 in
    let rest = few_told r.0 t.0 l.all (omega (arith, t.1, r.2)) t.2 in
    (omega (arith, rest.0, mine.2.accepted_is), omega (arith, rest.1, mine.2.ran_is))

pub loop-work-preserved : goal.loop-work-preserved
loop-work-preserved c =
    let l = c.loop-work in let r = c.requires in let k = length c.pop.new.self.items in
    let one : RunCounter × BookState = (c.in-Some.work, c.in-Some.book) in
    let next : length l.finished.items ≡ k + 1 = ap length c.in-Some.ensures.items ∙ length-append c.pop.new.self.items (one ∷ []) in
    let some : WorkerId = record { queue = c.in-Some.book.queue; layout = c.in-Some.book.layout; number = 0; tries = 0 } in
    let F : List WorkerId → Type 0 = λ ids. AreFinished {W = RunCounter} (λ w. w.ran.items) ids c.args.finished.items in
    let S : Plan → List WorkerId → Type 0 = λ plan ids. AllSent plan ids c.args.by_queue.items c.args.programs.items in
    let at = λ (plan : Plan) (ids : List WorkerId) (f : F ids) (s : S plan ids). is_last plan ids c.args.finished.items c.args.by_queue.items
    c.args.programs.items f s some k (length l.finished.items) next
    l.invariant.within l.finished.items c.pop.new.self.items one l.invariant.finished_are c.in-Some.ensures.items
    l.by_queue.items c.pop-in-Some.new.self.items c.in-Some-pop.group l.invariant.groups_are c.in-Some-pop.ensures.items
    l.programs.items c.pop-in-Some-2.new.self.items c.in-Some-pop-2.program l.invariant.programs_are c.in-Some-pop-2.ensures.items in
    let here = at r.0 r.1 r.3 r.4 in record {
      within = omega (arith, next, l.invariant.within);
      finished_are = here.finished_are;
      groups_are = here.groups_are;
      programs_are = here.programs_are;
      told = λ plan ids f s.
          let last = at plan ids f s in let mine = c.in_ok-one.ensures plan (get_or ids k some) last.finishes last.sent in
          let t = l.invariant.told plan ids f s in
          (mine.0 ∷ t.0, omega (arith, t.1, next), tells_more plan mine.0 t.0 c.in_ok-one.one l.all c.both-all.result mine.1 mine.2 t.2 c.both-all.ensures);
    }

pub returns : goal.returns
returns c = λ plan ids f s.
    let t = c.loop-work.invariant.told plan ids f s in
    let none : length c.loop-work.finished.items ≡ 0 = omega (arith, c.in_default.ensures.cases.0, c.loop-work.finished.ok.0) in
    (t.0, omega (arith, t.1, none), t.2)
