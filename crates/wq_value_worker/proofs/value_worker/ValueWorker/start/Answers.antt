use Rattle.wq_value_worker.proofs.Common.{rules, ◌≡◌, Option, Some, None, refl, sym, ◌∙◌, subst, IsRunning, Learnt, KnownValuePair, owner_of, taking}
use Rattle.wq_value_worker.proofs.Common.{BeginsValue, ValueWorkerState, owner_in}
use Rattle.wq_words.proofs.Cases.{none_told}
use Rattle.wq_worker.specs.Step.{FindsNothing}
use Rattle.wq_worker.proofs.State.{quiet_taking, idle_taken}
use Rattle.wq_worker.proofs.Step.{moves_by}
use Rattle.wq_value_worker.proofs.ValueState.{value_state_of, keeps_or, value_fit_both}
use Rattle.wq_value_worker.proofs.Begun.{BeginsWith, begins_with, fit_item, fit_other, begins_item, begins_other}
use Rattle.wq_value_worker.proofs.value_worker.ValueWorker.start.Goals as goal

pub invariant_of-self : goal.invariant_of-self
invariant_of-self g c =
    let o : KnownValuePair g.row.V.Denot = c.self.inside.pair in let p : KnownValuePair g.row.V.Denot = c.take_next.new.pair in
    let e = c.take_next.ensures in
    value_fit_both _ _ (taking o.known.seen) o p (quiet_taking o.known.seen).begun_none c.self.invariant (keeps_or _ _ o p c.self.invariant e.kept) e.both

pub returns-then-is_none-clause-outcome : goal.returns-then-is_none-clause-outcome
returns-then-is_none-clause-outcome g c =
    let i = c.self.inside in let o = i.pair.known in let p = c.take_next.new.pair.known in let e = c.take_next.ensures in
    let none : c.take_next.result ≡ None = none_told c.take_next.result c.if-is_none.ensures in
    let idle : ¬ IsRunning o.seen = subst (λ (z : ValueWorkerState g.row.V.Denot g.row.W.Denot). ¬ IsRunning z.worker.seen) (sym c.self.view_is) c.requires in
    let w : ValueWorkerState g.row.V.Denot g.row.W.Denot = value_state_of c.take_next.new.pair i.tries i.left.pairs i.work in
    subst (λ (z : ValueWorkerState g.row.V.Denot g.row.W.Denot). FindsNothing z.worker w.worker) c.self.view_is (
      e.nothing none,
      refl,
      moves_by (taking o.seen) 0 i.tries w.worker.unqueued w.worker.unqueued i.work i.work o p e.both,
      (idle_taken o p e.both idle, sym e.next ∙ none),
    )

pub returns-then-is_none-clause-learnt : goal.returns-then-is_none-clause-learnt
returns-then-is_none-clause-learnt g c =
    let o : KnownValuePair g.row.V.Denot = c.self.inside.pair in let p : KnownValuePair g.row.V.Denot = c.take_next.new.pair in
    subst (λ (z : ValueWorkerState g.row.V.Denot g.row.W.Denot). Learnt (owner_in z) (owner_of p)) c.self.view_is
    (keeps_or _ _ o p c.self.invariant c.take_next.ensures.kept).learnt

pub begin-number-requires-clause-idle : goal.begin-number-requires-clause-idle
begin-number-requires-clause-idle g c =
    idle_taken c.self.inside.pair.known c.take_next.new.pair.known c.take_next.ensures.both
    (subst (λ (z : ValueWorkerState g.row.V.Denot g.row.W.Denot). ¬ IsRunning z.worker.seen) (sym c.self.view_is) c.requires)

pub invariant_of-self-in_default : goal.invariant_of-self-in_default
invariant_of-self-in_default g c =
    let i = c.self.inside in let k = c.begin-number.result.0 in let n : KnownValuePair g.row.V.Denot = c.begin-number.new.self in
    let t = c.take_next.ensures in let e = c.begin-number.ensures in
    let b = begins_with k c.begin-number.result.1 (g.W.ValueWork.log i.work) i.tries i.pair c.take_next.new.pair n c.self.invariant t.both t.kept
    e.seen e.others e.learnt e.handed e.value e.kind in
    let none : c.begin-number.result.1 ≡ None = search rules in
    let d : BeginsWith k None i.pair n = subst (λ (y : Option g.row.V.Denot). BeginsWith k y i.pair n) none b in
    fit_other k i.tries (g.W.ValueWork.log i.work) i.pair n c.self.invariant d

pub returns-in_default-clause-outcome : goal.returns-in_default-clause-outcome
returns-in_default-clause-outcome g c =
    let i = c.self.inside in let k = c.begin-number.result.0 in let n : KnownValuePair g.row.V.Denot = c.begin-number.new.self in
    let t = c.take_next.ensures in let e = c.begin-number.ensures in
    let b = begins_with k c.begin-number.result.1 (g.W.ValueWork.log i.work) i.tries i.pair c.take_next.new.pair n c.self.invariant t.both t.kept
    e.seen e.others e.learnt e.handed e.value e.kind in
    let none : c.begin-number.result.1 ≡ None = search rules in
    let d : BeginsWith k None i.pair n = subst (λ (y : Option g.row.V.Denot). BeginsWith k y i.pair n) none b in
    let idle : ¬ IsRunning i.pair.known.seen =
    subst (λ (z : ValueWorkerState g.row.V.Denot g.row.W.Denot). ¬ IsRunning z.worker.seen) (sym c.self.view_is) c.requires in
    let w : ValueWorkerState g.row.V.Denot g.row.W.Denot = value_state_of n i.tries c.new.result.pairs i.work in
    subst (λ (z : ValueWorkerState g.row.V.Denot g.row.W.Denot). BeginsValue g.W.ValueWork.given g.W.ValueWork.may g.W.ValueWork.takes z k w) c.self.view_is
    (begins_other g.W.ValueWork.given g.W.ValueWork.may g.W.ValueWork.takes k i.tries i.left.pairs c.new.result.pairs i.work i.work i.pair n
    c.self.invariant.legal idle d c.new.ensures.none refl)

pub returns-in_default-clause-learnt : goal.returns-in_default-clause-learnt
returns-in_default-clause-learnt g c =
    let i = c.self.inside in let k = c.begin-number.result.0 in let n : KnownValuePair g.row.V.Denot = c.begin-number.new.self in
    let t = c.take_next.ensures in let e = c.begin-number.ensures in
    let b = begins_with k c.begin-number.result.1 (g.W.ValueWork.log i.work) i.tries i.pair c.take_next.new.pair n c.self.invariant t.both t.kept
    e.seen e.others e.learnt e.handed e.value e.kind in
    subst (λ (z : ValueWorkerState g.row.V.Denot g.row.W.Denot). Learnt (owner_in z) (owner_of n)) c.self.view_is b.learnt

pub invariant_of-self-2 : goal.invariant_of-self-2
invariant_of-self-2 g c =
    let i = c.self.inside in let k = c.begin-number.result.0 in let n : KnownValuePair g.row.V.Denot = c.begin-number.new.self in
    let t = c.take_next.ensures in let e = c.begin-number.ensures in
    let b = begins_with k c.begin-number.result.1 (g.W.ValueWork.log i.work) i.tries i.pair c.take_next.new.pair n c.self.invariant t.both t.kept
    e.seen e.others e.learnt e.handed e.value e.kind in
    let d : BeginsWith k (Some c.in-Some.value) i.pair n = subst (λ (y : Option g.row.V.Denot). BeginsWith k y i.pair n) c.in-Some.is b in
    fit_item k i.tries (g.W.ValueWork.log i.work) i.pair n c.self.invariant c.in-Some.value (g.W.ValueWork.log c.run.new.self) d c.run.ensures.logged

pub returns-clause-outcome : goal.returns-clause-outcome
returns-clause-outcome g c =
    let i = c.self.inside in let k = c.begin-number.result.0 in let n : KnownValuePair g.row.V.Denot = c.begin-number.new.self in
    let t = c.take_next.ensures in let e = c.begin-number.ensures in
    let b = begins_with k c.begin-number.result.1 (g.W.ValueWork.log i.work) i.tries i.pair c.take_next.new.pair n c.self.invariant t.both t.kept
    e.seen e.others e.learnt e.handed e.value e.kind in
    let d : BeginsWith k (Some c.in-Some.value) i.pair n = subst (λ (y : Option g.row.V.Denot). BeginsWith k y i.pair n) c.in-Some.is b in
    let idle : ¬ IsRunning i.pair.known.seen =
    subst (λ (z : ValueWorkerState g.row.V.Denot g.row.W.Denot). ¬ IsRunning z.worker.seen) (sym c.self.view_is) c.requires in
    let w : ValueWorkerState g.row.V.Denot g.row.W.Denot = value_state_of n i.tries c.run.result.pairs c.run.new.self in
    subst (λ (z : ValueWorkerState g.row.V.Denot g.row.W.Denot). BeginsValue g.W.ValueWork.given g.W.ValueWork.may g.W.ValueWork.takes z k w) c.self.view_is
    (begins_item g.W.ValueWork.given g.W.ValueWork.may g.W.ValueWork.takes k i.tries i.left.pairs c.run.result.pairs i.work c.run.new.self i.pair n
    c.self.invariant.legal idle c.in-Some.value d c.run.ensures.allowed c.run.ensures.kept)

pub returns-clause-learnt : goal.returns-clause-learnt
returns-clause-learnt g c =
    let i = c.self.inside in let k = c.begin-number.result.0 in let n : KnownValuePair g.row.V.Denot = c.begin-number.new.self in
    let t = c.take_next.ensures in let e = c.begin-number.ensures in
    let b = begins_with k c.begin-number.result.1 (g.W.ValueWork.log i.work) i.tries i.pair c.take_next.new.pair n c.self.invariant t.both t.kept
    e.seen e.others e.learnt e.handed e.value e.kind in
    subst (λ (z : ValueWorkerState g.row.V.Denot g.row.W.Denot). Learnt (owner_in z) (owner_of n)) c.self.view_is b.learnt
