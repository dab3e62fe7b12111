use Rattle.wq_value_worker.proofs.Common.{◌≡◌, ℕ, ◌<◌, Some, [], ◌∷◌, ap, sym, refl, ◌∙◌, subst, Layout, End, number_count, running}
use Rattle.wq_value_worker.proofs.Common.{runs_some, Learnt, owner_of, learnt_on, GivesBack, MayLeave, ValueWorkerState, owner_in}
use Rattle.wq_value_worker.proofs.Common.{DealsOut, RunsBy, OwesBy}
use Rattle.wq_worker.proofs.Running.{number_runs}
use Rattle.wq_worker.proofs.Follow.{advance_layout}
use Rattle.wq_worker.proofs.Step.{runs_kind}
use Rattle.wq_value_worker.proofs.ValueState.{value_state_of, value_fit_both}
use Rattle.wq_value_worker.proofs.Finishing.{settled_rest, settled_owed, settled_keeps, settled_fit, settles_owed, settles_ended, runs_still, owes_pairs, ends_pairs}
use Rattle.wq_value_worker.proofs.value_worker.ValueWorker.finish.Goals as goal

runs_at : {V W : Type 0} (a b : ValueWorkerState V W) (k : ℕ) → a ≡ b → running b.worker.seen ≡ Some k → running a.worker.seen ≡ Some k
runs_at a b k is h = ap (λ (z : ValueWorkerState _ _). running z.worker.seen) is ∙ h

pub invariant_of-self : goal.invariant_of-self
invariant_of-self g c =
    let w = g.W.ValueWork in settled_fit w.log w.given w.takes c.self.inside.tries _ _ _ _ _ _ _ c.self.invariant c.queue_pairs-is_done.ensures.settles

pub returns-then-not-is_done-clause-runs : goal.returns-then-not-is_done-clause-runs
returns-then-not-is_done-clause-runs g c =
    let w = g.W.ValueWork in let i = c.self.inside in let k = c.args.number in let q = c.queue_pairs-is_done in
    let a : ValueWorkerState g.row.V.Denot g.row.W.Denot = value_state_of i.pair i.tries i.left.pairs i.work in
    let b : ValueWorkerState g.row.V.Denot g.row.W.Denot = value_state_of q.new.seats i.tries q.new.left.pairs q.new.work in
    subst (λ (z : ValueWorkerState g.row.V.Denot g.row.W.Denot). OwesBy (MayLeave w.may w.takes) (GivesBack w.takes) z.worker k b.worker) c.self.view_is
    (owes_pairs w.log w.given w.takes i.tries w.may k q.result i.left.pairs q.new.left.pairs i.work q.new.work i.pair q.new.seats
    (runs_at a c.args.self.now k c.self.view_is c.requires) q.ensures.settles c.if-not-is_done.true)

pub returns-then-not-is_done-clause-settles : goal.returns-then-not-is_done-clause-settles
returns-then-not-is_done-clause-settles g c =
    let w = g.W.ValueWork in let i = c.self.inside in let k = c.args.number in let q = c.queue_pairs-is_done in
    let a : ValueWorkerState g.row.V.Denot g.row.W.Denot = value_state_of i.pair i.tries i.left.pairs i.work in
    let b : ValueWorkerState g.row.V.Denot g.row.W.Denot = value_state_of q.new.seats i.tries q.new.left.pairs q.new.work in
    subst (λ (z : ValueWorkerState g.row.V.Denot g.row.W.Denot). DealsOut w.given w.may w.takes z b) c.self.view_is
    (settles_owed w.log w.given w.takes i.tries w.may q.result i.left.pairs q.new.left.pairs i.work q.new.work i.pair q.new.seats q.ensures.settles
    c.if-not-is_done.true
    (runs_some i.pair.known.seen k (runs_at a c.args.self.now k c.self.view_is c.requires)))

pub returns-then-not-is_done-clause-learnt : goal.returns-then-not-is_done-clause-learnt
returns-then-not-is_done-clause-learnt g c =
    let w = g.W.ValueWork in let q = c.queue_pairs-is_done in
    subst (λ (z : ValueWorkerState g.row.V.Denot g.row.W.Denot). Learnt (owner_in z) (owner_of q.new.seats)) c.self.view_is
    (settled_keeps w.log w.given w.takes c.self.inside.tries _ _ _ _ _ _ _ c.self.invariant q.ensures.settles).learnt

pub returns-then-not-is_done-clause-owed : goal.returns-then-not-is_done-clause-owed
returns-then-not-is_done-clause-owed g c =
    let w = g.W.ValueWork in λ k is.
    settled_owed w.log w.given w.takes c.self.inside.tries _ _ _ _ _ _ _ c.queue_pairs-is_done.ensures.settles c.if-not-is_done.true

pub end_running-requires : goal.end_running-requires
end_running-requires g c =
    let w = g.W.ValueWork in let i = c.self.inside in let k = c.args.number in let q = c.queue_pairs-is_done in
    let a : ValueWorkerState g.row.V.Denot g.row.W.Denot = value_state_of i.pair i.tries i.left.pairs i.work in record {
      runs = runs_some q.new.seats.known.seen k (runs_still w.log w.given w.takes i.tries w.may k _ _ _ _ _ _ _
          (runs_at a c.args.self.now k c.self.view_is c.requires) q.ensures.settles);
    }

pub of-requires : goal.of-requires
of-requires g c =
    let w = g.W.ValueWork in let i = c.self.inside in let k = c.args.number in let q = c.queue_pairs-is_done in
    let a : ValueWorkerState g.row.V.Denot g.row.W.Denot = value_state_of i.pair i.tries i.left.pairs i.work in
    let runs : running q.new.seats.known.seen ≡ Some k = runs_still w.log w.given w.takes i.tries w.may k _ _ _ _ _ _ _
    (runs_at a c.args.self.now k c.self.view_is c.requires) q.ensures.settles in
    let low = number_runs q.new.seats.known.layout q.new.seats.known.seen k
    (settled_fit w.log w.given w.takes i.tries _ _ _ _ _ _ _ c.self.invariant q.ensures.settles).legal runs in
    subst (λ (z : Layout). k < number_count z) (sym (c.layout.ensures.layout ∙ (c.end_running.ensures.both k runs).layout_is)) low

pub invariant_of-self-2 : goal.invariant_of-self-2
invariant_of-self-2 g c =
    let w = g.W.ValueWork in let i = c.self.inside in let k = c.args.number in let q = c.queue_pairs-is_done in
    let a : ValueWorkerState g.row.V.Denot g.row.W.Denot = value_state_of i.pair i.tries i.left.pairs i.work in
    let runs : running q.new.seats.known.seen ≡ Some k = runs_still w.log w.given w.takes i.tries w.may k _ _ _ _ _ _ _
    (runs_at a c.args.self.now k c.self.view_is c.requires) q.ensures.settles in
    value_fit_both (w.log q.new.work) i.tries (End k ∷ []) q.new.seats c.end_running.new.pair refl
    (settled_fit w.log w.given w.takes i.tries _ _ _ _ _ _ _ c.self.invariant q.ensures.settles) c.end_running.ensures.kept (c.end_running.ensures.both k runs)

pub returns-clause-runs : goal.returns-clause-runs
returns-clause-runs g c =
    let w = g.W.ValueWork in let i = c.self.inside in let k = c.args.number in let q = c.queue_pairs-is_done in let p = c.end_running.new.pair in
    let a : ValueWorkerState g.row.V.Denot g.row.W.Denot = value_state_of i.pair i.tries i.left.pairs i.work in
    let b : ValueWorkerState g.row.V.Denot g.row.W.Denot = value_state_of p i.tries q.new.left.pairs q.new.work in
    let runs : running i.pair.known.seen ≡ Some k = runs_at a c.args.self.now k c.self.view_is c.requires in
    let over = c.end_running.ensures.both k (runs_still w.log w.given w.takes i.tries w.may k _ _ _ _ _ _ _ runs q.ensures.settles) in
    subst (λ (z : ValueWorkerState g.row.V.Denot g.row.W.Denot). RunsBy (MayLeave w.may w.takes) (GivesBack w.takes) c.of.result z.worker b.worker)
    c.self.view_is
    (runs_kind (MayLeave w.may w.takes) (GivesBack w.takes) k c.of.result c.layout.result a.worker b.worker
    (c.layout.ensures.layout ∙ (over.layout_is ∙ advance_layout _ _ _ _ _ (settled_rest w.log w.given w.takes i.tries _ _ _ _ _ _ _ q.ensures.settles)))
    c.of.ensures
    (ends_pairs w.log w.given w.takes i.tries w.may k q.result i.left.pairs q.new.left.pairs i.work q.new.work i.pair q.new.seats runs q.ensures.settles p
    c.if-not-is_done.false over))

pub returns-clause-settles : goal.returns-clause-settles
returns-clause-settles g c =
    let w = g.W.ValueWork in let i = c.self.inside in let k = c.args.number in let q = c.queue_pairs-is_done in let p = c.end_running.new.pair in
    let a : ValueWorkerState g.row.V.Denot g.row.W.Denot = value_state_of i.pair i.tries i.left.pairs i.work in
    let b : ValueWorkerState g.row.V.Denot g.row.W.Denot = value_state_of p i.tries q.new.left.pairs q.new.work in
    let runs : running i.pair.known.seen ≡ Some k = runs_at a c.args.self.now k c.self.view_is c.requires in
    let over = c.end_running.ensures.both k (runs_still w.log w.given w.takes i.tries w.may k _ _ _ _ _ _ _ runs q.ensures.settles) in
    subst (λ (z : ValueWorkerState g.row.V.Denot g.row.W.Denot). DealsOut w.given w.may w.takes z b) c.self.view_is
    (settles_ended w.log w.given w.takes i.tries w.may q.result i.left.pairs q.new.left.pairs i.work q.new.work i.pair q.new.seats p k q.ensures.settles
    c.if-not-is_done.false
    (runs_some i.pair.known.seen k runs) over c.end_running.ensures.kept)

pub returns-clause-learnt : goal.returns-clause-learnt
returns-clause-learnt g c =
    let w = g.W.ValueWork in let i = c.self.inside in let q = c.queue_pairs-is_done in let p = c.end_running.new.pair in
    subst (λ (z : ValueWorkerState g.row.V.Denot g.row.W.Denot). Learnt (owner_in z) (owner_of p)) c.self.view_is
    (learnt_on (owner_of i.pair) (owner_of q.new.seats) (owner_of p)
    (settled_keeps w.log w.given w.takes i.tries _ _ _ _ _ _ _ c.self.invariant q.ensures.settles).learnt c.end_running.ensures.kept.learnt)

pub returns-then-not-is_done-clause-logged : goal.returns-then-not-is_done-clause-logged
returns-then-not-is_done-clause-logged g c = (invariant_of-self g c).logged

pub returns-clause-logged : goal.returns-clause-logged
returns-clause-logged g c = (invariant_of-self-2 g c).logged
