use Rattle.wq_value_worker.proofs.Common.{[], ◌∷◌, ◌++◌, refl, sym, ap, ◌∙◌, subst, append-nil}
use Rattle.wq_value_worker.specs.Returned.{none, one}
use Rattle.wq_value_worker.proofs.Settling.{dealt_none, dealt_runs, dealt_more, dealt_all, dealt_owed}
use Rattle.wq_value_worker.proofs.value_steps.queue_pairs.Goals as goal

pub loop-item-init : goal.loop-item-init
loop-item-init g c =
    let w = g.W.ValueWork in dealt_none w.log w.given w.takes c.args.left.now.pairs c.args.work.now c.args.seats.now c.requires.legal

pub queue_pair-requires-clause-runs : goal.queue_pair-requires-clause-runs
queue_pair-requires-clause-runs g c = let w = g.W.ValueWork in dealt_runs w.log w.given w.takes c.loop-item.invariant c.requires.runs

pub loop-item-preserved-in-Queued : goal.loop-item-preserved-in-Queued
loop-item-preserved-in-Queued g c =
    let w = g.W.ValueWork in let a = c.loop-item.work in
    dealt_more w.log w.given w.takes c.loop-item.invariant c.in-Some.ensures.first c.in-Queued.ensures.deals.1 (none a) refl (sym (append-nil (w.given a)))

pub loop-item-preserved : goal.loop-item-preserved
loop-item-preserved g c =
    let w = g.W.ValueWork in let a = c.loop-item.work in let b = c.returned.new.self in
    let k = c.in-Some.item in let v = c.in-Some.value in let d = c.in-Returned.ensures.deals in let e = c.returned.ensures in
    dealt_more w.log w.given w.takes c.loop-item.invariant c.in-Some.ensures.first d.2
    (one [] k v a a b (none a) (subst (λ (u : g.row.V.Denot). w.takes a k u b) d.0 e.taken)) e.logged
    (e.given ∙ ap (λ (u : g.row.V.Denot). w.given a ++ (k, u) ∷ []) d.0)

pub returns-in-Contended : goal.returns-in-Contended
returns-in-Contended g c =
    let w = g.W.ValueWork in let k = c.in-Some.item in let rest = c.next.new.self.pairs in let d = c.in-Contended.ensures.deals in
    record {
      settles = dealt_owed w.log w.given w.takes c.loop-item.invariant c.in-Some.ensures.first d.1
          (c.put_in_front.ensures.first ∙ ap (λ (u : g.row.V.Denot). (k, u) ∷ rest) d.0);
    }

pub returns : goal.returns
returns g c =
    let w = g.W.ValueWork in let e = c.in_default.ensures in
    record { settles = dealt_all w.log w.given w.takes c.args.tries c.loop-item.invariant e.empty (sym e.first ∙ e.empty) }
