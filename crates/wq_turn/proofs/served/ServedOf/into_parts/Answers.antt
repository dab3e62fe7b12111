use Rattle.wq_worker.specs.Destroy.{IsBookOf}
use Rattle.wq_turn.proofs.Common.{List, sym, ap, ◌∙◌, subst, Event, Layout, IsLegal, IsComplete, WorkerState}
use Rattle.wq_turn.proofs.served.ServedOf.into_parts.Goals as goal

pub returns : goal.returns
returns g c =
    let k = g.K.Station in let a = k.state c.args.self in let r = c.into_parts.result in
    let legal : IsLegal a.layout a.seen = subst (λ (w : WorkerState _). IsLegal w.layout w.seen) (ap k.state c.self.view_is) c.legal.ensures.legal in
    let t : IsBookOf a (k.book r.1) =
    subst (λ (w : WorkerState _). IsBookOf w (k.book r.1)) (ap k.state (c.into_worker.ensures ∙ c.self.view_is)) c.into_parts.ensures.book in
    record {
      work = c.into_parts.ensures.work ∙ ap (λ x. (k.state x).work) (c.into_worker.ensures ∙ c.self.view_is);
      book = t;
      brought = subst (λ (x : g.row.K.Denot). k.has_brought x r.1) (c.into_worker.ensures ∙ c.self.view_is) c.into_parts.ensures.brought;
      finished = record {
        queue_is = t.0;
        layout_is = t.1;
        number_is = t.3;
        counts_are = rw (t.3, t.2) t.4;
        legal = subst (λ (z : Layout × List Event). IsLegal z.0 z.1) (λ i. (sym t.1 i, sym t.2 i)) legal;
        complete = subst IsComplete (sym t.2) c.requires;
        ran_accepted = c.into_parts.ensures.ran;
      };
    }
