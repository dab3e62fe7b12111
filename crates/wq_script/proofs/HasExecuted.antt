-- A row of executions, after which all seats have heard the worker.
use Rattle.wq_script.proofs.Common.{◌≡◌, ℕ, Bool, not, List, [], ◌++◌, sym, ap, ◌∙◌, subst, filter, Layout, Event, IsRunning, IsLegal, prefix_self, is_ours}
use Rattle.wq_script.proofs.Common.{WorkerState, after_executions, ended_since, Lists, Seats, Publishes, Seated, ListsFit, Quiet, IsWorkerIdle, ExecutesRow}
use Rattle.wq_script.proofs.Common.{HasFollowLists, HasExecuted}
use Rattle.wq_script.proofs.Seated.{worker_acts}

pub row_ran : (layout : Layout) (s t : Seats) (h : List Event) (w : WorkerState Lists) (limit : ℕ) (ends : ℕ → Bool) (ran : List ℕ)
    → Seated layout s h → ¬ IsRunning h → HasFollowLists layout s
    → ExecutesRow limit ends s.worker w ran → Publishes w.seen (record { worker = w; delay = s.delay; senders = s.senders }) t
    → HasExecuted layout h limit ends s t ran
row_ran layout s t h w limit ends ran g idle lists row published =
    let both = worker_acts layout s t h g w row.stepped.events row.stepped.others row.stepped.moves published in
    let a = both.0 in
    let follows = s.worker.work.follows.items in
    let ready : IsWorkerIdle g.wide s.worker = record {
      layout = g.sender.layout_is;
      idle = subst (λ (x : List Event). ¬ IsRunning x) (sym a.alone) idle;
      tries = g.tries;
      count = lists.count ∙ sym g.wider.items;
      fit = subst (λ (n : ℕ). ListsFit n follows) (sym g.wider.items) lists.fit;
    } in
    let quiet : Quiet g.wide s.worker.number s.worker.seen w.seen = record {
      legal = subst (λ (l : Layout). IsLegal l w.seen) (row.stepped.moves.layout ∙ g.sender.layout_is) row.stepped.moves.legal;
      rest = row.stepped.moves.adds.new;
      is = row.stepped.moves.adds.is;
      none = subst (λ (n : ℕ). filter (λ e. not (is_ours n e)) row.stepped.moves.adds.new ≡ []) (sym g.sender.number_is) both.1;
    } in
    let r = row.quiet g.wide w.seen ready quiet (prefix_self w.seen) in
    let after : h ++ row.stepped.events ≡ after_executions layout.senders follows ends limit h = sym a.is
    ∙ (r.0 ∙ (λ i. after_executions (g.sender.number_is i) follows ends limit (a.alone i))) in
    record {
      seated = subst (λ (x : List Event). Seated layout t x) after a.seated;
      ran_is = r.1 ∙ (λ i. ended_since (a.alone i) ((a.is ∙ after) i));
      idle = subst (λ (x : List Event). ¬ IsRunning x) (a.is ∙ after) r.2;
      lists = ap (λ (x : Lists). x.follows) published.work.work_is ∙ row.stepped.lists;
      table = published.table;
      new = row.stepped.moves.adds.new;
      new_is = sym (a.is ∙ after) ∙ (row.stepped.moves.adds.is ∙ ap (λ (x : List Event). x ++ row.stepped.moves.adds.new) a.alone);
      ours = both.1;
    }
