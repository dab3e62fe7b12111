use Rattle.wq_worker.proofs.Common.{rules, ◌≡◌, ◌<◌, ◌≤◌, [], ◌∷◌, ◌++◌, arith, ap, sym, refl, ◌∙◌, subst, drop, append-nil, Layout, Begin, IsRunning}
use Rattle.wq_worker.proofs.Common.{taking, Both, WorkerState, Moves}
use Rattle.wq_worker.specs.Step.{Begins}
use Rattle.wq_worker.proofs.Owned.{quiet_stays, owner_of_both}
use Rattle.wq_worker.proofs.State.{fit_begun, fit_both, quiet_taking, begun_one, items_among-item, items_among-other}
use Rattle.wq_worker.proofs.Step.{state_of, moves_by, begins_by}
use Rattle.wq_worker.proofs.worker.Worker.start.Goals as goal

pub invariant_of-self : goal.invariant_of-self
invariant_of-self g c =
    let i = c.self.inside in let o = i.pair in let p = c.begin_next-begun.new.pair in
    fit_both (taking o.seen) (g.W.Work.log i.work) i.tries i.at i.follow.items o p (quiet_taking o.seen).begun_none c.self.invariant c.in_default.ensures.1

pub returns-in_default : goal.returns-in_default
returns-in_default g c =
    let i = c.self.inside in let o = i.pair in let p = c.begin_next-begun.new.pair in
    let b : Both (taking o.seen) 0 o p = c.in_default.ensures.1 in let left = drop i.at i.follow.items in
    let s = quiet_stays (taking o.seen) o.seen p.seen (quiet_taking o.seen) (owner_of_both i.pair.number (taking o.seen) 0 o.seen p.seen b.adds) in
    let idle : ¬ IsRunning o.seen = subst (λ (z : WorkerState g.row.W.Denot). ¬ IsRunning z.seen) (sym c.self.view_is) c.requires in
    let w : WorkerState g.row.W.Denot = state_of p i.tries left i.work in (
      c.in_default.ensures.0,
      ap (λ (z : WorkerState g.row.W.Denot). z.work) c.self.view_is,
      subst (λ (z : WorkerState g.row.W.Denot). Moves (taking z.seen) 0 z w) c.self.view_is
          (moves_by (taking o.seen) 0 i.tries left left i.work i.work o p b),
      (rw (s.begun_same, s.ended_same) idle, c.in_default.ensures.2),
    )

pub invariant_of-self-then-number-layout : goal.invariant_of-self-then-number-layout
invariant_of-self-then-number-layout g c =
    let i = c.self.inside in let o = i.pair in let p = c.begin_next-begun.new.pair in
    let k = c.in-Some.number in let log = g.W.Work.log i.work in
    let b : Both (taking o.seen ++ Begin k ∷ []) 0 o p = c.in-Some.ensures in
    let size : c.layout.result.items ≡ o.layout.items = ap (λ (l : Layout). l.items) (c.layout.ensures.layout ∙ b.layout_is) in
    let low : k < o.layout.items = omega arith in
    fit_begun (k ∷ []) log (g.W.Work.log c.run-self-inside.new.self) i.tries i.at i.follow.items 0 c.run-self-inside.result.items o p
    c.self.invariant b.legal b.number_is b.layout_is (begun_one k o p b)
    (c.run-self-inside.ensures.logged ∙ ap (λ z. log ++ z) (sym (items_among-item o.layout k low))) (omega arith)

pub returns-then-number-layout : goal.returns-then-number-layout
returns-then-number-layout g c =
    let i = c.self.inside in let o = i.pair in let p = c.begin_next-begun.new.pair in
    let k = c.in-Some.number in
    let b : Both (taking o.seen ++ Begin k ∷ []) 0 o p = c.in-Some.ensures in
    let size : c.layout.result.items ≡ o.layout.items = ap (λ (l : Layout). l.items) (c.layout.ensures.layout ∙ b.layout_is) in
    let low : k < o.layout.items = omega arith in
    let w : WorkerState g.row.W.Denot = state_of p i.tries (drop 0 c.run-self-inside.result.items) c.run-self-inside.new.self in
    let idle : ¬ IsRunning o.seen = subst (λ (z : WorkerState g.row.W.Denot). ¬ IsRunning z.seen) (sym c.self.view_is) c.requires in
    subst (λ (z : WorkerState g.row.W.Denot). Begins g.W.Work.may z k w) c.self.view_is
    (begins_by g.W.Work.may k i.tries (drop i.at i.follow.items)
    (drop 0 c.run-self-inside.result.items) i.work c.run-self-inside.new.self o p c.self.invariant.legal idle b
    (λ _. c.run-self-inside.ensures.allowed) (λ (high : o.layout.items ≤ k). absurd (omega arith)))

pub invariant_of-self-2 : goal.invariant_of-self-2
invariant_of-self-2 g c =
    let i = c.self.inside in let o = i.pair in let p = c.begin_next-begun.new.pair in
    let k = c.in-Some.number in let log = g.W.Work.log i.work in
    let b : Both (taking o.seen ++ Begin k ∷ []) 0 o p = c.in-Some.ensures in
    let size : c.layout.result.items ≡ o.layout.items = ap (λ (l : Layout). l.items) (c.layout.ensures.layout ∙ b.layout_is) in
    let high : o.layout.items ≤ k = omega arith in
    fit_begun (k ∷ []) log log i.tries i.at i.follow.items 0 c.new-self-inside.result.items o p c.self.invariant b.legal b.number_is
    b.layout_is (begun_one k o p b)
    (sym (append-nil log) ∙ ap (λ z. log ++ z) (sym (items_among-other o.layout k high))) (omega arith)

pub returns : goal.returns
returns g c =
    let i = c.self.inside in let o = i.pair in let p = c.begin_next-begun.new.pair in
    let k = c.in-Some.number in
    let b : Both (taking o.seen ++ Begin k ∷ []) 0 o p = c.in-Some.ensures in
    let size : c.layout.result.items ≡ o.layout.items = ap (λ (l : Layout). l.items) (c.layout.ensures.layout ∙ b.layout_is) in
    let high : o.layout.items ≤ k = omega arith in
    let w : WorkerState g.row.W.Denot = state_of p i.tries (drop 0 c.new-self-inside.result.items) i.work in
    let idle : ¬ IsRunning o.seen = subst (λ (z : WorkerState g.row.W.Denot). ¬ IsRunning z.seen) (sym c.self.view_is) c.requires in
    let none : c.new-self-inside.result.items ≡ [] = search rules in
    subst (λ (z : WorkerState g.row.W.Denot). Begins g.W.Work.may z k w) c.self.view_is
    (begins_by g.W.Work.may k i.tries (drop i.at i.follow.items)
    (drop 0 c.new-self-inside.result.items) i.work i.work o p c.self.invariant.legal idle b
    (λ (low : k < o.layout.items). absurd (omega arith)) (λ _. (none, refl)))
