use Rattle.wq_script.proofs.Common.{◌≡◌, ℕ, List, IfOk, sym, ap, ◌∙◌, subst, draining}
use Rattle.wq_script.proofs.Queueings.{drains_as}
use Rattle.wq_script.proofs.Moved.{posted_where}
use Rattle.wq_script.proofs.seats.Seats.posted_at.Goals as goal

pub returns-then-is_draining : goal.returns-then-is_draining
returns-then-is_draining c =
    let s = c.args.self.now in let told = c.is_draining.ensures in
    let drains : c.is_draining.result ≡ draining s.worker.seen = drains_as s.worker.seen c.is_draining.result told.draining told.else_open in
    c.new.ensures.items ∙ ap (posted_where c.args.tick s.delay.table) (sym c.if-is_draining.true ∙ drains)

pub returns : goal.returns
returns c =
    let s = c.args.self.now in let told = c.is_draining.ensures in
    let drains : c.is_draining.result ≡ draining s.worker.seen = drains_as s.worker.seen c.is_draining.result told.draining told.else_open in
    subst (λ (z : List ℕ). IfOk c.due_list.result (λ list. list.items ≡ z)) (ap (posted_where c.args.tick s.delay.table) (sym c.if-is_draining.false ∙ drains))
    c.due_list.ensures.listed
