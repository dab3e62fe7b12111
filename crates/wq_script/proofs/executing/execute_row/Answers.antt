use Rattle.wq_script.proofs.Common.{◌≡◌, ℕ, ◌+◌, ◌-◌, List, Option, Some, None, arith, sym, ◌∙◌, subst, ends_at, ExecutesOne, ExecutesRow}
use Rattle.wq_script.proofs.Running.{RowSoFar, row_none, row_more, row_done, row_last, row_idle}
use Rattle.wq_script.proofs.executing.execute_row.Goals as goal

pub loop-init : goal.loop-init
loop-init c =
    let ends = ends_at c.args.last in let a = c.args.worker.now in
    let all : c.args.limit ≡ c.args.limit - 0 = omega arith in
    subst (λ (n : ℕ). RowSoFar ends c.args.limit n a a c.new-ran.result.items) all
    (subst (λ (xs : List ℕ). RowSoFar ends c.args.limit c.args.limit a a xs) (sym c.new-ran.ensures.items) (row_none ends c.args.limit a c.requires.legal))

pub loop-preserved : goal.loop-preserved
loop-preserved c =
    let ends = ends_at c.args.last in let a = c.args.worker.now in
    let does : ExecutesOne c.loop.worker c.execute.new.worker (Some c.in-Some.number) =
    subst (λ (o : Option ℕ). ExecutesOne c.loop.worker c.execute.new.worker o) c.in-Some.is c.execute.ensures in
    subst (λ (xs : List ℕ). RowSoFar ends c.args.limit (c.args.limit - (c.loop.counter + 1)) a c.execute.new.worker xs) (sym c.in_ok-push.ensures.items)
    (row_more ends c.args.limit a (c.args.limit - (c.loop.counter + 1))
    (c.args.limit - c.loop.counter) c.loop.worker c.execute.new.worker c.loop.ran.items c.in-Some.number
    (omega (arith, c.loop-test.true)) c.loop.invariant does (sym c.ends_at.ensures ∙ c.if-ends_at.false))

pub returns-in_default : goal.returns-in_default
returns-in_default c =
    let ends = ends_at c.args.last in let a = c.args.worker.now in
    let does : ExecutesOne c.loop.worker c.execute.new.worker None =
    subst (λ (o : Option ℕ). ExecutesOne c.loop.worker c.execute.new.worker o) c.in_default.is c.execute.ensures in
    row_idle ends c.args.limit a (c.args.limit - (c.loop.counter + 1))
    (c.args.limit - c.loop.counter) c.loop.worker c.execute.new.worker c.loop.ran.items (omega (arith, c.loop-test.true)) c.loop.invariant does

pub returns-then-ends_at : goal.returns-then-ends_at
returns-then-ends_at c =
    let ends = ends_at c.args.last in let a = c.args.worker.now in
    let does : ExecutesOne c.loop.worker c.execute.new.worker (Some c.in-Some.number) =
    subst (λ (o : Option ℕ). ExecutesOne c.loop.worker c.execute.new.worker o) c.in-Some.is c.execute.ensures in
    subst (λ (xs : List ℕ). ExecutesRow c.args.limit ends a c.execute.new.worker xs) (sym c.in_ok-push.ensures.items)
    (row_last ends c.args.limit a (c.args.limit - (c.loop.counter + 1))
    (c.args.limit - c.loop.counter) c.loop.worker c.execute.new.worker c.loop.ran.items c.in-Some.number
    (omega (arith, c.loop-test.true)) c.loop.invariant does (sym c.ends_at.ensures ∙ c.if-ends_at.true))

pub returns : goal.returns
returns c = row_done (ends_at c.args.last) c.args.limit c.args.worker.now (c.args.limit - c.loop.counter) c.loop.worker c.loop.ran.items
    (omega (arith, c.loop-test.false)) c.loop.invariant
