use Rattle.wq_text.proofs.Common.{ℕ, List, map, Bor, err_from_is_err_and, item}
use Rattle.wq_text.proofs.FollowItems.{one_and_all, one_and_fault}
use Rattle.wq_text.proofs.arguments.item_and_follow.Goals as goal

pub returns-in_err-follow-clause-exact : goal.returns-in_err-follow-clause-exact
returns-in_err-follow-clause-exact c =
    let words : List (List ℕ) = map (λ (w : Bor (List ℕ)). w.now) c.args.words.now in
    let p = err_from_is_err_and c.from_residual-in_err-follow.result c.from_residual-in_err-follow.ensures.1 in
    rw (p.1, p.2) (one_and_fault (item c.args.layout) words _ c.in_ok-item.item c.in_err-follow.field-0.0
    c.in_ok-first.ensures.exact c.in_ok-item.ensures.exact c.in_err-follow.ensures.exact)

pub returns-clause-exact : goal.returns-clause-exact
returns-clause-exact c =
    let words : List (List ℕ) = map (λ (w : Bor (List ℕ)). w.now) c.args.words.now in
    one_and_all (item c.args.layout) words _ c.in_ok-item.item c.in_ok-follow.follow.items
    c.in_ok-first.ensures.exact c.in_ok-item.ensures.exact c.in_ok-follow.ensures.exact
