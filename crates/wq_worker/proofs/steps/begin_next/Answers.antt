use Rattle.wq_worker.proofs.Common.{rules, ◌≡◌, None, [], ◌∷◌, ◌++◌, arith, Begin, next_of, pair_owner, pair_sender, taking}
use Rattle.wq_calls.proofs.Sends.{sees_on}
use Rattle.wq_worker.proofs.Owned.{quiet_stays, owner_grows}
use Rattle.wq_worker.proofs.Pair.{by_owner}
use Rattle.wq_worker.proofs.State.{quiet_taking}
use Rattle.wq_worker.proofs.steps.begin_next.Goals as goal

pub returns-then-is_none : goal.returns-then-is_none
returns-then-is_none c =
    let e = c.take_where_empty.ensures in let a = c.args.pair.now in let b = c.take_where_empty.new.pair in
    let none : next_of b.seen ≡ None = search rules in
    (e.empty none, by_owner (taking a.seen) 0 0 a b e.seen e.others, none)

pub begin-requires-clause-idle : goal.begin-requires-clause-idle
begin-requires-clause-idle c =
    let a = c.args.pair.now in let b = c.take_where_empty.new.pair in let e = c.take_where_empty.ensures in
    let s = quiet_stays (taking a.seen) a.seen b.seen (quiet_taking a.seen)
    (owner_grows (taking a.seen) 0 a.seen b.seen e.seen.grows) in
    rw (s.begun_same, s.ended_same) c.requires.idle

pub returns : goal.returns
returns c =
    let e = c.take_where_empty.ensures in let m = c.begin.ensures in let a = c.args.pair.now in let b = c.take_where_empty.new.pair in
    let d = c.begin.new.self in let xs = taking a.seen in let k = c.begin.result in
    by_owner (xs ++ Begin k ∷ []) 0 0 a d
    (sees_on (λ z. xs) (λ z. Begin k ∷ []) 0 0 0 (pair_owner a) (pair_owner b) (pair_owner d) (omega arith) e.seen m.seen)
    (sees_on (λ z. []) (λ z. []) 0 0 0 (pair_sender a) (pair_sender b) (pair_sender d) (omega arith) e.others m.others)
