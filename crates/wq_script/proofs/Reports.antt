-- The counts of a report, from what the worker and the engine counted.
use Rattle.std.proofs.lemmas.List.Sums.{count_by-le-length}
use Rattle.wq_script.proofs.Common.{◌≡◌, ℕ, ◌+◌, ◌≤◌, ◌^◌, List, length, ap, ◌∙◌, arith, count_by, Event, accepted, begun, ended, is_push, prefix_length}
use Rattle.wq_script.proofs.Common.{owner_seat, is_queued_by, is_pending_by, is_closed_by, is_draining_by, is_chain, is_chain_busy, is_busy, is_refusal}
use Rattle.wq_script.proofs.Common.{accepted-count, Engine}
use Rattle.wq_script.proofs.Common.{Tally, HasStateWithin}
use Rattle.wq_words.proofs.Seen.{count_same, ended_same}
use Rattle.wq_words.proofs.Order.{in_order}
use Rattle.wq_ledger.specs.declared.totals.Totals.{Totals}
use Rattle.wq_ledger.specs.Totals.{own_totals}
use Rattle.wq_words.proofs.Counting.{queued_own, pending_own, closed_own, draining_own, chain_own, chain_busy_own}

-- what the counts of an engine come to
pub record Sums (x : Tally) (t : Totals) (h : List Event) : Type 0 where
  pub accepts : x.queued + t.queued + t.chained ≡ length (accepted h)
  pub chains : t.chained ≡ count_by is_chain h
  pub ends : t.executed ≡ length (ended h)
  pub finds_busy : x.busy + t.pending ≡ count_by is_busy h
  pub refuses : x.refused + t.closed + t.draining ≡ count_by is_refusal h
  pub some : length (accepted h) ≤ 2 ^ 62
  pub order : length (ended h) ≤ length (accepted h)
  pub some_busy : count_by is_busy h ≤ 2 ^ 62
  pub some_refused : count_by is_refusal h ≤ 2 ^ 62

pub sums : (e : Engine) (ready : HasStateWithin (2 ^ 61) e) (t : Totals) → t ≡ own_totals e.seats.worker.number e.seats.worker.seen
    → Sums e.tally t ready.0.history
sums e ready t is =
    let m = ready.1 in let few : length ready.0.history ≤ 2 ^ 61 = omega (arith, ready.2) in let g = m.seated in let a = e.seats in
    let h : List Event = ready.0.history in let v : List Event = a.worker.seen in let w : ℕ = e.layout.senders in
    let number : a.worker.number ≡ w = g.sender.number_is in
    let q : count_by (is_queued_by a.worker.number) v ≡ count_by (is_queued_by w) h = ap (λ (n : ℕ). count_by (is_queued_by n) v) number
    ∙ count_same (is_queued_by w) w (queued_own w) h v g.sender.mine in
    let p : count_by (is_pending_by a.worker.number) v ≡ count_by (is_pending_by w) h = ap (λ (n : ℕ). count_by (is_pending_by n) v) number
    ∙ count_same (is_pending_by w) w (pending_own w) h v g.sender.mine in
    let r : count_by (is_closed_by a.worker.number) v ≡ count_by (is_closed_by w) h = ap (λ (n : ℕ). count_by (is_closed_by n) v) number
    ∙ count_same (is_closed_by w) w (closed_own w) h v g.sender.mine in
    let f : count_by (is_draining_by a.worker.number) v ≡ count_by (is_draining_by w) h = ap (λ (n : ℕ). count_by (is_draining_by n) v) number
    ∙ count_same (is_draining_by w) w (draining_own w) h v g.sender.mine in
    let c : count_by is_chain v ≡ count_by is_chain h = count_same is_chain owner_seat chain_own h v g.owner.mine in
    let b : count_by is_chain_busy v ≡ count_by is_chain_busy h = count_same is_chain_busy owner_seat chain_busy_own h v g.owner.mine in
    let n : length (ended v) ≡ length (ended h) = ap (λ (y : List ℕ). length y) (ended_same h v g.owner.mine) in
    let order = in_order g.wide h g.legal in
    let lq = count_by-le-length (is_queued_by w) h in let lp = count_by-le-length (is_pending_by w) h in let lr = count_by-le-length (is_closed_by w) h in
    let lf = count_by-le-length (is_draining_by w) h in
    let lc = count_by-le-length is_chain h in let lb = count_by-le-length is_chain_busy h in let lpush = count_by-le-length is_push h in
    let lbusy = count_by-le-length is_busy h in let lref = count_by-le-length is_refusal h in
    let all = accepted-count h in
    let ord : length (ended h) ≤ length (accepted h) =
    omega (arith, prefix_length (begun h) (accepted h) order.begun_first, prefix_length (ended h) (begun h) order.ended_first) in
    let tq : t.queued ≡ count_by (is_queued_by w) h = ap (λ (y : Totals). y.queued) is ∙ omega (arith, q, lq, few) in
    let tc : t.chained ≡ count_by is_chain h = ap (λ (y : Totals). y.chained) is ∙ omega (arith, c, lc, few) in
    let te : t.executed ≡ length (ended h) = ap (λ (y : Totals). y.executed) is ∙ omega (arith, n, ord, all, lpush, lc, few) in
    let tp : t.pending ≡ count_by (is_pending_by w) h + count_by is_chain_busy h = ap (λ (y : Totals). y.pending) is ∙ omega (arith, p, b, lp, lb, few) in
    let tr : t.closed ≡ count_by (is_closed_by w) h = ap (λ (y : Totals). y.closed) is ∙ omega (arith, r, lr, few) in
    let tf : t.draining ≡ count_by (is_draining_by w) h = ap (λ (y : Totals). y.draining) is ∙ omega (arith, f, lf, few) in
    record {
      accepts = omega (arith, tq, tc, m.tally.queued, all);
      chains = tc;
      ends = te;
      finds_busy = omega (arith, tp, m.tally.busy);
      refuses = omega (arith, tr, tf, m.tally.refused);
      some = omega (arith, all, lpush, lc, few);
      order = ord;
      some_busy = omega (arith, lbusy, few);
      some_refused = omega (arith, lref, few);
    }
