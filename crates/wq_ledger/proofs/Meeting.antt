-- What stays of a queue that is closed, and of a book, as more is seen.
use Rattle.std.proofs.lemmas.List.{append-nil}
use mathlib.Core.List.{IsPrefix}
use Rattle.wq_words.proofs.Prefixes.{prefix_append}
use Rattle.wq_words.specs.History.{accepted, begun}
use Rattle.wq_words.proofs.Closed.{closed_shuts}
use Rattle.wq_live.specs.Known.{Known, Sees}
use Rattle.wq_calls.proofs.Final.{final, all_run}
use Rattle.wq_ledger.proofs.Common.{◌≡◌, ℕ, List, [], ◌++◌, sym, ap, ◌∙◌, subst, arith}
use Rattle.wq_ledger.proofs.Common.{Layout, Event, ended, is_close, IsClosed, IsLegal, IsComplete, Grows}
use Rattle.wq_ledger.proofs.Common.{count_by-append, sender_counts, LedgerState, IsLedgerOf, AreBookParts}

pub still_closed : (v w : List Event) → IsClosed v → IsClosed (v ++ w)
still_closed v w closed = omega (arith, count_by-append is_close v w, closed)

pub still_complete : (layout : Layout) (v new : List Event) → IsLegal layout (v ++ new) → IsComplete v → IsComplete (v ++ new)
still_complete layout v new legal done = let same = final layout v done new legal in (still_closed v new done.0, rw (same.0, same.2) done.1)

pub complete_still : (layout : Layout) (c n : ℕ) (v w : List Event) → Grows c [] n v w → IsLegal layout w → IsComplete v → IsComplete w
complete_still layout c n v w g legal done =
    subst (λ (z : List Event). IsComplete z) (sym g.is) (still_complete layout v g.new (subst (IsLegal layout) g.is legal) done)

pub made_still : (c n : ℕ) (v w : List Event) (ledger : LedgerState) → Grows c [] n v w → IsLedgerOf v ledger → IsLedgerOf w ledger
made_still c n v w ledger g m = record {
  met = m.met;
  before = subst (λ (z : List Event). IsPrefix m.met z) (sym g.is) (prefix_append m.met v g.new m.before);
  closed = m.closed;
  counts_are = m.counts_are;
}

-- what a sender that has seen all of a closed queue's history has counted
pub made_now : (h v : List Event) (s : ℕ) (ledger : LedgerState) → v ≡ h → IsClosed h → ledger.number ≡ s → ledger.counts ≡ sender_counts s v
    → IsLedgerOf h ledger
made_now h v s ledger same closed number counts = record {
  met = h;
  before = ([], append-nil h);
  closed = closed;
  counts_are = counts ∙ (ap (sender_counts s) same ∙ ap (λ (z : ℕ). sender_counts z h) (sym number));
}

-- they are a book's parts as it is made
pub parts_now : (owner sender : Known) (own : LedgerState) → IsLegal owner.layout owner.seen → IsComplete owner.seen → sender.seen ≡ owner.seen
    → own.number ≡ sender.number → own.counts ≡ sender_counts sender.number sender.seen → AreBookParts owner own
parts_now owner sender own legal done both number counts = record {
  legal = legal;
  complete = done;
  made = made_now owner.seen sender.seen sender.number own both done.0 number counts;
}

-- and after each meeting
pub parts_still : (owner new : Known) (own : LedgerState) → Sees [] 0 owner new → AreBookParts owner own → AreBookParts new own
parts_still owner new own sees parts = record {
  legal = sees.legal;
  complete = complete_still new.layout owner.number 0 owner.seen new.seen sees.grows sees.legal parts.complete;
  made = made_still owner.number 0 owner.seen new.seen own sees.grows parts.made;
}

pub parts_run : (owner : Known) (own : LedgerState) → AreBookParts owner own
    → (ended owner.seen ≡ begun owner.seen) × (begun owner.seen ≡ accepted owner.seen)
parts_run owner own parts = all_run owner.layout owner.seen parts.legal (closed_shuts owner.seen parts.complete.0, parts.complete.1)
