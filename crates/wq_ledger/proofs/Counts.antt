-- What a worker's two seats have counted, summed.
use Rattle.wq_ledger.proofs.Common.{◌≡◌, ℕ, List, ap, ◌∙◌, Event}
use Rattle.wq_ledger.specs.Totals.{own_totals}
use Rattle.wq_calls.specs.declared.counts.SenderCounts.{SenderCounts}
use Rattle.wq_calls.specs.declared.counts.OwnerCounts.{OwnerCounts}
use Rattle.wq_live.specs.Counts.{sender_counts, owner_counts}
use Rattle.wq_ledger.specs.declared.totals.Totals.{Totals}
use Rattle.wq_ledger.specs.Totals.{totals_of}

pub own_counted : (s : ℕ) (h : List Event) (mine : SenderCounts) (owners : OwnerCounts) (sum : Totals) → mine ≡ sender_counts s h → owners ≡ owner_counts h
    → sum ≡ totals_of mine owners → sum ≡ own_totals s h
own_counted s h mine owners sum by_sender by_owner sums =
    sums ∙ (ap (λ (z : SenderCounts). totals_of z owners) by_sender ∙ ap (totals_of (sender_counts s h)) by_owner)
