-- The senders of a new queue whose items bring values.
use Rattle.wq_values.proofs.Common.{◌≡◌, ℕ, ◌<◌, [], refl, sym, ap, subst, TableId, Layout, ValueStanding, Sent, sender_counts, SendsValues, AreKnown}
use Rattle.wq_table.specs.SlotChairs.{value_sender}
use Rattle.wq_calls.proofs.Built.{sends_new}

pub sender_of_values : {V : Type 0} (q : TableId) (layout : Layout) (number : ℕ) (chair : ValueStanding V) (sent : Sent) → chair ≡ value_sender q layout number
    → (sent.layout ≡ layout) × (sent.number ≡ number) × (sent.counts ≡ sender_counts number []) → number < layout.senders → 0 < q.slots
    → SendsValues (record { chair = chair; sent = sent })
sender_of_values {V} q layout number chair sent is made low slots = record {
  sends = sends_new q layout number chair sent is made low;
  alone = ap (λ (x : ValueStanding V). x.others) is;
  slots = subst (λ (x : ValueStanding V). 0 < x.queue.slots) (sym is) slots;
  empty = ap (λ (x : ValueStanding V). x.hand) is;
  known = subst AreKnown (sym is) (record { as_many = refl; carries = λ place k y stands has. absurd cc });
}
