-- The senders of a new queue whose items bring nothing.
use Rattle.wq_live.proofs.Common.{◌≡◌, ℕ, ◌<◌, [], ap, ◌∙◌, TableId, Layout, ValueStanding, Bare, Sent, sender_counts}
use Rattle.wq_table.specs.SlotChairs.{value_sender}
use Rattle.wq_live.specs.Alone.{SendsAlone}
use Rattle.wq_calls.proofs.Built.{sends_new}

pub sender_of_none : (q : TableId) (layout : Layout) (number : ℕ) (chair : ValueStanding Bare) (sent : Sent) → chair ≡ value_sender q layout number
    → (sent.layout ≡ layout) × (sent.number ≡ number) × (sent.counts ≡ sender_counts number []) → number < layout.senders → q.slots ≡ 0
    → SendsAlone (record { chair = chair; sent = sent })
sender_of_none q layout number chair sent is made low bare = record {
  sends = sends_new q layout number chair sent is made low;
  alone = ap (λ (x : ValueStanding Bare). x.others) is;
  bare = ap (λ (x : ValueStanding Bare). x.queue.slots) is ∙ bare;
  empty = ap (λ (x : ValueStanding Bare). x.hand) is;
}
