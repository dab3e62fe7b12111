use Rattle.wq_script.proofs.Common.{ℕ, ◌<◌, List, length, ap, ◌∙◌, Event, pending, Known}
use Rattle.wq_script.proofs.Asked.{sender_looked}
use Rattle.wq_script.proofs.seats.Seats.is_pending.Goals as goal

pub returns : goal.returns
returns c = λ layout h g.
    let s = c.args.self.now in let p : ℕ = 0 in
    let x : Known = c.index_mut.result.now in
    let z : Known = c.is_pending-is_pending.new.self in
    let t = c.publish.new.self in
    let lt : p < length s.senders.items = c.requires.some in
    let looked = sender_looked layout s t h p x z g lt c.index_mut.ensures.value c.is_pending-is_pending.ensures.seen c.publish.ensures.sender in
    (looked.0, c.is_pending-is_pending.ensures.pending ∙ ap (λ (y : List Event). pending y c.args.item) looked.1)
