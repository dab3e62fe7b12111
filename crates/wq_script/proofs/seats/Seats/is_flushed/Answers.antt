use Rattle.wq_script.proofs.Common.{ℕ, ◌+◌, ◌<◌, not, List, length, ap, ◌∙◌, Layout, Event, pending, Known}
use Rattle.wq_script.proofs.Asked.{seat_layout, sender_looked}
use Rattle.wq_script.proofs.seats.Seats.is_flushed.Goals as goal

pub returns : goal.returns
returns c = λ layout h g.
    let s = c.args.self.now in let p : ℕ = c.args.sender in
    let x : Known = c.index_mut.result.now in
    let z : Known = c.flush_done-is_flushed.new.self in
    let t = c.publish.new.self in
    let lt : p < length s.senders.items = c.requires.place in
    let looked = sender_looked layout s t h p x z g lt c.index_mut.ensures.value c.flush_done-is_flushed.ensures.seen c.publish.ensures.sender in (
      looked.0,
      c.flush_done-is_flushed.ensures.clear ∙ (ap (λ (y : List Event). not (pending y (x.layout.items + c.args.barrier))) looked.1
          ∙ ap (λ (n : ℕ). not (pending h (n + c.args.barrier)))
          (ap (λ (l : Layout). l.items) (seat_layout layout s h p x g lt c.index_mut.ensures.value) ∙ g.wider.items)),
    )
