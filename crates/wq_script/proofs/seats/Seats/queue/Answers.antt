use Rattle.wq_script.proofs.Common.{ℕ, Known}
use Rattle.wq_script.proofs.Asked.{sender_asked}
use Rattle.wq_script.proofs.seats.Seats.queue.Goals as goal

pub returns : goal.returns
returns c = λ layout h g.
    let s = c.args.self.now in let p : ℕ = c.args.sender in
    let x : Known = c.index_mut.result.now in
    let z : Known = c.queue_tries-answer.new.self in
    let t = c.publish.new.self in
    sender_asked layout s t h p c.args.item c.queue_tries-answer.result x z g c.requires.place c.index_mut.ensures.value c.queue_tries-answer.ensures.answer
    c.publish.ensures.sender
