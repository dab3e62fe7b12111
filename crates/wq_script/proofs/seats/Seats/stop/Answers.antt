use Rattle.wq_script.proofs.Common.{ℕ, ◌+◌, ap, ◌∙◌, subst, Layout, Known, Answers}
use Rattle.wq_script.proofs.Asked.{seat_layout, sender_asked}
use Rattle.wq_script.proofs.seats.Seats.stop.Goals as goal

pub returns : goal.returns
returns c = λ layout h g.
    let s = c.args.self.now in let p : ℕ = c.args.sender in
    let x : Known = c.index_mut.result.now in
    let z : Known = c.request_stop-answer.new.self in
    let t = c.publish.new.self in
    sender_asked layout s t h p (layout.items + layout.barriers) c.request_stop-answer.result x z g c.requires.place c.index_mut.ensures.value
    (subst (λ (m : ℕ). Answers m 1 c.request_stop-answer.result x z)
    ((λ i. ap (λ (l : Layout). l.items) (seat_layout layout s h p x g c.requires.place c.index_mut.ensures.value) i
    + ap (λ (l : Layout). l.barriers) (seat_layout layout s h p x g c.requires.place c.index_mut.ensures.value) i)
    ∙ (λ i. g.wider.items i + g.wider.barriers i)) c.request_stop-answer.ensures.answer) c.publish.ensures.sender
