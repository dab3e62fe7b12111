use Rattle.wq_values.proofs.Common.{◌<◌, ap, sym, subst, Layout, Known, KnownWith, answer_of, sender_view, sending_in}
use Rattle.wq_calls.specs.Answers.{Answers}
use Rattle.wq_calls.proofs.Tried.{answers_same}
use Rattle.wq_values.proofs.ValueSends.{sends_values, sender_learnt}
use Rattle.wq_values.proofs.value_sender.ValueSender.queue_value_wait.Goals as goal

pub invariant_of-self : goal.invariant_of-self
invariant_of-self g c = let e = c.queue_value_wait.ensures in
    sends_values c.self.inside c.self.invariant c.queue_value_wait.new.chair c.queue_value_wait.new.sent e.learns e.sends e.hand

pub queue_value_wait-requires : goal.queue_value_wait-requires
queue_value_wait-requires g c = record {
  sends = c.self.invariant.sends;
  item = subst (λ (l : Layout). c.args.item < l.items) (sym (ap (λ (k : KnownWith g.row.V.Denot). k.known.layout) c.self.view_is)) c.requires.item;
  slots = c.self.invariant.slots;
}

pub returns : goal.returns
returns g c = let q = c.queue_value_wait in let e = q.ensures in let r = q.result in
    let was = ap (λ (k : KnownWith g.row.V.Denot). k.known) c.self.view_is in
    let answer = subst (λ (k : Known). Answers c.args.item 0 (answer_of r) k (sender_view (sending_in 0 q.new.chair q.new.sent))) was e.answer in record {
      answer = answer;
      value = e.value;
      learnt = sender_learnt c.self.inside c.self.invariant q.new.chair q.new.sent e.learns c.args.self.now c.self.view_is;
      same = answers_same _ _ (answer_of r) _ _ answer;
      settled = e.settled;
    }
