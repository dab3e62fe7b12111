use Rattle.wq_values.proofs.Common.{◌<◌, ap, refl, sym, ◌∙◌, subst, ℕ, List, Layout, Event, Known, IsContended, answer_of, pair_owner, KnownValuePair, owner_of}
use Rattle.wq_calls.specs.Answers.{Answers}
use Rattle.wq_calls.specs.KnownWith.{BringsOrReturns}
use Rattle.wq_calls.specs.Pairs.{pair_sender}
use Rattle.wq_calls.proofs.Tried.{answers_same}
use Rattle.wq_calls.proofs.ValueSeats.{owner_learnt}
use Rattle.wq_calls.proofs.HandedOver.{met_handed}
use Rattle.wq_calls.proofs.InOneSeat.{sender_is, owner_looks}
use Rattle.wq_values.proofs.ValuePaired.{queued_seat, values_queue}
use Rattle.wq_calls.proofs.OwnerStays.{still_owned}
use Rattle.wq_values.proofs.value_pair.ValuePair.queue_value.Goals as goal

pub invariant_of-self : goal.invariant_of-self
invariant_of-self g c = let e = c.queue_value.ensures in
    values_queue c.self.inside c.self.invariant c.queue_value.new.chair c.queue_value.new.sent e.learns e.sends
    (answers_same _ _ (answer_of c.queue_value.result) _ _ e.answer).layout_is e.hand

pub queue_value-requires : goal.queue_value-requires
queue_value-requires g c = let seated = c.self.invariant.seated in record {
  sends = seated.sends;
  item = subst (λ (l : Layout). c.args.item < l.items)
      (sym (seated.one_layout ∙ ap (λ (p : KnownValuePair g.row.V.Denot). p.known.layout) c.self.view_is)) c.requires.item;
  slots = c.self.invariant.slots;
}

pub returns : goal.returns
returns g c = let s = c.self.inside in let i = c.self.invariant in let e = c.queue_value.ensures in let r = c.queue_value.result in
    let now = c.args.self.now in let view = c.self.view_is in let it = c.queue_value.new.chair in let t = record s.seat { chair = it } in
    let seated = queued_seat s i it c.queue_value.new.sent e.learns e.sends (answers_same _ _ (answer_of r) _ _ e.answer).layout_is e.hand in
    let was = sender_is s.seat s.sent i.seated ∙ ap (λ (p : KnownValuePair g.row.V.Denot). pair_sender p.known) view in
    let new = sender_is t c.queue_value.new.sent seated in
    let others = owner_looks s.seat it s.sent i.seated e.learns now.known (ap (λ (p : KnownValuePair g.row.V.Denot). p.known) view) in
    let learnt = owner_learnt 1 s.seat t e.learns i.known (owner_of now) (ap owner_of view) in record {
      answer = subst (λ (z : Known × Known). Answers c.args.item c.args.tries (answer_of r) z.0 z.1) (λ j. (was j, new j)) e.answer;
      value = subst (λ (k : Known). BringsOrReturns c.args.item c.args.value r (record { known = k; brought = it.first.brought })) new e.value;
      learnt = learnt;
      handed = met_handed (owner_of now) _ refl others learnt;
      contended = λ is. subst (λ (z : ℕ × List Event). IsContended z.0 c.args.item c.args.tries z.1)
          (λ j. (ap (λ (p : KnownValuePair g.row.V.Denot). p.known.number) view j, seated.one_seen j)) (e.contended is);
      others = others;
      owned = still_owned 0 (pair_owner now.known) _ refl others;
    }
