use Rattle.wq_calls.proofs.Common.{inr, refl, sym, subst, Posted, sending_in, sender_view, Settles}
use Rattle.wq_words.specs.declared.answer.Answer.TheVariants.{Closed, Draining, Contended}
use Rattle.wq_calls.specs.Hands.{IsEmptiedAfter, SettlesSlot}
use Rattle.wq_calls.specs.Tries.{IsHeldAfter}
use Rattle.wq_calls.proofs.sent.settle.Goals as goal

pub find_closed-requires : goal.find_closed-requires
find_closed-requires g c = let k = c.args.number in let a = c.args.chair.now in let is = c.in-Closed.is in record {
  sends = c.requires.sends;
  number = c.requires.number;
  held = subst (λ (p : Posted). IsHeldAfter p k (sender_view (sending_in g.P.WhichPart.at a c.args.sent.now))) is c.requires.held;
  sees = c.requires.sees_closed is;
  slot = subst (λ (p : Posted). IsEmptiedAfter p k a) is c.requires.slot;
}

pub turn_back-requires : goal.turn_back-requires
turn_back-requires g c = let k = c.args.number in let a = c.args.chair.now in let is = c.in-Draining.is in record {
  sends = c.requires.sends;
  number = c.requires.number;
  held = subst (λ (p : Posted). IsHeldAfter p k (sender_view (sending_in g.P.WhichPart.at a c.args.sent.now))) is c.requires.held;
  sees = c.requires.sees is;
  slot = subst (λ (p : Posted). IsEmptiedAfter p k a) is c.requires.slot;
}

pub give_up-requires : goal.give_up-requires
give_up-requires g c = let k = c.args.number in let a = c.args.chair.now in let is = c.in-Contended.is in record {
  sends = c.requires.sends;
  number = c.requires.number;
  held = subst (λ (p : Posted). IsHeldAfter p k (sender_view (sending_in g.P.WhichPart.at a c.args.sent.now))) is c.requires.held;
  slot = subst (λ (p : Posted). IsEmptiedAfter p k a) is c.requires.slot;
}

pub returns-in-Closed : goal.returns-in-Closed
returns-in-Closed g c = let k = c.args.number in let at = g.P.WhichPart.at in let a = c.args.chair.now in let b = c.find_closed.new.chair in
    let e = c.find_closed.ensures in let is = sym c.in-Closed.is in
    let s = sender_view (sending_in at a c.args.sent.now) in let now = sender_view (sending_in at b c.find_closed.new.sent) in record {
      sends = e.sends;
      learns = inr e.learns;
      settles = subst (λ (p : Posted). Settles k p Closed s now) is (refl, e.gives);
      slots = subst (λ (p : Posted). SettlesSlot p a b) is e.slots;
    }

pub returns-in-Draining : goal.returns-in-Draining
returns-in-Draining g c = let k = c.args.number in let at = g.P.WhichPart.at in let a = c.args.chair.now in let b = c.turn_back.new.chair in
    let e = c.turn_back.ensures in let is = sym c.in-Draining.is in
    let s = sender_view (sending_in at a c.args.sent.now) in let now = sender_view (sending_in at b c.turn_back.new.sent) in record {
      sends = e.sends;
      learns = inr e.learns;
      settles = subst (λ (p : Posted). Settles k p Draining s now) is (refl, e.gives);
      slots = subst (λ (p : Posted). SettlesSlot p a b) is e.slots;
    }

pub returns-in-Contended : goal.returns-in-Contended
returns-in-Contended g c = let k = c.args.number in let at = g.P.WhichPart.at in let a = c.args.chair.now in let b = c.give_up.new.chair in
    let e = c.give_up.ensures in let is = sym c.in-Contended.is in
    let s = sender_view (sending_in at a c.args.sent.now) in let now = sender_view (sending_in at b c.give_up.new.sent) in record {
      sends = e.sends;
      learns = inr e.learns;
      settles = subst (λ (p : Posted). Settles k p Contended s now) is (refl, e.gives);
      slots = subst (λ (p : Posted). SettlesSlot p a b) is e.slots;
    }
