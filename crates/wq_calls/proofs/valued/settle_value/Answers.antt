use Rattle.wq_calls.proofs.Common.{inl, inr, refl, sym, subst, Posted, sending_in, sender_view, Settles, answer_of}
use Rattle.wq_words.specs.declared.answer.Answer.TheVariants as answer
use Rattle.wq_words.specs.declared.event.Why.TheVariants as why
use Rattle.wq_core.specs.Words.{closed_word, draining_word}
use Rattle.wq_calls.specs.declared.value_answer.ValueAnswer.{ValueAnswer}
use Rattle.wq_calls.specs.declared.value_answer.ValueAnswer.TheVariants.{Queued, Closed, Draining, Contended}
use Rattle.wq_calls.specs.Tries.{IsHeldAfter}
use Rattle.wq_calls.specs.Valued.{IsFilledAfter, SettlesValue}
use Rattle.wq_calls.proofs.Valuing.{taken_ready, taken_sees, taken_gives, taken_back, exchanged_learns}
use Rattle.wq_calls.proofs.valued.settle_value.Goals as goal

pub returns-in-Queued : goal.returns-in-Queued
returns-in-Queued g c = let k = c.args.item in let a = c.args.chair.now in let is = sym c.in-Queued.is in
    let s = sender_view (sending_in g.P.WhichPart.at a c.args.sent.now) in let r : ValueAnswer g.row.V.Denot = Queued c.in-Queued.first c.in-Queued.wakes in
    record {
      sends = c.requires.sends;
      learns = inl refl;
      settles = subst (λ (p : Posted). Settles k p (answer_of r) s s) is (refl, refl);
      value = subst (λ (p : Posted). SettlesValue p r a a) is refl;
    }

pub take_value-value-requires : goal.take_value-value-requires
take_value-value-requires g c =
    record { filled = subst (λ (p : Posted). IsFilledAfter p c.args.item c.args.chair.now) c.in-Closed.is c.requires.filled }

pub find_closed-requires : goal.find_closed-requires
find_closed-requires g c = let at = g.P.WhichPart.at in let k = c.args.item in let a = c.args.chair.now in let s = c.args.sent.now in let is = c.in-Closed.is in
    let v = c.take_value-value in let ready = taken_ready at k v.result a v.new.chair s v.ensures.exchanged c.requires.sends c.requires.item
    (subst (λ (p : Posted). IsHeldAfter p k (sender_view (sending_in at a s))) is c.requires.held) in record {
      sends = ready.0;
      number = ready.1;
      held = ready.2;
      sees = taken_sees at k v.result a v.new.chair s v.ensures.exchanged closed_word (c.requires.sees_closed is);
      slot = ready.3;
    }

pub returns-in-Closed : goal.returns-in-Closed
returns-in-Closed g c = let at = g.P.WhichPart.at in let k = c.args.item in let a = c.args.chair.now in let s = c.args.sent.now in
    let is = sym c.in-Closed.is in let v = c.take_value-value in let b = v.new.chair in let x = v.ensures.exchanged in
    let e = c.find_closed.ensures in let end = c.find_closed.new.chair in let now = sender_view (sending_in at end c.find_closed.new.sent) in
    record {
      sends = e.sends;
      learns = inr (exchanged_learns k _ _ a b x at end e.learns);
      settles = subst (λ (p : Posted). Settles k p answer.Closed (sender_view (sending_in at a s)) now) is
          (refl, taken_gives at k v.result a b s x why.Closed now e.gives);
      value = subst (λ (p : Posted). SettlesValue p (Closed v.result) a end) is (taken_back at k v.result a b s x end c.requires.slots e.slots);
    }

pub take_value-value-requires-in-Draining : goal.take_value-value-requires-in-Draining
take_value-value-requires-in-Draining g c =
    record { filled = subst (λ (p : Posted). IsFilledAfter p c.args.item c.args.chair.now) c.in-Draining.is c.requires.filled }

pub turn_back-requires : goal.turn_back-requires
turn_back-requires g c = let at = g.P.WhichPart.at in let k = c.args.item in let a = c.args.chair.now in let s = c.args.sent.now in let is = c.in-Draining.is in
    let v = c.take_value-value-in-Draining in let ready = taken_ready at k v.result a v.new.chair s v.ensures.exchanged c.requires.sends c.requires.item
    (subst (λ (p : Posted). IsHeldAfter p k (sender_view (sending_in at a s))) is c.requires.held) in record {
      sends = ready.0;
      number = ready.1;
      held = ready.2;
      sees = taken_sees at k v.result a v.new.chair s v.ensures.exchanged draining_word (c.requires.sees is);
      slot = ready.3;
    }

pub returns-in-Draining : goal.returns-in-Draining
returns-in-Draining g c = let at = g.P.WhichPart.at in let k = c.args.item in let a = c.args.chair.now in let s = c.args.sent.now in
    let is = sym c.in-Draining.is in let v = c.take_value-value-in-Draining in let b = v.new.chair in let x = v.ensures.exchanged in
    let e = c.turn_back.ensures in let end = c.turn_back.new.chair in let now = sender_view (sending_in at end c.turn_back.new.sent) in
    record {
      sends = e.sends;
      learns = inr (exchanged_learns k _ _ a b x at end e.learns);
      settles = subst (λ (p : Posted). Settles k p answer.Draining (sender_view (sending_in at a s)) now) is
          (refl, taken_gives at k v.result a b s x why.Draining now e.gives);
      value = subst (λ (p : Posted). SettlesValue p (Draining v.result) a end) is (taken_back at k v.result a b s x end c.requires.slots e.slots);
    }

pub take_value-value-requires-in-Contended : goal.take_value-value-requires-in-Contended
take_value-value-requires-in-Contended g c =
    record { filled = subst (λ (p : Posted). IsFilledAfter p c.args.item c.args.chair.now) c.in-Contended.is c.requires.filled }

pub give_up-requires : goal.give_up-requires
give_up-requires g c = let at = g.P.WhichPart.at in let k = c.args.item in let a = c.args.chair.now in let s = c.args.sent.now in let is = c.in-Contended.is in
    let v = c.take_value-value-in-Contended in let ready = taken_ready at k v.result a v.new.chair s v.ensures.exchanged c.requires.sends c.requires.item
    (subst (λ (p : Posted). IsHeldAfter p k (sender_view (sending_in at a s))) is c.requires.held) in record {
      sends = ready.0;
      number = ready.1;
      held = ready.2;
      slot = ready.3;
    }

pub returns-in-Contended : goal.returns-in-Contended
returns-in-Contended g c = let at = g.P.WhichPart.at in let k = c.args.item in let a = c.args.chair.now in let s = c.args.sent.now in
    let is = sym c.in-Contended.is in let v = c.take_value-value-in-Contended in let b = v.new.chair in let x = v.ensures.exchanged in
    let e = c.give_up.ensures in let end = c.give_up.new.chair in let now = sender_view (sending_in at end c.give_up.new.sent) in
    record {
      sends = e.sends;
      learns = inr (exchanged_learns k _ _ a b x at end e.learns);
      settles = subst (λ (p : Posted). Settles k p answer.Contended (sender_view (sending_in at a s)) now) is
          (refl, taken_gives at k v.result a b s x why.Contended now e.gives);
      value = subst (λ (p : Posted). SettlesValue p (Contended v.result) a end) is (taken_back at k v.result a b s x end c.requires.slots e.slots);
    }
