use Rattle.wq_live.proofs.Common.{refl, [], ◌∷◌, Back, learns_step, sending_in}
use Rattle.wq_words.specs.declared.event.Why.TheVariants.{Cancelled}
use Rattle.wq_live.proofs.Alone.{sender_alone}
use Rattle.wq_calls.proofs.Counting.{counts_cancelled}
use Rattle.wq_calls.proofs.Tells.{Tells, back_tells, sender_made}
use Rattle.wq_calls.proofs.Held.{given_held, given_unheld, given_stops}
use Rattle.wq_calls.proofs.Sends.{grows_tells, sends_tells, sees_tells, holds_view}
use Rattle.wq_calls.proofs.Resting.{accepted_still}
use Rattle.wq_live.proofs.sender.Sender.give_back.Goals as goal

pub back_cancelled-requires-clause-held : goal.back_cancelled-requires-clause-held
back_cancelled-requires-clause-held c = holds_view (sending_in 0 c.self.inside.chair c.self.inside.sent) c.args.self.now c.args.item c.self.view_is
    c.self.invariant.sends c.requires.held

pub invariant_of-self : goal.invariant_of-self
invariant_of-self c = let s = (sending_in 0 c.self.inside.chair c.self.inside.sent) in let k = c.args.item in
    let step = c.back_cancelled.ensures.step.1 in let steps = step.steps in
    let new = c.back_cancelled.new.self in
    let told : Tells
    (Back s.chair.part.seat k Cancelled ∷ []) s.chair.part new.first.part = back_tells k _ Cancelled s.chair.part new.first.part c.self.invariant.sends.stage
    steps.moves.makes in
    let stage = sender_made _ _ _ _ steps.moves.makes c.self.invariant.sends.stage in
    sender_alone c.self.inside (record { chair = new; sent = c.self.inside.sent }) c.self.invariant
    (sends_tells s (sending_in 0 new c.self.inside.sent) _ 0 c.self.invariant.sends refl refl told stage
    (counts_cancelled s.number 0 s.chair.part.seen new.first.part.seen s.counts c.self.invariant.sends.counts_are k
    (grows_tells s (sending_in 0 new c.self.inside.sent) (λ z. Back z k Cancelled ∷ []) 0 c.self.invariant.sends told)))
    (learns_step 0 _ _ _ _ _ step) (step.hand_same c.self.invariant.bare)

pub returns : goal.returns
returns c = let s = (sending_in 0 c.self.inside.chair c.self.inside.sent) in let k = c.args.item in
    let step = c.back_cancelled.ensures.step.1 in let steps = step.steps in
    let new = c.back_cancelled.new.self in
    let sees = sees_tells s (sending_in 0 new c.self.inside.sent) c.args.self.now (λ z. Back z k Cancelled ∷ []) 0 c.self.view_is c.self.invariant.sends refl
    refl
    steps.queue_is (back_tells k _ Cancelled s.chair.part new.first.part c.self.invariant.sends.stage steps.moves.makes) in record {
      seen = sees;
      unqueued = accepted_still 0 (Back c.args.self.now.number k Cancelled ∷ []) c.args.self.now _ sees refl;
      same = sees.same;
      keeps = λ j. given_held j k 0 Cancelled c.args.self.now _ sees;
      unheld = λ j. given_unheld j k 0 Cancelled c.args.self.now _ sees;
      gone = given_stops k 0 Cancelled c.args.self.now _ sees;
    }
