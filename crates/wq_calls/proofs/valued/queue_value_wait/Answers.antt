use Rattle.wq_calls.proofs.SenderHands.{came_empty}
use Rattle.wq_calls.proofs.Settled.{contended_tries}
use Rattle.wq_calls.proofs.Valuing.{put_ready, put_tried, put_settled}
use Rattle.wq_calls.proofs.valued.queue_value_wait.Goals as goal

pub exchange-requires : goal.exchange-requires
exchange-requires g c = record { slot = came_empty c.args.item _ _ c.if-not-hold_number.ensures.slots c.requires.slots }

pub try_waiting-posted-requires : goal.try_waiting-posted-requires
try_waiting-posted-requires g c = let at = g.P.WhichPart.at in let held = c.if-not-hold_number.ensures in
    let put = put_ready at c.args.item c.args.value c.exchange.result c.args.chair.now c.hold_number.new.chair c.exchange.new.self c.args.sent.now
    c.hold_number.new.sent c.requires.slots c.requires.item held.seen held.slots held.sends held.learns c.exchange.ensures.exchanged in
    record { sends = put.0; number = put.1; held = put.2; slot = put.3 }

pub settle_value-requires : goal.settle_value-requires
settle_value-requires g c = let at = g.P.WhichPart.at in let held = c.if-not-hold_number.ensures in let tried = c.try_waiting-posted.ensures in
    let put = put_tried at c.args.item c.args.value c.exchange.result c.args.chair.now c.hold_number.new.chair c.exchange.new.self c.args.sent.now
    c.hold_number.new.sent c.requires.slots c.requires.item held.seen held.slots held.sends held.learns c.exchange.ensures.exchanged
    c.try_waiting-posted.new.chair c.try_waiting-posted.new.sent 0 c.try_waiting-posted.result tried.posts tried.learns tried.slots in
    record {
      sends = tried.sends;
      item = put.0;
      held = put.1;
      sees_closed = tried.sees_closed;
      sees = tried.sees;
      slots = put.2;
      filled = put.3;
    }

pub returns : goal.returns
returns g c = let at = g.P.WhichPart.at in let held = c.if-not-hold_number.ensures in let tried = c.try_waiting-posted.ensures in
    let settled = c.settle_value.ensures in
    let put = put_settled at c.args.item c.args.value c.exchange.result c.args.chair.now c.hold_number.new.chair c.exchange.new.self c.args.sent.now
    c.hold_number.new.sent c.requires.slots c.requires.item held.seen held.slots held.sends held.learns c.exchange.ensures.exchanged
    c.try_waiting-posted.new.chair c.try_waiting-posted.new.sent 0 c.try_waiting-posted.result tried.posts tried.learns tried.slots
    c.settle_value.new.chair c.settle_value.new.sent c.settle_value.result settled.sends settled.settles settled.value settled.learns in
    record {
      sends = settled.sends;
      learns = put.0;
      answer = put.1;
      settled = λ is. tried.settled (contended_tries c.args.item c.try_waiting-posted.result _ _ _ settled.settles is);
      value = put.3;
      hand = put.4;
    }
