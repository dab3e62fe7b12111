use Rattle.wq_calls.proofs.Common.{◌≡◌, [], Holds, Grows, part_in, LearnsOrStays, IsSame, sending_in, sender_view, Sends}
use Rattle.wq_calls.proofs.sent.try_waiting.Given as goal

abbrev pub invariant-loop : goal.invariant-loop
invariant-loop g l = record {
  next : (goal.iterator-loop g).can_next l.iterator';
  finite : (goal.iterator-loop g).is_finite l.iterator';
  sends : Sends (sending_in g.P.WhichPart.at l.chair l.sent);
  learns : LearnsOrStays g.P.WhichPart.at l.fn.chair l.chair;
  same : IsSame (sender_view (sending_in g.P.WhichPart.at l.fn.chair l.fn.sent)) (sender_view (sending_in g.P.WhichPart.at l.chair l.sent));
  grows : Grows l.fn.sent.number [] 0 (part_in g.P.WhichPart.at l.fn.chair).seen (part_in g.P.WhichPart.at l.chair).seen;
  held : Holds (part_in g.P.WhichPart.at l.chair).seen l.sent.number l.number;
  hand : l.chair.hand ≡ l.fn.chair.hand;
}
