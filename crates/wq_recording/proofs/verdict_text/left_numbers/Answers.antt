use Rattle.std.proofs.Common.{sym, ◌∙◌, rules, arith}
use Rattle.wq_recording.proofs.LeftNumbers.{left_more, left_none, left_all}
use Rattle.wq_recording.proofs.verdict_text.left_numbers.Goals.{in-Some, in_default}
use Rattle.wq_recording.proofs.verdict_text.left_numbers.Goals as goal

pub push_reserved-requires : goal.push_reserved-requires
push_reserved-requires g c = let i = c.loop-place.invariant in omega (arith, c.loop-place-test.true, i.few, i.room)

pub loop-place-init : goal.loop-place-init
loop-place-init g c = record {
  read = λ h after. record { taken = c.in_ok-numbers.ensures.items; count = c.left_count-count.ensures.counted h after };
  few = omega (arith, c.in_ok-numbers.ensures.len);
  room = c.in_ok-numbers.ensures.capacity;
}

pub loop-place-preserved : goal.loop-place-preserved
loop-place-preserved g c =
    let i = c.loop-place.invariant in let here = c.loop-place-test.true in
    elim c.match-left_at.branch [
      | in-Some w ↦ rw w.numbers-is (record {
        read = λ h after. left_more _ _ _ _ (i.read h after) w.push_reserved.new.self.items w.in-Some.number here
            (sym w.in-Some.is ∙ c.left_at.ensures.left h after) w.push_reserved.ensures.items;
        few = omega (arith, i.few, w.push_reserved.ensures.len);
        room = omega (arith, i.room, w.push_reserved.ensures.capacity);
      })
      | in_default w ↦ rw w.numbers-is (record {
        read = λ h after. absurd (left_none _ _ _ _ (i.read h after) here (search rules));
        few = omega (arith, i.few);
        room = i.room;
      })
    ]

pub returns : goal.returns
returns g c = record {
  left = λ h after.
      left_all _ _ _ _ (c.loop-place.invariant.read h after) (omega (arith, c.loop-place-test.false, c.loop-place.auto.place-end));
}
