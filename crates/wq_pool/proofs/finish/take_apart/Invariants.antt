use Rattle.wq_pool.proofs.Common.{◌≡◌, ◌≤◌, map, length, vec_len, vec_capacity, turn_id, AreFinishedBy, AreTakenApart}
use Rattle.wq_pool.proofs.finish.take_apart.Given as goal

abbrev pub invariant-loop-worked : goal.invariant-loop-worked
invariant-loop-worked g l =
    (goal.iterator-loop-worked g).can_next l.worked-iterator × (goal.iterator-loop-worked g).is_finite l.worked-iterator
    × AreFinishedBy g.K.Station.book g.K.Station.has_run (map (turn_id g.K.Station.state) l.yielded) l.finished.items
    × (vec_len l.finished ≡ length l.yielded) × (vec_len l.fn.all ≤ vec_capacity l.finished)
    × AreTakenApart g.K.Station.state g.K.Station.book g.K.Station.has_brought l.yielded l.finished.items
