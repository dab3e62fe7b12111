use Rattle.std.proofs.Common.{rules}
use Rattle.wq_table.proofs.Opened.{offs_slots}
use Rattle.wq_table.proofs.Meetings.{boths_slots}
use Rattle.wq_table.proofs.chair.Chair.split.Goals as goal

pub split_seat-front-requires : goal.split_seat-front-requires
split_seat-front-requires g c = (search rules, search rules, offs_slots _ _ _)

pub split_seat-back-requires : goal.split_seat-back-requires
split_seat-back-requires g c = (search rules, search rules, offs_slots _ _ _)

pub join_seat-requires : goal.join_seat-requires
join_seat-requires g c = (search rules, search rules, search rules, search rules, boths_slots _ _ _ _ _)
