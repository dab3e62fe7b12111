use Rattle.wq_table.proofs.Common.{rules}
use Rattle.wq_table.proofs.Opened.{blanks_slots}
use Rattle.wq_table.proofs.Meetings.{boths_slots}
use Rattle.wq_table.proofs.chair.take_in.Goals as goal

pub split_seat-blank-requires : goal.split_seat-blank-requires
split_seat-blank-requires g c = (search rules, search rules, blanks_slots _ _ _)

pub join_seat-requires : goal.join_seat-requires
join_seat-requires g c = (search rules, search rules, search rules, search rules, boths_slots _ _ _ _ _)
