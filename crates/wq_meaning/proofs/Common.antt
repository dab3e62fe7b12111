-- What several proofs of this crate cite of std, of specs and of the crates below, passed on from one place.
pub use Rattle.std.proofs.Common.{fold, codes, add-one, ◌*◌, string_bytes, flat_map, map}
pub use Rattle.arrayvec.specs.ArrayVec.{ArrayVec}
pub use Rattle.wq_words.specs.DelayTable.{on_table, Entry, IsBefore, placed, without, due_part}
pub use Rattle.wq_words.specs.declared.event.Event.{Event}
pub use Rattle.wq_words.specs.declared.event.Event.TheVariants.{Hold, Busy, Push, Back, Take, Drain, Resume, Begin, End, Chain, ChainBusy, Close}
pub use Rattle.wq_words.specs.declared.layout.Layout.{Layout}
pub use Rattle.wq_words.proofs.Common.{◌≢◌, ℕ, ◌==◌, ◌&&◌, Bool, true, false, List, if◌then◌else◌, refl, ◌≡◌, ◌<◌, ◌||◌, [], ◌∷◌, ap, ◌∙◌, eq-eqb, suc, not}
pub use Rattle.wq_words.proofs.Common.{nat_le, ◌++◌, length, sym, Option, Some, None, zero, ◌+◌, nat_lt, inl, inr, arith, cond, filter, subst, drop, get_or}
pub use Rattle.wq_words.specs.History.{pending, closed, shut, draining, first, begun, ended, taken, next}
pub use Rattle.wq_words.proofs.Common.{append_assoc, drop-cons, ◌≤◌, length-append, take, armed_of}
pub use Rattle.wq_words.proofs.Common.{modified_of, DelayTable, is_too_far, table_with, table_without, table_at, append-nil}
pub use Rattle.wq_text.specs.declared.command.Command.{Command}
pub use Rattle.wq_text.proofs.Common.{option_to_list, All, length-map, Turn}
pub use Rattle.wq_meaning.specs.Arming.{queues_now, arm_answer, modify_answer, post_event, post_events, post_table, post_answer, arm_events, arm_table}
pub use Rattle.wq_meaning.specs.Arming.{modify_events, modify_table, posted_items, advance_events, advance_table, cancel_events}
pub use Rattle.wq_meaning.specs.Commands.{ScriptState}
unfoldable pub use Rattle.wq_meaning.specs.Commands.{opening_state, state_after, after_row, lines, delayer, output_from}
pub use Rattle.wq_meaning.specs.Execution.{follow_of, take_events, follow_events, after_follow, after_run, after_execution, after_executions, go_on}
pub use Rattle.wq_meaning.specs.Execution.{left_in, begin_drain, end_drain, ended_since}
pub use Rattle.wq_meaning.specs.Names.{row_text, advance_word, left_text, named}
pub use Rattle.wq_meaning.specs.Queueing.{queue_answer, queue_events, close_events}
pub use Rattle.wq_meaning.specs.ScheduleOutput.{Gives, AllGive, GivesBehind, IsScheduleOutput, HasOneOutput, ending}
