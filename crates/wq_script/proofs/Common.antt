-- What the proofs of this crate cite of the crates below it and of its own definitions.
pub use Rattle.arrayvec.specs.ArrayVec.{ArrayVec}
pub use mathlib.Core.List.{IsPrefix}
pub use Rattle.std.specs.List.{AllByRecursion, before_last, AllZip}
pub use Rattle.std.specs.Prelude.{filter, IfOk, IsTrue, ◌↔◌, slice_get, MatchBool, MatchOption}
pub use Rattle.std.specs.Vec.{with_item}
pub use Rattle.std.proofs.Common.{◌≡◌, ℕ, ◌<◌, ◌≤◌, ◌⊎◌, Bool, true, false, cond, not, List, [], ◌∷◌, ◌++◌, length, inl, inr, refl, sym, ap, ◌∙◌, subst, arith}
pub use Rattle.std.proofs.Common.{append_assoc, eq-eqb, ◌≢◌, ◌+◌, ◌&&◌, ◌||◌, ◌==◌, map, if◌then◌else◌, count_by, Some, None, nat_lt, get_or, set, suc, ◌-◌}
pub use Rattle.std.proofs.Common.{Option, take, fold, nat_le, All, replicate, slice_set, length-append, ◌^◌, drop, ne_eqb, string_bytes, codes, ◌*◌}
pub use Rattle.std.proofs.Math.ListN.{get_or-eq_default, drop_of_length-le}
pub use Rattle.std.proofs.lemmas.Bool.{le-leb, lt-leb, false≢true, cases_lt, cases_eq, lt-ltb, le-ltb, eqb-true}
pub use Rattle.std.proofs.lemmas.List.{append-nil, get_or-set_same, append_cancel_left, length-drop, length-take, length-replicate, get_or-replicate}
pub use Rattle.std.proofs.lemmas.List.{length-set, get_or-set_other, get_or_default}
pub use Rattle.std.proofs.lemmas.List.Elements.{filter-append}
pub use Rattle.std.proofs.lemmas.Option.{slice_get_within, slice_get_cases, slice_get_past}
pub use Rattle.wq_words.specs.Armed.{armed_of, modified_of}
pub use Rattle.wq_words.specs.Counting.{is_busy, is_refusal, is_queued_by, is_pending_by, is_closed_by, is_draining_by, is_chain, is_chain_busy}
pub use Rattle.wq_words.specs.DelayTable.{DelayTable, on_table, is_too_far, Entry, items, due_part, table_without, table_at}
pub use Rattle.wq_words.specs.History.{is_cut, IsClosed, IsShut, IsDraining}
pub use Rattle.wq_words.specs.History.{pending, closed, shut, draining, first, is_push, fresh, accepted, begun, next, taken, Holds, ended, IsRunning}
pub use Rattle.wq_words.specs.Legal.{IsLegal, HasSeat}
pub use Rattle.wq_words.specs.Numbers.{barrier_number, stop_number}
pub use Rattle.wq_words.specs.Rest.{wakes}
pub use Rattle.wq_words.specs.Seen.{seat_of, owner_seat, own, is_ours, Grows, others}
pub use Rattle.wq_words.specs.declared.answer.Answer.{Answer}
pub use Rattle.wq_words.specs.declared.answer.Armed.{Armed}
pub use Rattle.wq_words.specs.declared.answer.Modified.{Modified}
pub use Rattle.wq_words.specs.declared.event.Event.{Event}
pub use Rattle.wq_words.specs.declared.event.Event.TheVariants.{Hold, Busy, Push, Back, Take, Close, Drain, Resume, Begin, End, Chain, ChainBusy, Rest}
pub use Rattle.wq_words.specs.declared.layout.Layout.{Layout}
pub use Rattle.wq_words.proofs.Appended.{count_by-append, accepted-append, begun-append, accepted-count, fresh-more, ended-append}
pub use Rattle.wq_words.proofs.Legal.{legal_next, legal_front, legal_nil}
pub use Rattle.wq_words.proofs.Prefixes.{left_nil, right_nil, prefix_self, prefix_on, prefix_length}
pub use Rattle.wq_words.proofs.Seen.{own-append, own_rest, closed_count, own_one, own_same, begun_same}
pub use Rattle.wq_live.specs.Answers.{Answers, IsPushed, HasMetDrain}
pub use Rattle.wq_live.specs.Batch.{TakesAll, batch, next_of}
pub use Rattle.wq_live.specs.Known.{Known, Sees, QueueId, new_sender, new_owner, new_senders}
pub use Rattle.wq_calls.proofs.Seated.{length-new_senders, get_or-new_senders, made_nothing, one_less, two_less}
pub use Rattle.wq_worker.specs.Follow.{Queues, Follows, passed, pushed, busy, chained, chain_busy}
pub use Rattle.wq_worker.specs.Seats.{Adds, taking, taking_of, NothingWaits, at_take, at_all}
pub use Rattle.wq_worker.specs.State.{WorkerState, Moves}
pub use Rattle.wq_delay.specs.Delay.{DelayState, IsFit, Arms, KeepsTable, IsOut, Cancels, Rearms, ArmsAnew, Modifies, PostsDue}
pub use Rattle.wq_text.specs.declared.command.Command.{Command}
pub use Rattle.wq_meaning.specs.Answer.{answer_text, armed_text, close_text, modified_text}
pub use Rattle.wq_meaning.specs.Arming.{queues_now, arm_events, arm_answer, cancel_events, modify_events, modify_answer, posted_items, advance_events}
pub use Rattle.wq_meaning.specs.Arming.{arm_table, advance_table, post_event, post_events, post_table, post_answer, modify_table}
pub use Rattle.wq_meaning.specs.Commands.{ScriptState, opening_state, state_after, lines, after_row, after_drain, output_from, output_of}
pub use Rattle.wq_meaning.specs.Execution.{follow_of, take_events, follow_events, after_follow, after_run, after_execution, no_follow, after_executions}
pub use Rattle.wq_meaning.specs.Execution.{ended_since, go_on, ends_at, left_in, begin_drain, end_drain}
pub use Rattle.wq_meaning.specs.Names.{row_text, advance_word, left_text}
pub use Rattle.wq_meaning.specs.Queueing.{queue_events, queue_answer, close_events, close_answer, chain_events}
pub use Rattle.wq_meaning.specs.Report.{line, report_text}
pub use Rattle.wq_meaning.proofs.Answers.{arm_given, queue_uncontended, modify_given}
pub use Rattle.wq_meaning.proofs.Meanings.{wrote, advanced, advance_back, advance_on, drained, drain_open, drain_closed}
pub use Rattle.wq_meaning.proofs.Sizes.{advance_few, close_few, executions_few, modify_few, modify_table_few}
pub use Rattle.wq_script.specs.Arming.{GoesWithTable, ArmsAs, CancelsAs, ModifiesAs, IsPosted, IsBackwards}
pub use Rattle.wq_script.specs.Asking.{Asks, Reaches, HasExecuted, HasFollowLists, AsksOf, RunsAs}
pub use Rattle.wq_script.specs.Counting.{Tallied, counted, counted_armed, counted_push, counted_modified, counted_posts}
pub use Rattle.wq_script.specs.Engine.{Meets, Does, size, HasStateWithin}
pub use Rattle.wq_script.specs.Quiet.{Quiet, ListsFit, IsWorkerIdle, ExecutesRow, Executed, ExecutesOne, HasStepped}
pub use Rattle.wq_script.specs.Seats.{Publishes, Seated, StaysSilent, Hears, AllHear, IsSameTable, worker_sender, worker_owner, IsWider, IsAt}
pub use Rattle.wq_script.specs.declared.engine.Engine.{Engine}
pub use Rattle.wq_script.specs.declared.lists.Lists.{Lists}
pub use Rattle.wq_script.specs.declared.seats.Seats.{Seats}
pub use Rattle.wq_script.specs.declared.tally.Tally.{Tally}
