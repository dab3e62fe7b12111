-- What several proofs of this crate cite of std, of specs and of the crates below, passed on from one place.
pub use Rattle.std.proofs.Common.{Bool, List, MatchOption, None, Option, Some, [], ap, append_assoc, arith, cond, drop, false, inl, inr, length}
pub use Rattle.std.proofs.Common.{length-append, refl, rules, slice_get, subst, sym, take, true, ℕ, ⊎_elim, ◌++◌, ◌+◌, ◌-◌, ◌<◌, ◌==◌, ◌∙◌, ◌∷◌, ◌≡◌, ◌≤◌}
pub use Rattle.std.proofs.Math.ListN.{drop_of_length-le}
pub use Rattle.std.proofs.lemmas.Bool.{cases_lt, or_parts}
pub use Rattle.std.proofs.lemmas.List.{append-nil}
pub use Rattle.std.proofs.lemmas.List.Elements.{filter_map-append}
pub use Rattle.std.specs.Prelude.{count_by}
pub use Rattle.wq_ledger.specs.Totals.{own_totals}
pub use Rattle.wq_calls.proofs.Phases.{is_phase_change}
pub use Rattle.wq_live.specs.Answers.{IsContended}
pub use Rattle.wq_live.specs.Batch.{batch, next_of}
pub use Rattle.wq_live.specs.Known.{Known, Sees}
pub use Rattle.wq_live.specs.Pairs.{KnownPair, pair_owner, pair_sender}
pub use Rattle.wq_words.proofs.Appended.{count_by-append}
pub use Rattle.wq_words.proofs.Closed.{IsShut_from_shut, open_from_shut, shut_from_IsShut}
pub use Rattle.wq_words.proofs.Order.{in_order}
pub use Rattle.wq_words.proofs.Prefixes.{prefix_length}
pub use Rattle.wq_words.proofs.Running.{rests_from_running as runs_none, runs_from_running as runs_some}
pub use Rattle.wq_words.specs.History.{IsClosed, IsDraining, IsRunning, IsShut, accepted, begun, begun_by, ended, running, shut}
pub use Rattle.wq_words.specs.Legal.{HasRunOut, IsComplete, IsLegal}
pub use Rattle.wq_words.specs.Numbers.{number_count}
pub use Rattle.wq_words.specs.Seen.{Grows, is_ours, own, owner_seat, seat_of}
pub use Rattle.wq_words.specs.declared.event.Event.{Event}
pub use Rattle.wq_words.specs.declared.event.Event.TheVariants.{Begin, Busy, Close, Drain, End, Rest, Hold, Push, Resume, Take}
pub use Rattle.wq_words.specs.declared.layout.Layout.{Layout}
pub use Rattle.wq_worker.specs.Follow.{Follows, contended_of}
pub use Rattle.wq_worker.specs.Pair.{Both, QueuesRest, contended, finished}
pub use Rattle.wq_worker.specs.Resting.{IsReady, IsUnready, rest_events}
pub use Rattle.wq_worker.specs.Rows.{IsExecution, Resumes, RowBy, Shuts, drains, more, none, reopens, stays_closed}
pub use Rattle.wq_worker.specs.Seats.{Adds, NothingWaits, taking}
pub use Rattle.wq_worker.specs.State.{Moves, WorkerState, items_among}
pub use Rattle.wq_worker.specs.Step.{EndsBy, OwesBy, RunsBy, owes, stays}
pub use Rattle.wq_worker.specs.declared.ran.Ran.{Ran}
pub use Rattle.wq_worker.specs.declared.ran.Ran.TheVariants.{Barrier, Item, Nothing, Owing, Stop}
