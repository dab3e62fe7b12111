-- What several proofs of this crate cite of std, of specs and of the crates below, passed on from one place.
pub use Rattle.std.proofs.Common.{Bool, List, MatchOption, None, Option, Some, [], ap, append_assoc, arith, cond, false, if◌then◌else◌, inl, inr, length}
pub use Rattle.std.proofs.Common.{refl, rules, slice_get, subst, sym, take, true, ℕ, ⊎_elim, ◌++◌, ◌<◌, ◌==◌, ◌∙◌, ◌∷◌, ◌≡◌, ◌≤◌}
pub use Rattle.std.proofs.lemmas.Bool.{cases_lt}
pub use Rattle.std.proofs.lemmas.List.{append-nil}
pub use Rattle.wq_ledger.specs.Totals.{own_totals}
pub use Rattle.wq_values.proofs.ValueSends.{learnt_on}
pub use Rattle.wq_values.specs.Answers.{IsContended}
pub use Rattle.wq_values.specs.Batch.{next_of}
pub use Rattle.wq_values.specs.Known.{Sees, new_senders}
pub use Rattle.wq_values.specs.KnownWith.{Learnt, handed_in}
pub use Rattle.wq_values.specs.Pairs.{pair_owner, pair_sender}
pub use Rattle.wq_values.specs.ValuePairs.{KeepsHanded, KnownValuePair, owner_of}
pub use Rattle.wq_words.proofs.Closed.{open_from_shut}
pub use Rattle.wq_words.proofs.Order.{in_order}
pub use Rattle.wq_words.proofs.Prefixes.{prefix_length}
pub use Rattle.wq_words.proofs.Running.{rests_from_running as runs_none, runs_from_running as runs_some}
pub use Rattle.wq_words.specs.History.{IsClosed, IsDraining, IsRunning, IsShut, accepted, begun, running, shut}
pub use Rattle.wq_words.specs.Legal.{HasRunOut, IsComplete, IsLegal}
pub use Rattle.wq_words.specs.Numbers.{number_count}
pub use Rattle.wq_words.specs.Seen.{own, owner_seat}
pub use Rattle.wq_words.specs.declared.event.Event.{Event}
pub use Rattle.wq_words.specs.declared.event.Event.TheVariants.{Begin, Busy, Close, Drain, End, Hold, Push, Resume, Take}
pub use Rattle.wq_words.specs.declared.layout.Layout.{Layout}
pub use Rattle.wq_value_worker.specs.Deals.{BeginsValue, DealsOut, queueing_seat}
pub use Rattle.wq_value_worker.specs.Dealt.{brought_in}
pub use Rattle.wq_worker.specs.Follow.{Follows, contended_of}
pub use Rattle.wq_worker.specs.Pair.{Both, QueuesRest, StaysOr, contended, finished}
pub use Rattle.wq_worker.specs.Resting.{IsReady, IsUnready, rest_events}
pub use Rattle.wq_value_worker.specs.Returned.{GivesBack, MayLeave, numbers_in, pairs_of}
pub use Rattle.wq_worker.specs.Rows.{Resumes, Shuts, drains, reopens, stays_closed}
pub use Rattle.wq_worker.specs.Seats.{Adds, taking}
pub use Rattle.wq_worker.specs.State.{Moves, WorkerState, items_among}
pub use Rattle.wq_worker.specs.Step.{EndsBy, OwesBy, RunsBy}
pub use Rattle.wq_value_worker.specs.ValueState.{AreValueParts, ValueWorkerState, owner_in}
pub use Rattle.wq_worker.specs.declared.ran.Ran.{Ran}
pub use Rattle.wq_worker.specs.declared.ran.Ran.TheVariants.{Barrier, Item, Nothing, Owing, Stop}
