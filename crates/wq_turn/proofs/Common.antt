-- The names that several proofs cite, passed on from one place. Declares nothing.
pub use Rattle.std.proofs.Common.{◌≡◌, ℕ, ◌+◌, ◌<◌, ◌≤◌, Bool, true, false, ◌⊎◌, List, [], ◌∷◌, ◌++◌, length, Some, None, Contains, Option}
pub use Rattle.std.proofs.Common.{MatchOption, sym, refl, ap, ◌∙◌, subst, ⊎_elim, append_assoc, add-zero, arith, length-append}
pub use Rattle.std.proofs.lemmas.List.Elements.{Contains-append_left, Contains-append_right, Contains-push, filter_map-append}
pub use Rattle.wq_words.specs.declared.event.Event.{Event}
pub use Rattle.wq_words.specs.declared.event.Event.TheVariants.{Close, End, Rest}
pub use Rattle.wq_words.specs.declared.layout.Layout.{Layout}
pub use Rattle.wq_words.specs.History.{begun, ended, IsClosed, IsShut, IsDraining, IsRunning, ended_by, closed}
pub use Rattle.wq_words.specs.History.{shut}
pub use Rattle.wq_words.specs.Legal.{IsLegal, IsComplete}
pub use Rattle.wq_words.proofs.Closed.{closed_shuts, IsClosed_from_closed}
pub use Rattle.wq_live.specs.Batch.{next_of}
pub use Rattle.wq_live.specs.Rest.{MayNotRest}
pub use Rattle.wq_worker.specs.declared.ran.Ran.{Ran}
pub use Rattle.wq_worker.specs.declared.ran.Ran.TheVariants.{Item, Barrier, Stop, Nothing, Owing}
pub use Rattle.wq_worker.specs.Rows.{IsExecution, ended_by_answer}
pub use Rattle.wq_worker.specs.State.{WorkerState, Moves}
pub use Rattle.wq_worker.specs.Follow.{contended_of}
pub use Rattle.wq_worker.specs.Resting.{rest_events, IsReady, IsUnready, owed, nothing, HasNoneLeft, LeavesWork}
pub use Rattle.wq_worker.specs.Seats.{taking, Adds, NothingWaits, taking_of}
pub use Rattle.wq_worker.proofs.Owned.{owner_of_both, LeavesExecutions, OwnerAdds}
pub use Rattle.wq_turn.specs.declared.runner.Progress.TheVariants.{Ended, Owed, Done}
pub use Rattle.wq_turn.specs.Steps.{Pauses, limited, owes, owed_before, WorksOn, StepRow, still, ready, unready, run, rest, Finishes, rested, completed}
pub use Rattle.wq_turn.specs.Steps.{IsDue, SettlesOne, RunsOne, MakesProgress}
pub use Rattle.wq_turn.specs.StopItem.{HasSeenStop, IsNoted}
pub use Rattle.wq_turn.specs.WorkerId.{worker_id}
