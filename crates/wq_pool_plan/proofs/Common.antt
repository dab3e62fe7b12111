-- What the proofs of this crate cite of the crates below it and of its own definitions.
pub use Rattle.std.proofs.Common.{◌&&◌, vec_len, drop}
pub use Rattle.std.proofs.lemmas.List.{take_all, get_or-map, length-map}
pub use Rattle.std.proofs.lemmas.List.Elements.{All-take, All-drop}
pub use Rattle.wq_words.proofs.Written.{each_more, each_written, rest_written, whole_items}
pub use Rattle.wq_ready.specs.Known.{IsCallerOf}
pub use Rattle.wq_turn.specs.Finished.{IsFinished}
pub use Rattle.wq_turn.specs.WorkerId.{worker_id}
pub use Rattle.wq_turn.specs.declared.worker_id.WorkerId.{WorkerId}
pub use Rattle.wq_pool.specs.Finished.{AreFinished}
pub use Rattle.wq_plan.specs.declared.plan.Plan.{Plan}
pub use Rattle.wq_race.specs.declared.run_counter.RunCounter.{RunCounter}
pub use Rattle.wq_race.specs.declared.outcome.Outcome.{Outcome}
pub use Rattle.wq_race.proofs.Balanced.{whole_counts, AreNumbered, one_ledger, last_ledger, no_fault}
pub use Rattle.wq_race.proofs.Booking.{heard_on, heard_still, heard_one, told_on}
pub use Rattle.wq_race.proofs.Common.{◌≡◌, ℕ, ◌+◌, ◌*◌, ◌≤◌, Bool, false, List, [], ◌∷◌, length, ap, ◌∙◌, arith, length-append, count_by, Event}
pub use Rattle.wq_race.proofs.Common.{capped, SendsAll, zero, suc, ◌^◌, ◌<◌, true}
pub use Rattle.wq_race.proofs.Common.{◌++◌, take, get_or, refl, sym, subst, All, MatchBool, AllByRecursion, eqb-true, length-range_with_len, fold_more, Layout}
pub use Rattle.wq_race.proofs.Common.{is_queued_by, is_chain, IsLegal, IsComplete, own, own-append, own_between, sender_counts, Known, Unbalanced, BookState}
pub use Rattle.wq_race.proofs.Common.{IsLedgerOf, items_among, HasHeard, AllKnown, IsTold, queued_sum, items_at, IsOfStop, is_push, accepted, ended}
pub use Rattle.wq_race.proofs.Common.{count_by-le-length, inl, inr, cases_lt, new_sender, get_or-new_senders, WorkerState, IsLayoutOf, IsNewTeam, map}
pub use Rattle.wq_race.proofs.Common.{HasQueuedStop, IsQueuer, ◌-◌, IsKnown, get_or_default, YieldsList-from_vec, YieldsList-turn, PromisedHandle, AllQueued}
pub use Rattle.wq_race.proofs.Common.{HasQueued, range_with_len, length-new_senders, ◌≢◌, LedgerState, ledger_of, AreWhole, HasOne, of_sender, of_worker}
pub use Rattle.wq_race.proofs.Ended.{all_front, all_ended}
pub use Rattle.wq_race.proofs.Queueing.{queued_none, queued_next}
pub use Rattle.wq_race.proofs.Running.{own_room, own-first, queuer, untouched_idle, untouched_open}
pub use Rattle.wq_pool_plan.specs.Race.{IsSent, AreCallersOf, MayRun, AllGroupsQueued, AllStopped, AllSent}
pub use Rattle.wq_pool_plan.specs.Teams.{AreDealt, AreTeams, AreTurned}
pub use Rattle.wq_pool_plan.specs.declared.race.QueuesGroup.{QueuesGroup}
pub use Rattle.wq_pool_plan.specs.declared.teams.Group.{Group}
pub use Rattle.wq_pool_plan.specs.declared.teams.Teams.{Teams}
