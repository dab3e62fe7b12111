-- What the proofs of this crate cite of the crates below it and of its own definitions.
pub use mathlib.Core.List.{IsPrefix}
pub use Rattle.std.specs.List.{AllByRecursion, range_with_len}
pub use Rattle.std.specs.Prelude.{count_by, All, sum_by, MatchBool, filter}
pub use Rattle.std.specs.declared.thread.PromisedHandle.{PromisedHandle}
pub use Rattle.std.proofs.Common.{◌≡◌, ◌≢◌, ℕ, suc, ◌+◌, ◌-◌, ◌^◌, ◌<◌, ◌≤◌, ◌⊎◌, Bool, true, false, cond, ◌==◌, List, [], ◌∷◌, ◌++◌, length, map, get_or, inl}
pub use Rattle.std.proofs.Common.{inr, refl, sym, ap, ◌∙◌, subst, arith, eq-eqb, ◌*◌, length-append, min, ⊎_elim, zero, append_assoc, nat_lt, take}
pub use Rattle.std.proofs.lemmas.Bool.{eqb-true, cases_lt, lt-ltb, le-ltb, or_parts}
pub use Rattle.std.proofs.lemmas.Iterator.Adapters.{YieldsList-from_vec}
pub use Rattle.std.proofs.lemmas.Iterator.Consumers.{YieldsList-turn, YieldsList-end}
pub use Rattle.std.proofs.lemmas.List.{append-nil, map-append, map-id, get_or_default}
pub use Rattle.std.proofs.lemmas.List.Elements.{filter-append, filter_map-append, All-append, All-cons, All-nil, All-push}
pub use Rattle.std.proofs.lemmas.List.FromFn.{length-range_with_len}
pub use Rattle.std.proofs.lemmas.List.Sums.{count_by-le-length, sum_by-cons, fold_more}
pub use Rattle.wq_words.specs.Counting.{capped, is_queued_by, is_pending_by, is_closed_by, is_draining_by, is_contended_by, is_chain, is_chain_busy}
pub use Rattle.wq_words.specs.History.{IsRunning, IsShut, is_close, is_drain, is_push, accepted, begun, ended, sets_pending, accepted_by, shut, ended_by}
pub use Rattle.wq_words.specs.Legal.{IsLegal, IsComplete, IsAllowed}
pub use Rattle.wq_words.specs.Numbers.{stop_number}
pub use Rattle.wq_words.specs.Seen.{own, owner_seat, Grows, seat_of, is_ours}
pub use Rattle.wq_words.specs.declared.event.Event.{Event}
pub use Rattle.wq_words.specs.declared.event.Event.TheVariants.{Back, Hold, Busy, Push, Close, End, Chain}
pub use Rattle.wq_words.specs.declared.event.Why.{Why}
pub use Rattle.wq_words.specs.declared.layout.Layout.{Layout}
pub use Rattle.wq_words.proofs.Appended.{count_by-append, accepted-count}
pub use Rattle.wq_words.proofs.Counting.{pending_own, closed_own, draining_own, contended_own, chain_own, chain_busy_own}
pub use Rattle.wq_words.proofs.Prefixes.{prefix_on, prefix_whole, prefix_self}
pub use Rattle.wq_words.proofs.Seen.{count_own, own-append, grows_same, closed_count, ended_same, own_between, own_more, none_of, begun_same, count_same}
pub use Rattle.wq_words.proofs.Seen.{running_same}
pub use Rattle.wq_live.specs.Counts.{sender_counts, owner_counts}
pub use Rattle.wq_live.specs.Known.{Known, Sees, QueueId, new_owner, new_sender, new_senders}
pub use Rattle.wq_live.specs.declared.sender.Sender.{Sender}
pub use Rattle.wq_calls.proofs.Seated.{made_nothing, two_less, length-new_senders, get_or-new_senders}
pub use Rattle.wq_ledger.specs.Balance.{largest, AreWhole, AreOwnerWhole, ledgers_of, HasOne, IsFault, IsUnbalanced, of_sender, of_worker}
pub use Rattle.wq_ledger.specs.Book.{LedgerState, BookState, IsLedgerOf}
pub use Rattle.wq_ledger.specs.declared.balance.Unbalanced.{Unbalanced}
pub use Rattle.wq_ledger.proofs.Pushes.{is_queued_below, below_more, below_all, below_none}
pub use Rattle.wq_worker.specs.Follow.{Follows}
pub use Rattle.wq_worker.specs.Seats.{taking}
pub use Rattle.wq_worker.specs.State.{WorkerState, items_among, Moves, IsSameWorker}
pub use Rattle.wq_worker.proofs.Rows.{worker_still, worker_on, moves_same}
pub use Rattle.wq_worker.proofs.State.{items_among-item, items_among-other, quiet_taking}
pub use Rattle.wq_plan.specs.Plan.{IsLayoutOf}
pub use Rattle.wq_plan.specs.declared.plan.Plan.{Plan}
pub use Rattle.wq_race.specs.Outcome.{ledger_of, HasHeard, HasSettled, HasEnded, queueings, TellsOutcome, IsBookAfter, IsWhole, IsTold, HasMet, AllKnown}
pub use Rattle.wq_race.specs.Outcome.{IsKnown, queued_sum}
pub use Rattle.wq_race.specs.Race.{items_at, IsOfStop, HasRaced, HasQueued, tries_in_vain, HasStopped, IsStopAnswer, HasQueuedStop, HasServed, AllQueued}
pub use Rattle.wq_race.specs.Race.{IsQueuer}
pub use Rattle.wq_race.specs.Sends.{RefusesFor, SendsOne, SendsAll, pushed, busy, refused}
pub use Rattle.wq_race.specs.Team.{IsNewTeam}
pub use Rattle.wq_race.specs.declared.run_counter.RunCounter.{RunCounter}
pub use Rattle.wq_race.specs.declared.race.QueuesOwn.{QueuesOwn}
pub use Rattle.wq_race.specs.declared.team.Team.{Team}
