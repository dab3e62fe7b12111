-- The names that several proofs cite, passed on from one place. Declares nothing.
pub use Rattle.std.proofs.Common.{◌≡◌, ℕ, zero, suc, ◌+◌, ◌<◌, ◌≤◌, Bool, true, cond, eqb, ◌≢◌, List, [], ◌∷◌, ◌++◌, map, length, get_or, take, set, replicate}
pub use Rattle.std.proofs.Common.{slice_get, Some, None, vec_len, vec_capacity, MatchBool, All, Option, sym, refl, ap, ◌∙◌, subst, inl, inr}
pub use Rattle.std.proofs.Common.{append_assoc, arith, length-append, length-set, get_or-set_other, get_or-set_same, rules, eq-eqb, ne_eqb}
pub use Rattle.std.proofs.lemmas.List.{map-append, append-nil, length-map, length-replicate, map-id}
pub use Rattle.std.proofs.lemmas.List.Elements.{All-push, All-pop}
pub use Rattle.atomic_table.specs.Table.{step, Allows, rest, State, keeps, takes, gives, Act, Enters, stepped, opening, carried_after, Valid}
pub use Rattle.wq_words.specs.Legal.{IsComplete, IsLegal}
pub use Rattle.wq_ready.specs.Known.{CallerState, IsCallerOf}
pub use Rattle.wq_worker.specs.State.{WorkerState}
pub use Rattle.wq_turn.specs.declared.worker_id.WorkerId.{WorkerId}
pub use Rattle.wq_turn.specs.Drained.{IsDrained}
pub use Rattle.wq_pool.specs.declared.slots.HandedIn.{HandedIn}
pub use Rattle.wq_pool.specs.Known.{SlotsState, TurnState, id_of, turn_id, seen_by, GoesOnAt, PoolState, IsSameTurn}
pub use Rattle.wq_pool.specs.Finish.{AreFirst, AreComplete, LeavesOf, FirstLeft, WasDrainedAt, WereDrained, ComeFromDrains}
pub use Rattle.wq_pool.specs.Finish.{FirstWereDrained, IsLeftTo, HasEndedAt}
pub use Rattle.wq_pool.specs.Finished.{AreFinishedBy, RanToEndBy, ArePartsOf, AreTakenApart, BeginAsHandedIn}
pub use Rattle.wq_pool.specs.Slots.{IsWorkerAt, IsHandedAt, handed_of, KeptSlots, empty_hand, hand_with, SlotSat, picks_up, lays_down, comes_in}
pub use Rattle.wq_pool.specs.Pool.{GoesOnFrom, IsTurnOf}
