-- The names that several proofs cite, passed on from one place. Declares nothing.
pub use Rattle.std.proofs.Common.{◌≡◌, ℕ, zero, suc, ◌+◌, ◌-◌, ◌<◌, ◌≤◌, Bool, cond, eqb, ◌≢◌, List, [], ◌∷◌, ◌++◌, length, take, drop, set, slice_get, Some}
pub use Rattle.std.proofs.Common.{All, sym, refl, ap, ◌∙◌, subst, inl, inr, append_assoc, arith, length-append, length-set, take-append-drop, eq-eqb, ne_eqb}
pub use Rattle.std.proofs.lemmas.List.{append-nil}
pub use mathlib.Core.List.{IsPrefix}
pub use Rattle.crossbeam_queue.specs.Passes.{view, IsPassOf}
pub use Rattle.wq_words.proofs.Prefixes.{prefix_self, prefix_append, prefix_step, nothing_more}
pub use Rattle.wq_ready.specs.declared.size.Size.{Size}
pub use Rattle.wq_ready.specs.declared.event.ReadyEvent.{ReadyEvent}
pub use Rattle.wq_ready.specs.declared.event.ReadyEvent.TheVariants.{Announce, Pick}
pub use Rattle.wq_ready.specs.Known.{Identity, IsCallerOf, new_caller, new_callers, CallerState, CouldBe}
pub use Rattle.wq_ready.specs.History.{caller_of, announced, picked, announced_by, picked_by, IsFull, IsEmpty}
pub use Rattle.wq_ready.specs.Legal.{IsReadyAllowed, IsReadyLegal}
pub use Rattle.wq_ready.specs.Seen.{own_ready, GrowsReady}
pub use Rattle.wq_ready.specs.Rule.{ready_part, all_callers, no_caller, KeptReady}
pub use Rattle.wq_ready.specs.Order.{IsPickOf, EachPickHasAnnounce, ArePickedInOrder, KeepsOrder}
