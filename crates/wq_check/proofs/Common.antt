-- What several proofs of this crate cite of std, of specs and of the crates below, passed on from one place.
pub use Rattle.std.proofs.Common.{Bool, List, None, Some, [], ap, arith, cond, drop, false, get_or, inl, inr, is_some, length, length-append, max}
pub use Rattle.std.proofs.Common.{refl, replicate, slice_get, subst, suc, sym, take, true, zero, ℕ, ◌++◌, ◌+◌, ◌-◌, ◌<◌, ◌==◌, ◌↔◌, ◌∙◌, ◌∷◌, ◌≡◌}
pub use Rattle.std.proofs.Common.{◌≢◌, ◌≤◌}
pub use Rattle.std.proofs.lemmas.Bool.{cases_eq, cases_lt, eq-eqb, false≢true, ne_eqb}
pub use Rattle.std.proofs.lemmas.List.{append-nil, drop-drop}
pub use Rattle.std.proofs.lemmas.Option.{slice_get_past, slice_get_within}
pub use Rattle.wq_words.proofs.Growing.{count_by_push, growing, slice_get_append, slice_get_last, take_length}
pub use Rattle.wq_words.proofs.Keepers.{kept, queue_bit}
pub use Rattle.wq_words.proofs.Lists.{all_alike, slice_get-drop}
pub use Rattle.wq_words.proofs.Order.{in_order}
pub use Rattle.wq_words.proofs.Prefixes.{prefix_length}
pub use Rattle.wq_words.proofs.Times.{times, times-append, times-cons}
pub use Rattle.wq_words.specs.History.{IsRunning, accepted, begun, ended, running, unbegun}
pub use Rattle.wq_words.specs.Keeper.{Home, Keeper, Listed, Owner, Sender, keeper}
pub use Rattle.wq_words.specs.Legal.{IsLegal}
pub use Rattle.wq_words.specs.Numbers.{number_count}
pub use Rattle.wq_words.specs.declared.event.Event.{Event}
pub use Rattle.wq_words.specs.declared.event.Event.TheVariants.{Back, Begin, Busy, Chain, ChainBusy, Close, Drain, Hold, Push, Rest, Resume, Take}
pub use Rattle.wq_words.specs.declared.layout.Layout.{Layout}
pub use Rattle.wq_check.specs.Trace.{IsLegalTrace, MayShow, number_of, queued, returned, started, surely_unbegun, unseen}
pub use Rattle.wq_check.specs.declared.mark.Mark.{Mark}
pub use Rattle.wq_check.specs.declared.mark.Mark.TheVariants.{End, Queue, Start}
pub use Rattle.wq_check.specs.declared.queue.Place.TheVariants.{Idle}
