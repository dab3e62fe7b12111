-- What several proofs of this crate cite of std, of specs and of the crates below, passed on from one place.
pub use Rattle.std.proofs.Common.{tests, IfSome}
pub use Rattle.std.proofs.lemmas.Bool.{false≢true}
pub use Rattle.std.proofs.lemmas.Grind.{common_steps}
pub use Rattle.std.proofs.lemmas.Result.{MatchResult-from_err}
pub use Rattle.std.proofs.lemmas.Iterator.Adapters.{items_from_extend}
pub use Rattle.wq_words.proofs.Common.{rules, take_more, reverse-append, take_all, slice_get_past, YieldsList-from_slice, YieldsList-from_filter_map}
pub use Rattle.wq_core.specs.Machine.{MaySwap}
pub use Rattle.wq_words.specs.declared.event.Event.{Event}
pub use Rattle.wq_words.specs.declared.event.Event.TheVariants.{Push, Chain, Take, Close, Drain, Resume, Begin, End, ChainBusy, Rest, Hold, Back, Busy}
pub use Rattle.wq_words.specs.declared.event.Why.{Why}
pub use Rattle.wq_words.specs.declared.layout.Layout.{Layout}
pub use Rattle.wq_core.specs.declared.step.Private.{Private}
pub use Rattle.wq_core.specs.declared.step.Step.{Step}
pub use Rattle.wq_core.proofs.Common.{eq-eqb, ◌%◌, ◌^◌, length-set, replicate, ⊎_elim, cases_eq, length-replicate, listed, ◌≡◌, ◌≢◌, ℕ, ◌+◌, ◌<◌, List, [], ◌∷◌}
pub use Rattle.wq_core.proofs.Common.{◌++◌, length, get_or, set, Option, Some, None, refl, sym, ap, ◌∙◌, arith, reverse, ◌≤◌, inl, inr, take, ◌-◌}
pub use Rattle.wq_core.proofs.Common.{length-append, ◌↔◌, get_or-set_other, get_or-set_same, busy_word, number_count, ended, IsShut, begun, accepted_by}
pub use Rattle.wq_core.proofs.Common.{begun_by, Holds, IsRunning, running, IsLegal, Keeper, Home, Sender, Listed, Owner, keeper_after, keeper, taken_over}
pub use Rattle.wq_core.proofs.Common.{slice_get-get_or, slice_get_last, growing, in_order, prefix_length, nothing_seen, HasSeenCause, after_swap, Machine}
pub use Rattle.wq_core.proofs.Common.{head, item_word, done_word, private, happened, link, with_head, with_item, with_done, unlinked, opening, seen_word}
pub use Rattle.wq_core.proofs.Common.{after, with_link, with_private, StandsIn, IsMade, IsChain, IsSound, link_place}
pub use Rattle.wq_core.proofs.Common.{number_at, word_at, item_place, done_place, head_place, link_word, link_to, word_count, TakesPushes, resting_word}
pub use Rattle.wq_machine.specs.Refusal.{IsRefused}
pub use Rattle.wq_machine.specs.Schedule.{Leads, Leaves, StopsAt}
pub use Rattle.wq_machine.specs.Stored.{LinksFit, LooksFit, holder, IsStored}
