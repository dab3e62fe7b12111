-- What several proofs of this crate cite of std, of specs and of the crates below, passed on from one place.
pub use Rattle.std.proofs.Common.{unwrap_or, ◌%◌, ◌^◌, length-set, replicate, ⊎_elim}
pub use Rattle.std.proofs.lemmas.Bool.{eqb-false, cases_eq, lt-ltb, le-ltb}
pub use Rattle.std.proofs.lemmas.Grind.{reverse_onto}
pub use Rattle.std.proofs.lemmas.List.{length-replicate}
pub use mathlib.Core.List.{reverse_aux}
pub use Rattle.wq_words.specs.Head.{IsWordOf, IsCodable}
pub use Rattle.wq_words.specs.Listed.{listed_after, listed}
pub use Rattle.wq_words.specs.Rest.{is_rest, is_work, wakes}
pub use Rattle.wq_words.specs.declared.event.Event.{Event}
pub use Rattle.wq_words.specs.declared.event.Event.TheVariants.{Push, Chain, Take, Close, Drain, Resume, Begin, End, ChainBusy, Rest, Hold, Back, Busy}
pub use Rattle.wq_words.specs.declared.event.Why.{Why}
pub use Rattle.wq_words.specs.declared.event.Why.TheVariants.{Closed, Draining}
pub use Rattle.wq_words.specs.declared.head.Head.TheVariants.{Empty, Item}
pub use Rattle.wq_words.specs.declared.layout.Layout.{Layout}
pub use Rattle.wq_words.proofs.Closed.{closed_from_IsClosed, closed_from_open, IsClosed_from_closed, open_from_closed, closed_push_no, cause_stays}
pub use Rattle.wq_words.proofs.Closed.{closed_shuts, shut_from_IsShut, shut_from_open, IsShut_from_shut, open_from_shut, shut_quiet, shut_drain, shut_resume}
pub use Rattle.wq_words.proofs.Drains.{has_drained, at_work_draining}
pub use Rattle.wq_words.proofs.Common.{◌≡◌, ◌≢◌, ℕ, ◌+◌, ◌<◌, ◌==◌, Bool, true, false, List, [], ◌∷◌, ◌++◌, length, get_or, set, Option, Some, None}
pub use Rattle.wq_words.proofs.Common.{slice_get, refl, sym, ap, ◌∙◌, arith, append_assoc, reverse, ◌≤◌, inl, inr, if◌then◌else◌, nat_lt, take, ◌-◌}
pub use Rattle.wq_words.proofs.Common.{length-append, ◌↔◌, drop, append-nil, get_or-set_other, get_or-set_same, length_push}
pub use Rattle.wq_words.proofs.Common.{length-reverse, take_at, drop_at, fold_push, eqb-true, eq-eqb}
pub use Rattle.wq_words.proofs.Common.{ne_eqb, head_word, busy_word, number_count, ended, ended_by, closed, is_close, is_drain, is_resume, IsClosed, shut}
pub use Rattle.wq_words.proofs.Common.{IsShut, IsDraining, IsCause, accepted, begun, accepted_by, begun_by, pending, Holds, IsPending, IsRunning}
pub use Rattle.wq_words.proofs.Common.{running, taken, first, IsAllowed, IsLegal, Keeper, Home, Sender, Listed, Owner, keeper_after, keeper, taken_over}
pub use Rattle.wq_words.proofs.Common.{slice_get-get_or, ◌⊎◌, subst}
pub use Rattle.wq_words.proofs.Growing.{slice_get_last, filter_map_push_none, growing, count_by_push, filter_map_push_some, slice_get_append}
pub use Rattle.wq_words.proofs.Keepers.{pending_bit, kept, home_from_bit, sender_from_bit}
pub use Rattle.wq_words.proofs.Legal.{legal_push, legal_nil}
pub use Rattle.wq_words.proofs.Listed.{listed-shut, length-accepted, fresh-open}
pub use Rattle.wq_words.proofs.Order.{in_order}
pub use Rattle.wq_words.proofs.Prefixes.{prefix_length}
pub use Rattle.wq_words.proofs.Rest.{wakes_quiet, wakes_push_work, wakes_push_rest}
pub use Rattle.wq_core.specs.Machine.{nothing_seen, HasSeenOpen, HasSeenCause, after_swap, Machine, head, item_word, done_word, private, happened}
pub use Rattle.wq_core.specs.Machine.{link, with_head, with_item, with_done, other_than, unlinked, opening, seen_word, after_walk, after_begin, after_end}
pub use Rattle.wq_core.specs.Machine.{after, with_link, with_private, StandsIn, reply_to}
pub use Rattle.wq_core.specs.Made.{IsMade}
pub use Rattle.wq_core.specs.Sound.{head_of_list, IsChain, AreChained, head_of, marked, head_word_of, IsSound}
pub use Rattle.wq_core.specs.Words.{link_place, number_at, word_at, item_place, done_place, head_place, closed_word, link_word, link_to, word_count}
pub use Rattle.wq_core.specs.Words.{draining_word, TakesPushes, item_of, resting_word, said_at, head_at}
pub use Rattle.wq_core.specs.declared.step.Private.{Private}
pub use Rattle.wq_core.specs.declared.step.Step.{Step}
pub use Rattle.wq_core.specs.declared.step.Step.TheVariants.{Look, Link, Check, Walk, Turn}
