-- What several proofs of this crate cite of std, of specs and of the crates below, passed on from one place.
pub use Rattle.std.proofs.Common.{◌≡◌, ℕ, suc, ◌+◌, ◌-◌, ◌≤◌, Bool, true, false, cond, not, List, [], ◌∷◌, ◌++◌, length, drop, refl, sym, ap, ◌∙◌, arith}
pub use Rattle.std.proofs.Common.{count_by, reverse, take, get_or, ◌<◌, inl, inr, take-append-drop, drop-cons, nat_lt, eqb, ◌==◌, ◌||◌, ◌&&◌, zero, None, Some}
pub use Rattle.std.proofs.Common.{Option, slice_get, ◌⊎◌, ◌≢◌, eq-eqb, if◌then◌else◌, add-zero, subst, append_assoc, length-append, ◌↔◌, ne_eqb, set, rules}
pub use Rattle.std.proofs.lemmas.Bool.{cases_lt, eqb-true, and_parts}
pub use Rattle.std.proofs.lemmas.Bool.Decides.{nat_tests}
pub use Rattle.std.proofs.lemmas.Iterator.{YieldsList-from_slice}
pub use Rattle.std.proofs.lemmas.Iterator.Consumers.{YieldsList-from_filter_map}
pub use Rattle.std.proofs.lemmas.List.{length-reverse, append-nil, take_more, take-take, take_all, length-take, length_push, take-append-le}
pub use Rattle.std.proofs.lemmas.List.{reverse-append, drop-append-le, drop_all, drop_at, take_at, get_or-set_other, get_or-set_same, get_or_default}
pub use Rattle.std.proofs.lemmas.List.Elements.{filter_map-append, filter-append}
pub use Rattle.std.proofs.lemmas.List.Sums.{sum_by-append, sum_by-cons, sum_by_push, fold_push, suffix_len-le-length}
pub use Rattle.std.proofs.lemmas.List.Sums.{count_by_more_yes, sum_by-take-le}
pub use Rattle.std.proofs.lemmas.Option.{slice_get_within, get_or_from_slice_get, slice_get-get_or, slice_get_past}
pub use Rattle.std.specs.List.{after_last, before_last, prefix_len, AllByRecursion, filter_map, suffix_len}
pub use Rattle.std.specs.Prelude.{nat_le, filter}
pub use mathlib.Core.List.{IsPrefix}
pub use Rattle.wq_words.specs.Armed.{armed_of, modified_of}
pub use Rattle.wq_words.specs.Counting.{is_chain, is_queued_by, is_pending_by, is_closed_by, is_draining_by, is_contended_by, is_chain_busy}
pub use Rattle.wq_words.specs.DelayTable.{DelayTable, is_too_far, table_with, table_without, table_at}
pub use Rattle.wq_words.specs.Head.{head_word, busy_word}
pub use Rattle.wq_words.specs.History.{accepted, accepted_by, begun, begun_by, ended, ended_by, fresh, is_push, is_cut, is_close, IsClosed, closed, is_drain}
pub use Rattle.wq_words.specs.History.{is_resume, shuts, shut, IsShut, IsDraining, HasDrained, starts_hold, stops_hold, IsPending, Holds, sets_pending}
pub use Rattle.wq_words.specs.History.{clears_pending, taken, IsRunning, running, pending, first}
pub use Rattle.wq_words.specs.Keeper.{Keeper, Home, Sender, Listed, Owner, keeper, taken_over, Keeps, keeper_after}
pub use Rattle.wq_words.specs.Legal.{IsAllowed, IsLegal, HasRunOut, IsCause, MayFollow}
pub use Rattle.wq_words.specs.Numbers.{number_count}
pub use Rattle.wq_words.specs.Seen.{owner_seat, seat_of, own, others, is_ours, Grows}
pub use Rattle.wq_words.specs.declared.event.Event.{Event}
pub use Rattle.wq_words.specs.declared.event.Event.TheVariants.{Hold, Busy, Push, Back, Take, Close, Drain, Resume, Begin, End, Chain, ChainBusy, Rest}
pub use Rattle.wq_words.specs.declared.layout.Layout.{Layout}
