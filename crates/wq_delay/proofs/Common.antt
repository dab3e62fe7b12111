-- The names that several proofs cite, passed on from one place. Declares nothing.
pub use Rattle.std.proofs.Common.{◌≡◌, ℕ, zero, suc, ◌+◌, ◌-◌, ◌*◌, ◌/◌, ◌%◌, ◌<◌, ◌≤◌, min, Bool, true, false, cond, not, ◌&&◌, ◌||◌, eqb, ◌≢◌, List, []}
pub use Rattle.std.proofs.Common.{◌∷◌, ◌++◌, map, length, get_or, take, drop, set, replicate, is_some, IfOk, nat_lt, nat_le, ◌==◌}
pub use Rattle.std.proofs.Common.{slice_index, Some, None, Ok, vec_capacity, All, sum_by, count_by, filter, Option, IsPermutation}
pub use Rattle.std.proofs.Common.{is_lt, Less, Equal, Greater, sym, refl, ap, ◌∙◌, subst, inl, inr, append_assoc, mod-lt, arith}
pub use Rattle.std.proofs.Common.{length-append, get_or-set_other, get_or-set_same, rules}
pub use Rattle.std.proofs.Math.Nat.{mod-add-div', add-mul-mod_self_right, mod-le}
pub use Rattle.std.proofs.lemmas.Bool.{eqb-true}
pub use Rattle.std.proofs.lemmas.Bool.Decides.{nat_tests}
pub use Rattle.std.proofs.lemmas.List.{append-nil, get_or_read, get_or_past, map-append, length-map, take-append-drop, length-set}
pub use Rattle.std.proofs.lemmas.List.Elements.{All-head, All-tail, All-push, All-filter, filter-append, All-nil, All-cons, All-map, All-weaker, All-get_or}
pub use Rattle.std.proofs.lemmas.List.Elements.{All-take}
pub use Rattle.std.proofs.lemmas.List.Sums.{sum_by-cons}
pub use Rattle.std.proofs.lemmas.Map.Steps.{length-le_from_distinct_below}
pub use Rattle.std.proofs.lemmas.Option.{same_Some}
pub use Rattle.std.specs.List.{AllZip, AllByRecursion, list_any, range_with_len}
unfoldable pub use Rattle.std.specs.List.{IsDistinct}
pub use Rattle.wq_words.specs.declared.event.Event.{Event}
pub use Rattle.wq_words.specs.declared.event.Event.TheVariants.{Back, Push, Hold, Busy}
pub use Rattle.wq_words.specs.declared.layout.Layout.{Layout}
pub use Rattle.wq_words.specs.History.{is_push, Holds}
pub use Rattle.wq_words.specs.DelayTable.{Entry, DelayTable, due_part, later_part, without, IsOrdered, on_table, items, IsBefore, placed, AreArmedBefore}
pub use Rattle.wq_words.specs.Legal.{IsLegal}
pub use Rattle.wq_words.proofs.DelayTable.{without_first, due_then_later, first_due_part, first_later_part, all-more, first_on, without_off, on_table-without}
pub use Rattle.wq_words.proofs.DelayTable.{first_false, second_false, ordered-placed, ordered-without, all-placed, all-without, on_table-placed, all_by}
pub use Rattle.wq_words.proofs.DelayTable.{length_placed}
pub use Rattle.wq_live.specs.Known.{Known, Sees}
pub use Rattle.wq_delay.specs.declared.timetable.DuePlace.{DuePlace}
pub use Rattle.wq_delay.specs.declared.timetable.DueItem.{DueItem}
pub use Rattle.wq_delay.specs.Rows.{IsFirstDue, place_in, head_by, number_by, later_than, turn_of, IsWheel, AreOnTable, AreFound, entry_at, entry_of, times}
pub use Rattle.wq_delay.specs.Rows.{place_at, SaysPlace, entries_of, stands, is_due, AreDue, IsTimetable, AreApart, waiting, is_place, IsGathering}
pub use Rattle.wq_delay.proofs.Placing.{place_of, AreRows}
pub use Rattle.wq_delay.specs.Rows.{StillWaits, IsClean, Rows, remaining, RowHasRoom, PutsBehind, row_cmp, AreSorted, AreEarliest, WaitFrom}
pub use Rattle.wq_delay.specs.Delay.{DelayState, IsFit, KeepsTable, TakesOff, IsOut, is_back, MayStay, PostsDue, GivesAllBack, FitsTable}
pub use Rattle.wq_delay.specs.Rings.{AreRings}
