-- What several proofs of this crate cite of std, of specs and of the crates below, passed on from one place.
pub use Rattle.std.proofs.Common.{Bool, List, None, Option, Some, [], ap, arith, cond, eqb, false, get_or, if◌then◌else◌, inl, inr, length}
pub use Rattle.std.proofs.Common.{length-set, map, refl, replicate, rules, set, slice_get, subst, suc, sym, true, zero, ℕ, ⊎_elim, ◌%◌, ◌++◌, ◌+◌}
pub use Rattle.std.proofs.Common.{◌-◌, ◌<◌, ◌==◌, ◌^◌, ◌∙◌, ◌∷◌, ◌≡◌, ◌≢◌, ◌≤◌}
pub use Rattle.std.proofs.lemmas.Bool.{eqb-false, eqb-true}
pub use Rattle.std.proofs.lemmas.List.{append-nil}
pub use Rattle.std.specs.Arc.{arc_value}
pub use Rattle.atomic_table.proofs.Lists.{at_map, at_set, set_else}
pub use Rattle.atomic_table.specs.Seated.{TableId}
pub use Rattle.atomic_table.specs.Table.{State, keeps, takes}
pub use lib.ListN.{get_elem?}
pub use mathlib.Core.List.{IsPrefix}
pub use mathlib.Core.Option.{none, some, some-injective, some-ne-none}
pub use prog.Atomic.{either}
pub use Rattle.wq_core.specs.Machine.{Machine, StandsIn, after, after_begin, after_end, head, item_word, link, nothing_seen, seen_word}
pub use Rattle.wq_core.specs.Sound.{IsSound}
pub use Rattle.wq_core.specs.Words.{done_place, word_count}
pub use Rattle.wq_core.specs.declared.step.Private.{Private}
pub use Rattle.wq_core.specs.declared.step.Step.{Step}
pub use Rattle.wq_core.specs.declared.step.Step.TheVariants.{Back, Begin, Chain, Check, Close, Drain, End, Hold, Link, Push, Rest, Resume, Take, Turn}
pub use Rattle.wq_words.proofs.Prefixes.{prefix_self}
pub use Rattle.wq_words.proofs.Times.{times-append, times-cons}
pub use Rattle.wq_words.specs.Head.{busy_word}
pub use Rattle.wq_words.specs.History.{Holds, accepted, begun}
pub use Rattle.wq_words.specs.Keeper.{Home, Keeper, keeper}
pub use Rattle.wq_words.specs.Numbers.{number_count}
pub use Rattle.wq_words.specs.Seen.{owner_seat}
pub use Rattle.wq_words.specs.Valued.{AreBrought, Carries}
pub use Rattle.wq_words.specs.declared.event.Event.{Event}
pub use Rattle.wq_words.specs.declared.event.Why.{Why}
pub use Rattle.wq_words.specs.declared.layout.Layout.{Layout}
pub use Rattle.wq_table.specs.Chair.{part_at}
pub use Rattle.wq_table.specs.Law.{ArePartsAt, HasPartOf, HasSeenAll, IsPartOf, Kept, View, opening_view, part, row, seat_at, sender_part}
pub use Rattle.wq_table.specs.Places.{besides, chosen}
pub use Rattle.wq_table.specs.Plays.{AllOf, Performs, all_see, see, word_found}
pub use Rattle.wq_table.specs.SlotChairs.{AreSized, ValueSits, ValueStanding, ValueSteps, first_told, standing_of, value_senders, value_standing}
pub use Rattle.wq_table.specs.SlotSteps.{AllTold, GoesBy, Hand, MovesSlot, ValueSat, ValuesSeen}
pub use Rattle.wq_table.specs.Slots.{AllKnow, IsAway, KeptValues, Shelves, Slots, ValueView, front_values, plain, plain_view, rest_values}
pub use Rattle.wq_table.specs.Slots.{taken_times, telling}
pub use Rattle.wq_table.specs.declared.chair.Chair.TheInside.{Inside}
pub use Rattle.wq_table.specs.declared.table.Part.{Part}
pub use Rattle.wq_table.specs.declared.table.Stage.{Stage}
pub use Rattle.wq_table.specs.declared.table.Stage.TheVariants.{Owns, Sends}
pub use Rattle.wq_table.specs.declared.values.ValuePart.{ValuePart}
