-- What several proofs of this crate cite of std, of specs and of the crates below, passed on from one place.
pub use Rattle.std.proofs.Common.{Bool, IsTrue, List, MatchBool, None, Option, Some, [], ap, append_assoc, arith, cond, eq-eqb, eqb, false, if◌then◌else◌}
pub use Rattle.std.proofs.Common.{inl, inr, length, length-append, map, ne_eqb, not, refl, slice_get, subst, suc, sym, take, true, unwrap_or, zero, ℕ}
pub use Rattle.std.proofs.Common.{⊎_elim, ◌++◌, ◌+◌, ◌-◌, ◌<◌, ◌==◌, ◌∙◌, ◌∷◌, ◌≡◌, ◌≢◌, ◌≤◌}
pub use Rattle.std.proofs.Math.Seq.{take-length}
pub use Rattle.std.proofs.lemmas.Bool.{eqb-true, false≢true}
pub use Rattle.std.proofs.lemmas.List.{append-nil, nil_from_length}
pub use Rattle.std.proofs.lemmas.List.Elements.{filter_map-append}
pub use Rattle.std.proofs.lemmas.List.Sums.{sum_by-append, sum_by-cons}
pub use Rattle.std.specs.Prelude.{All, count_by}
pub use Rattle.atomic_table.specs.Seated.{TableId}
pub use Rattle.atomic_table.specs.Table.{rest}
pub use mathlib.Core.List.{IsPrefix}
pub use Rattle.wq_core.specs.Machine.{Machine, after, happened, item_word, with_item}
pub use Rattle.wq_core.specs.Sound.{IsSound}
pub use Rattle.wq_core.specs.Words.{closed_word, draining_word, head_at, item_of, link_word, number_at}
pub use Rattle.wq_core.specs.declared.step.Step.{Step}
pub use Rattle.wq_core.specs.declared.step.Step.TheVariants.{Chain, Check, Resume, Turn, Walk}
pub use Rattle.wq_table.proofs.Beside.{beside_queue}
pub use Rattle.wq_table.proofs.Learns.{learns_follow, learns_meet, learns_more, learns_on, learns_or, learns_step, step_or}
pub use Rattle.wq_table.proofs.ValueRule.{plain_telling}
pub use Rattle.wq_table.specs.Beside.{Learns, LearnsOrStays}
pub use Rattle.wq_table.specs.Chair.{IsSender, Standing, Steps}
pub use Rattle.wq_table.proofs.NewChairs.{seeing}
pub use Rattle.wq_table.specs.Law.{HasStage, IsPartOf, seat_at}
pub use Rattle.wq_table.specs.Plays.{Makes, all_see, see, stage_after}
pub use Rattle.wq_table.specs.SlotChairs.{HasValue, ValueStanding, ValueSteps, knowing, part_in, standing_of, value_senders}
pub use Rattle.wq_table.specs.SlotSteps.{Hand}
pub use Rattle.wq_table.specs.Slots.{plain_view}
pub use Rattle.wq_table.specs.declared.table.Part.{Part}
pub use Rattle.wq_table.specs.declared.table.Stage.{Stage}
pub use Rattle.wq_table.specs.declared.table.Stage.TheVariants.{Owns}
pub use Rattle.wq_table.specs.declared.values.ValuePart.{ValuePart}
pub use Rattle.wq_words.proofs.Appended.{accepted-append}
pub use Rattle.wq_words.proofs.Closed.{IsClosed_from_closed, IsShut_from_shut, closed_shuts, open_from_closed, open_from_shut, shut_from_IsShut}
pub use Rattle.wq_words.proofs.Growing.{slice_get_last}
pub use Rattle.wq_words.proofs.Headlines.{keeps_headline}
pub use Rattle.wq_words.proofs.Keepers.{kept}
pub use Rattle.wq_words.proofs.Legal.{legal_front, legal_next}
pub use Rattle.wq_words.proofs.Order.{in_order}
pub use Rattle.wq_words.proofs.Prefixes.{prefix_length}
pub use Rattle.wq_words.proofs.Ranks.{slice_get-prefix}
pub use Rattle.wq_words.proofs.Running.{rests_from_running, runs_from_running, runs_some}
pub use Rattle.wq_words.proofs.Seen.{begun_same, own-append, own_one}
pub use Rattle.wq_words.proofs.ShutOwn.{shut_same}
pub use Rattle.wq_words.proofs.Times.{times, times-append, times-cons, times-first}
pub use Rattle.wq_words.specs.Counting.{capped, is_chain, is_chain_busy}
pub use Rattle.wq_words.specs.Head.{busy_word}
pub use Rattle.wq_words.specs.History.{Holds, IsClosed, IsDraining, IsRunning, IsShut, accepted, accepted_by, begun, begun_by, ended, is_close, pending}
pub use Rattle.wq_words.specs.History.{running}
pub use Rattle.wq_words.specs.Legal.{IsLegal}
pub use Rattle.wq_words.specs.Listed.{listed}
pub use Rattle.wq_words.specs.Numbers.{number_count}
pub use Rattle.wq_words.specs.Seen.{Grows, own, owner_seat, seat_of}
pub use Rattle.wq_words.specs.Valued.{AreBrought, Carries, IsLegalWith, with_values}
pub use Rattle.wq_words.specs.declared.answer.Answer.{Answer}
pub use Rattle.wq_words.specs.declared.answer.Posted.{Posted}
pub use Rattle.wq_words.specs.declared.event.Event.{Event}
pub use Rattle.wq_words.specs.declared.event.Event.TheVariants.{Back, Begin, Busy, ChainBusy, Close, Drain, End, Hold, Push, Take}
pub use Rattle.wq_words.specs.declared.event.Why.{Why}
pub use Rattle.wq_words.specs.declared.layout.Layout.{Layout}
pub use Rattle.wq_calls.specs.Answers.{Answers, HasMetDrain, IsContended, IsPushed, Posts, TestsAndSets}
pub use Rattle.wq_calls.specs.Batch.{TakesAll, batch, next_of}
pub use Rattle.wq_calls.specs.Counts.{sender_counts}
pub use Rattle.wq_calls.specs.Hands.{HasHand, HoldsSlot, IsToBring, OwnsSeat, OwnsSlots, PostsSlot, QueuesSlot, TurnsHands, slot_number}
pub use Rattle.wq_calls.specs.Known.{IsSame, Known, Sees, new_senders}
pub use Rattle.wq_calls.specs.KnownWith.{IsBroughtBy, KnownWith, Learnt, answer_of, knowing_nothing}
pub use Rattle.wq_calls.specs.Pairs.{AreSeated, KnownPair, pair_owner}
pub use Rattle.wq_calls.specs.Rest.{Rests}
pub use Rattle.wq_calls.specs.Row.{IsRowOf, LinksOn, link_in}
pub use Rattle.wq_calls.specs.Sits.{HasBoth, HasRow, OnlySees, Owning, OwnsQueue, Sending, Sends, Stands, alone_at, kept_batch, owner_view, owning, phase}
pub use Rattle.wq_calls.specs.Sits.{sender_view, sending_in, walking}
pub use Rattle.wq_calls.specs.Tries.{Settles}
pub use Rattle.wq_calls.specs.Valued.{AreKnown, owner_with, sender_with}
pub use Rattle.wq_calls.specs.declared.owner_seat.OwnerSeat.{OwnerSeat}
pub use Rattle.wq_calls.specs.declared.owner_seat.Phase.TheVariants.{Open}
pub use Rattle.wq_calls.specs.declared.row.Row.{Row}
pub use Rattle.wq_calls.specs.declared.sent.Sent.{Sent}
