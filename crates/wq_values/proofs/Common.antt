-- What several proofs of this crate cite of std, of specs and of the crates below, passed on from one place.
pub use Rattle.std.proofs.Common.{Bool, IsTrue, List, None, Option, Some, [], ap, append_assoc, arith, length, length-append, map}
pub use Rattle.std.proofs.Common.{not, refl, slice_get, subst, sym, ℕ, ◌++◌, ◌+◌, ◌<◌, ◌∙◌, ◌∷◌, ◌≡◌, ◌≢◌}
pub use Rattle.atomic_table.specs.Seated.{TableId}
pub use mathlib.Core.List.{IsPrefix}
pub use Rattle.wq_core.specs.Machine.{Machine}
pub use Rattle.wq_core.specs.Sound.{IsSound}
pub use Rattle.wq_core.specs.declared.step.Step.TheVariants.{Check}
pub use Rattle.wq_table.proofs.Learns.{learns_meet, learns_more, learns_right, learns_step}
pub use Rattle.wq_table.specs.Beside.{Learns}
pub use Rattle.wq_table.proofs.NewChairs.{seeing}
pub use Rattle.wq_table.specs.Plays.{all_see}
pub use Rattle.wq_table.specs.SlotChairs.{ValueStanding, knowing, part_in, standing_of, value_senders}
pub use Rattle.wq_table.specs.Slots.{plain_view}
pub use Rattle.wq_table.specs.declared.values.ValuePart.{ValuePart}
pub use Rattle.wq_words.proofs.Headlines.{keeps_headline}
pub use Rattle.wq_words.proofs.Ranks.{slice_get-prefix}
pub use Rattle.wq_words.proofs.Running.{runs_some}
pub use Rattle.wq_words.proofs.Seen.{own-append}
pub use Rattle.wq_words.specs.Headline.{KeepsHeadline}
pub use Rattle.wq_words.specs.History.{Holds, IsClosed, IsDraining, IsRunning, IsShut, accepted, begun, ended, pending, running}
pub use Rattle.wq_words.specs.Legal.{IsLegal}
pub use Rattle.wq_words.specs.Numbers.{barrier_number, number_count}
pub use Rattle.wq_words.specs.Seen.{own}
pub use Rattle.wq_words.specs.Valued.{AreBrought, Carries, IsLegalWith, with_values}
pub use Rattle.wq_words.specs.declared.answer.Answer.{Answer}
pub use Rattle.wq_words.specs.declared.event.Event.{Event}
pub use Rattle.wq_words.specs.declared.event.Event.TheVariants.{Begin, Close, Drain, End, Hold, Push, Resume, Take}
pub use Rattle.wq_words.specs.declared.layout.Layout.{Layout}
pub use Rattle.wq_values.specs.Alone.{OwnsValues, SendsValues}
pub use Rattle.wq_calls.specs.Answers.{IsContended, IsPushed}
pub use Rattle.wq_calls.specs.Batch.{batch, next_of}
pub use Rattle.wq_calls.specs.Counts.{sender_counts}
pub use Rattle.wq_calls.specs.Hands.{OwnsSeat, QueuesSlot}
pub use Rattle.wq_calls.specs.Known.{IsSame, Known, Sees, new_senders}
pub use Rattle.wq_calls.specs.KnownWith.{IsBroughtBy, KnownWith, Learnt, answer_of, knowing_nothing}
pub use Rattle.wq_calls.specs.Laws.{queued_number}
pub use Rattle.wq_calls.specs.Pairs.{AreSeated, pair_owner}
pub use Rattle.wq_calls.specs.Rest.{Rests}
pub use Rattle.wq_calls.specs.Sits.{Sends, alone_at, owner_view, owning, sender_view, sending_in}
pub use Rattle.wq_values.specs.ValuePairs.{KnownValuePair, owner_of}
pub use Rattle.wq_calls.specs.Valued.{AreKnown, owner_with, sender_with}
pub use Rattle.wq_calls.specs.declared.owner_seat.OwnerSeat.{OwnerSeat}
pub use Rattle.wq_calls.specs.declared.sent.Sent.{Sent}
