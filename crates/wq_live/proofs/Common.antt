-- What several proofs of this crate cite of std, of specs and of the crates below, passed on from one place.
pub use Rattle.std.proofs.Common.{Bool, List, [], ap, arith, false, length, length-append, not, refl, subst, sym, true, ℕ, ◌++◌, ◌<◌, ◌∙◌}
pub use Rattle.std.proofs.Common.{◌∷◌, ◌≡◌}
pub use Rattle.std.specs.Prelude.{All, IfSome, IsSome, IsTrue, Some, ◌+◌, ◌↔◌, ◌≢◌}
pub use mathlib.Core.List.{IsPrefix}
pub use Rattle.atomic_table.specs.Seated.{TableId}
pub use Rattle.wq_core.specs.Machine.{Machine}
pub use Rattle.wq_core.specs.Sound.{IsSound}
pub use Rattle.wq_table.proofs.Learns.{learns_meet, learns_on, learns_step}
pub use Rattle.wq_table.proofs.ValueRule.{plain_telling}
pub use Rattle.wq_table.specs.Beside.{Learns}
pub use Rattle.wq_table.specs.Plays.{all_see}
pub use Rattle.wq_table.specs.SlotChairs.{ValueStanding, knowing, standing_of, value_senders}
pub use Rattle.wq_table.specs.Slots.{plain_view}
pub use Rattle.wq_words.proofs.Headlines.{keeps_headline}
pub use Rattle.wq_words.specs.Counting.{capped}
pub use Rattle.wq_words.specs.Headline.{KeepsHeadline}
pub use Rattle.wq_words.specs.History.{Holds, IsClosed, IsDraining, IsRunning, IsShut, accepted, begun, ended, pending, running}
pub use Rattle.wq_words.specs.Legal.{HasRunOut, IsComplete, IsLegal}
pub use Rattle.wq_words.specs.Numbers.{barrier_number, number_count}
pub use Rattle.wq_words.specs.Seen.{own, owner_seat}
pub use Rattle.wq_words.specs.declared.answer.Posted.{Posted}
pub use Rattle.wq_words.specs.declared.event.Event.{Event}
pub use Rattle.wq_words.specs.declared.event.Event.TheVariants.{Back, Begin, Close, Drain, End, Hold, Push, Resume, Take}
pub use Rattle.wq_words.specs.declared.layout.Layout.{Layout}
pub use Rattle.wq_calls.specs.Answers.{Answers, Chains, IsContended, IsFinal, IsPushed, Posts}
pub use Rattle.wq_calls.specs.Batch.{batch, next_of}
pub use Rattle.wq_calls.specs.Counts.{sender_counts}
pub use Rattle.wq_calls.specs.Hands.{HoldsSlot, OwnsSeat, PostsSlot}
pub use Rattle.wq_calls.specs.Known.{IsSame, Known, Sees, new_senders}
pub use Rattle.wq_calls.specs.Laws.{queued_number}
pub use Rattle.wq_calls.specs.Pairs.{AreSeated, KnownPair, pair_owner, pair_sender}
pub use Rattle.wq_calls.specs.Rest.{Rests}
pub use Rattle.wq_calls.specs.Sits.{Sends, alone_at, owner_view, owning, sender_view, sending_in}
pub use Rattle.wq_live.specs.declared.bare.Bare.{Bare}
pub use Rattle.wq_calls.specs.declared.owner_seat.OwnerSeat.{OwnerSeat}
pub use Rattle.wq_calls.specs.declared.sent.Sent.{Sent}
