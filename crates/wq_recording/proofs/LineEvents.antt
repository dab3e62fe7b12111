-- The events of a line from its seat and its number.
use Rattle.wq_recording.proofs.Common.{◌≡◌, ℕ, List, Ok, ap}
use Rattle.wq_words.specs.declared.layout.Layout.{Layout}
use Rattle.wq_text.specs.declared.fault.LineError.{LineError}
use Rattle.wq_text.specs.declared.fault.LineError.TheVariants as line_errors
use Rattle.wq_text.specs.Fault.{of_two, LineFailsAs}
use Rattle.wq_recording.specs.declared.history_words.HistoryWord.{HistoryWord}
use Rattle.wq_recording.specs.History.{numbers_give, line_events_of, events_given}

module _ (l : Layout) (t : HistoryWord) (w : List ℕ) (ws : List (List ℕ)) where
  pub events_told : (s k : ℕ) → numbers_give l t w ws ≡ Ok (s, k) → events_given l t w ws ≡ Ok (line_events_of t s k)
  events_told s k gave = ap (of_two (line_events_of t)) gave

  pub events_fail : (e : LineError) → LineFailsAs e (numbers_give l t w ws) → LineFailsAs e (events_given l t w ws)
  events_fail line_errors.Memory failed = tt
  events_fail (line_errors.Fault k) failed = ap (of_two (line_events_of t)) failed
