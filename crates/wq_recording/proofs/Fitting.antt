-- The rules of histories and of traces fit their lines.
use Rattle.wq_recording.proofs.Common.{◌≡◌, ℕ, Bool, true, false, List, [], ◌∷◌, Option, Some, None, Result, Ok, Err, sym, ap}
use Rattle.wq_recording.proofs.Common.{Layout, FaultKind, Awaited, Grammar, line_gives, recording_line, none-some}
use Rattle.std.specs.Prelude.{if◌then◌else◌}
use Rattle.std.specs.Str.{bytes_eq}
use Rattle.wq_text.specs.declared.header.Awaited.TheVariants as awaited
use Rattle.wq_text.specs.declared.fault.FaultKind.TheVariants as kind
use Rattle.wq_text.specs.Fault.{◌>>=◌, need, found, of_none, of_one}
use Rattle.wq_text.specs.Header.{is_header, header_line_gives, layout_at}
use Rattle.wq_text.specs.Line.{plain_line_gives, words_give, by_words, asking_line, is_passed_over}
use Rattle.wq_text.specs.Word.{words}
use Rattle.wq_words.proofs.Cases.{same_ok}
use Rattle.wq_words.proofs.Legal.{legal_next}
use Rattle.wq_recording.specs.History.{history_grammar}
use Rattle.wq_recording.specs.HistoryReport.{history_rules}
use Rattle.wq_recording.specs.Trace.{trace_grammar}
use Rattle.wq_recording.specs.TraceReport.{trace_rules}
use Rattle.wq_check.proofs.OneCause.{one_event_cause, one_mark_cause, shown_next}
use Rattle.wq_recording.proofs.Awaiting.{stays, ok_behind_need}
use Rattle.wq_recording.proofs.Verdicts.{AreFit}

-- only behind a whole header is anything asked for
module _ {N A : Type 0} (g : Grammar N A) (s next : Awaited) (a : A) where
  abbrev IsWhole : Type 0
  IsWhole = (l : Layout) × (next ≡ awaited.Commands l)

  abbrev asked : Layout → A → Awaited × Option A
  asked l b = (awaited.Commands l, Some b)

  abbrev alone : Awaited → Awaited × Option A
  alone n = (n, None)

  by_ask : (l : Layout) (r : Result A FaultKind) → of_one (asked l) r ≡ Ok (next, Some a) → IsWhole
  by_ask l (Ok b) e = (l, ap (λ (p : Awaited × Option A). p.0) (sym (same_ok e)))
  by_ask l (Err k) e = cc

  by_layout : (name : N) (w : List ℕ) (ws : List (List ℕ)) (o : Option Layout)
      → (found kind.Header o >>= λ l. of_one (asked l) (g.asks l name w ws)) ≡ Ok (next, Some a) → IsWhole
  by_layout name w ws None e = cc
  by_layout name w ws (Some l) e = by_ask l (g.asks l name w ws) e

  by_name : (w : List ℕ) (ws : List (List ℕ)) (o : Option N)
      → (found kind.Word o >>= λ name. found kind.Header (layout_at s) >>= λ l. of_one (asked l) (g.asks l name w ws)) ≡ Ok (next, Some a)
      → IsWhole
  by_name w ws None e = cc
  by_name w ws (Some name) e = by_layout name w ws (layout_at s) e

  none_asked : (r : Result Awaited FaultKind) → ◌≡◌ {A = Result (Awaited × Option A) FaultKind} (of_one alone r) (Ok (next, Some a)) → ⊥
  none_asked (Ok n) e = absurd (none-some a (ap (λ (z : Awaited × Option A). z.1) (same_ok e)))
  none_asked (Err k) e = cc

  by_first : (w : List ℕ) (ws : List (List ℕ)) (b : Bool)
      → (if b then of_one alone (header_line_gives g.names_seats g.most s w ws) else asking_line g s w ws) ≡ Ok (next, Some a) → IsWhole
  by_first w ws true e = absurd (none_asked (header_line_gives g.names_seats g.most s w ws) e)
  by_first w ws false e = by_name w ws (g.names w ws) e

  asks_words : (ws : List (List ℕ)) → by_words g s ws ≡ Ok (next, Some a) → IsWhole
  asks_words [] e = cc
  asks_words (w ∷ ws) e = by_first w ws (is_header w) e

  asks_plain : (line : List ℕ) (b : Bool) → (if b then Ok (s, None) else plain_line_gives g s line) ≡ Ok (next, Some a) → IsWhole
  unfolding plain_line_gives words_give
  asks_plain line true e = absurd (none-some a (ap (λ (z : Awaited × Option A). z.1) (same_ok e)))
  asks_plain line false e = asks_words (words line) (ok_behind_need kind.Space _ _ _ (ok_behind_need kind.Bytes _ _ _ e))

asks_line : {N A : Type 0} (g : Grammar N A) (s next : Awaited) (a : A) (line : List ℕ) → line_gives g s line ≡ Ok (next, Some a)
    → (l : Layout) × (next ≡ awaited.Commands l)
asks_line {N} {A} g awaited.Version next a line e = absurd (none (need kind.Version (bytes_eq line g.version)) e)
  where
    none : (r : Result (Unit {0}) FaultKind) → ◌≡◌ {A = Result (Awaited × Option A) FaultKind} (of_none (awaited.Items, None) r) (Ok (next, Some a)) → ⊥
    none (Ok n) e = none-some a (ap (λ (z : Awaited × Option A). z.1) (same_ok e))
    none (Err k) e = cc
asks_line g awaited.Items next a line e = asks_plain g awaited.Items next a line (is_passed_over line) e
asks_line g (awaited.Senders l) next a line e = asks_plain g (awaited.Senders l) next a line (is_passed_over line) e
asks_line g (awaited.Barriers l) next a line e = asks_plain g (awaited.Barriers l) next a line (is_passed_over line) e
asks_line g (awaited.Commands l) next a line e = asks_plain g (awaited.Commands l) next a line (is_passed_over line) e

pub history_fits : AreFit (recording_line history_grammar) history_rules
history_fits = record {
  stays = λ l line next one e. stays history_grammar l next one line (ok_behind_need kind.Size _ _ _ e);
  asks = λ s next a line e. asks_line history_grammar s next a line (ok_behind_need kind.Size _ _ _ e);
  uncaused = λ layout h e more c legal cause. cause.0.2 (legal_next layout h e more legal).2;
  one_cause = λ layout h e c d x y. one_event_cause h e c d x.1 y.1;
}

pub trace_fits : AreFit (recording_line trace_grammar) trace_rules
trace_fits = record {
  stays = λ l line next one e. stays trace_grammar l next one line (ok_behind_need kind.Size _ _ _ e);
  asks = λ s next a line e. asks_line trace_grammar s next a line (ok_behind_need kind.Size _ _ _ e);
  uncaused = λ layout t m more c legal cause. cause.1 (shown_next layout t m more legal);
  one_cause = λ layout t m c d x y. one_mark_cause t m c d x.2 y.2;
}
