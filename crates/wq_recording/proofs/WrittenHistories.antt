-- The text of a history, read back.
use Rattle.wq_recording.proofs.Common.{◌≡◌, ℕ, ◌+◌, Bool, false, List, [], ◌∷◌, ◌++◌, map, All, Option, Some, None, Result, Ok, Err, refl, sym, ap, subst, ◌∙◌}
use Rattle.wq_recording.proofs.Common.{arith, flat_map, option_to_list, append_assoc, append-nil, Layout, FaultKind, ScriptError, Awaited, parts, Verdict, IsLineAt}
use Rattle.std.specs.Prelude.{codes, MatchBool}
use Rattle.std.specs.Fmt.{decimal}
use Rattle.std.proofs.lemmas.List.Elements.{All-nil, All-cons, All-head, All-tail, All-append}
use Rattle.wq_words.specs.declared.event.Event.{Event}
use Rattle.wq_words.specs.Layout.{layout_of_numbers}
use Rattle.wq_words.specs.Legal.{IsLegal}
use Rattle.wq_words.proofs.Legal.{legal_induction}
use Rattle.wq_meaning.specs.Report.{line, count_line}
use Rattle.wq_text.proofs.Limited.{limited_ok}
use Rattle.wq_text.proofs.Texts.{IsReadTo, read_nothing, read_more}
use Rattle.wq_text.specs.declared.fault.FaultKind.TheVariants as kind
use Rattle.wq_text.specs.declared.header.Awaited.TheVariants as awaited
use Rattle.wq_text.specs.Fault.{◌>>=◌, of_one}
use Rattle.wq_text.specs.Header.{awaits, behind_items, header_gives, limited}
use Rattle.wq_recording.specs.declared.line_events.LineEvents.{LineEvents}
use Rattle.wq_recording.specs.Checking.{history_line, trace_line, is_trace, begins_as_trace}
use Rattle.wq_recording.specs.History.{alone, events_of_line, IsEventOf, history_grammar}
use Rattle.wq_recording.specs.HistoryReport.{history_rules}
use Rattle.wq_recording.specs.HistoryText.{event_text, event_lines, history_text}
use Rattle.wq_recording.specs.ReadBack.{IsLegalAsText, IsFoundLegal, IsNeverRefused}
use Rattle.wq_recording.specs.TraceReport.{trace_rules}
use Rattle.wq_recording.specs.Verdict.{HasVerdict, IsRefusedText}
use Rattle.wq_recording.specs.VerdictText.{verdict_of, SaysOf, Finds}
use Rattle.wq_recording.proofs.Fitting.{history_fits}
use Rattle.wq_recording.proofs.FirstLine.{followed, FoundBy}
use Rattle.wq_recording.proofs.LineParts.{HasNoLf, parts_line}
use Rattle.wq_recording.proofs.Reading.{some_part}
use Rattle.wq_recording.proofs.Verdicts.{one_verdict}
use Rattle.wq_recording.proofs.WrittenEvents.{IsWritten, written_event, between_reads}
use Rattle.wq_recording.proofs.WrittenWords.{literal, decimal_word, spaced, spaced_no_lf, spaced_line}

-- a line of the header that names a count
module _ (word : List ℕ) (n : ℕ) where
  abbrev counted : List ℕ
  counted = spaced word (decimal n ∷ [])

module _ (l : Layout) where
  -- the layout as the lines name it, one by one
  abbrev l_items : Layout
  l_items = layout_of_numbers l.items 1 1 (l.in_limits.0, (omega arith, omega arith), (omega arith, omega arith))

  abbrev l_senders : Layout
  l_senders = layout_of_numbers l.items 1 l.senders (l.in_limits.0, (omega arith, omega arith), l.in_limits.2)

  abbrev alone_awaited : Awaited → Awaited × Option LineEvents
  alone_awaited next = (next, None)

  items_line : IsWritten awaited.Items (awaited.Senders l_items) None (counted (codes "items") l.items)
  unfolding awaits header_gives behind_items
  items_line =
      let word = literal (codes "items") refl in
      let number = decimal_word l.items (omega (arith, l.in_limits.0.1)) in (
        spaced_no_lf (codes "items") (decimal l.items ∷ []) word (number, tt),
        spaced_line (codes "items") (decimal l.items ∷ []) word (number, tt) history_grammar awaited.Items (omega arith) refl
            ∙ ap (λ (r : Result ℕ FaultKind). of_one alone_awaited (r >>= λ n. of_one awaited.Senders (limited kind.Items n 1 1)))
            (between_reads kind.Items 1 65536 l.items l.in_limits.0.0 l.in_limits.0.1 (omega arith))
            ∙ ap (λ (r : Result Layout FaultKind). of_one alone_awaited (of_one awaited.Senders r)) (limited_ok kind.Items l_items l.items 1 1 refl refl refl),
      )

  senders_line : IsWritten (awaited.Senders l_items) (awaited.Barriers l_senders) None (counted (codes "senders") l.senders)
  unfolding awaits header_gives
  senders_line =
      let word = literal (codes "senders") refl in
      let number = decimal_word l.senders (omega (arith, l.in_limits.2.1)) in (
        spaced_no_lf (codes "senders") (decimal l.senders ∷ []) word (number, tt),
        spaced_line (codes "senders") (decimal l.senders ∷ []) word (number, tt) history_grammar (awaited.Senders l_items) (omega arith) refl
            ∙ ap (λ (r : Result ℕ FaultKind). of_one alone_awaited (of_one awaited.Barriers (r >>= λ n. limited kind.Senders l.items 1 n)))
            (between_reads kind.Senders 1 64 l.senders l.in_limits.2.0 l.in_limits.2.1 (omega arith))
            ∙ ap (λ (r : Result Layout FaultKind). of_one alone_awaited (of_one awaited.Barriers r))
            (limited_ok kind.Senders l_senders l.items 1 l.senders refl refl refl),
      )

  barriers_line : IsWritten (awaited.Barriers l_senders) (awaited.Commands l) None (counted (codes "barriers") l.barriers)
  unfolding awaits header_gives
  barriers_line =
      let word = literal (codes "barriers") refl in
      let number = decimal_word l.barriers (omega (arith, l.in_limits.1.1)) in (
        spaced_no_lf (codes "barriers") (decimal l.barriers ∷ []) word (number, tt),
        spaced_line (codes "barriers") (decimal l.barriers ∷ []) word (number, tt) history_grammar (awaited.Barriers l_senders) (omega arith) refl
            ∙ ap (λ (r : Result ℕ FaultKind). of_one alone_awaited (of_one awaited.Commands (r >>= λ n. limited kind.Barriers l.items n l.senders)))
            (between_reads kind.Barriers 1 16 l.barriers l.in_limits.1.0 l.in_limits.1.1 (omega arith))
            ∙ ap (λ (r : Result Layout FaultKind). of_one alone_awaited (of_one awaited.Commands r))
            (limited_ok kind.Barriers l l.items l.barriers l.senders refl refl refl),
      )

version_line : IsWritten awaited.Version awaited.Items None (codes "history 1")
version_line = (spaced_no_lf (codes "history") (codes "1" ∷ []) (literal (codes "history") refl) (literal (codes "1") refl, tt), refl)

-- a line further
module _ (text : List ℕ) where
  abbrev Reads : List ℕ → ℕ → Awaited → List LineEvents → Type 0
  Reads rest n s asked = IsReadTo history_line text rest n s asked

  cut : (t rest : List ℕ) → HasNoLf t → parts (line t ++ rest) ≡ t ∷ parts rest
  cut t rest none = ap parts (append_assoc t (10 ∷ []) rest) ∙ parts_line t rest none

  step : (t rest : List ℕ) (n : ℕ) (s next : Awaited) (one : Option LineEvents) (asked : List LineEvents) → IsWritten s next one t
      → Reads (line t ++ rest) n s asked → Reads rest (n + 1) next (asked ++ option_to_list one)
  step t rest n s next one asked written read =
      read_more history_line text (line t ++ rest) t rest n s next asked (asked ++ option_to_list one) one read (cut t rest written.0) written.1 refl

  all_read : (l : Layout) (h : List Event) (n : ℕ) (asked : List LineEvents) → All (IsEventOf l) h → Reads (event_lines l h) n (awaited.Commands l) asked
      → (m : ℕ) × Reads [] m (awaited.Commands l) (asked ++ map alone h)
  all_read l [] n asked of read = (n, subst (λ (a : List LineEvents). Reads [] n (awaited.Commands l) a) (sym (append-nil asked)) read)
  all_read l (e ∷ h) n asked of read =
      let s = awaited.Commands l in
      let one = step (event_text l e) (event_lines l h) n s s (Some (alone e)) asked (written_event l e (All-head (IsEventOf l) e h of)) read in
      let more = all_read l h (n + 1) (asked ++ alone e ∷ []) (All-tail (IsEventOf l) e h of) one in
      (more.0, subst (λ (a : List LineEvents). Reads [] more.0 s a) (append_assoc asked (alone e ∷ []) (map alone h)) more.1)

module _ (l : Layout) (h : List Event) where
  abbrev behind_version : List ℕ
  behind_version =
      line (counted (codes "items") l.items) ++ (line (counted (codes "senders") l.senders)
      ++ (line (counted (codes "barriers") l.barriers) ++ event_lines l h))

  lines_are : history_text l h ≡ line (codes "history 1") ++ behind_version
  unfolding count_line
  lines_are =
      let a = line (counted (codes "items") l.items) in
      let b = line (counted (codes "senders") l.senders) in
      let c = line (counted (codes "barriers") l.barriers) in
      let e = event_lines l h in
      let v = line (codes "history 1") in
      append_assoc (v ++ a ++ b) c e ∙ append_assoc (v ++ a) b (c ++ e) ∙ append_assoc v a (b ++ (c ++ e))

  first_part : parts (history_text l h) ≡ codes "history 1" ∷ parts behind_version
  first_part = ap parts lines_are ∙ cut [] (codes "history 1") behind_version version_line.0

  pub no_trace : is_trace (history_text l h) ≡ false
  no_trace = ap begins_as_trace first_part ∙ followed (codes "history 1") (parts behind_version) (some_part behind_version)

  pub text_told : All (IsEventOf l) h → (n : ℕ) × IsLineAt history_line (history_text l h) n (awaited.Commands l) (map alone h) [] []
  text_told of =
      let text = history_text l h in
      let start = read_nothing history_line text [] refl in
      let P : List ℕ → Type 0 = λ rest. IsReadTo history_line text rest 1 awaited.Version [] in
      let one = step text (codes "history 1") behind_version 1 awaited.Version awaited.Items None [] version_line (subst P lines_are start) in
      let two = step text (counted (codes "items") l.items) _ 2 awaited.Items (awaited.Senders (l_items l)) None [] (items_line l) one in
      let three = step text (counted (codes "senders") l.senders) _ 3 (awaited.Senders (l_items l)) (awaited.Barriers (l_senders l)) None []
      (senders_line l) two in
      let barriers = counted (codes "barriers") l.barriers in
      let four = step text barriers (event_lines l h) 4 (awaited.Barriers (l_senders l)) (awaited.Commands l) None [] (barriers_line l) three in
      let all = all_read text l h 5 [] of four in
      (all.0, record { before = all.1.before; split = all.1.split; leads = all.1.leads; number = all.1.number })

told_again : (h : List Event) → h ≡ flat_map events_of_line (map alone h)
told_again [] = refl
told_again (e ∷ h) = ap (λ g. e ∷ g) (told_again h)

of_layout : (l : Layout) (h : List Event) → IsLegal l h → All (IsEventOf l) h
of_layout l h legal =
    legal_induction l (All (IsEventOf l)) (All-nil (IsEventOf l))
    (λ g e _ allowed so_far. All-append (IsEventOf l) g (e ∷ []) so_far (All-cons (IsEventOf l) e [] (allowed.0, allowed.1) (All-nil (IsEventOf l)))) h legal

pub legal_as_text : IsLegalAsText
legal_as_text l h legal =
    let told = text_told l h (of_layout l h legal) in
    record {
      number = told.0;
      reached = awaited.Commands l;
      asked = map alone h;
      at = told.1;
      whole = refl;
      events_are = told_again h;
      legal = legal;
    }

only_legal : (l : Layout) (h : List Event) → IsLegal l h → (v : Result (Verdict Event) ScriptError)
    → HasVerdict history_line history_rules (history_text l h) v → v ≡ Ok (verdict_of l h None)
only_legal l h legal v has =
    one_verdict history_line history_rules history_fits (history_text l h) v (Ok (verdict_of l h None)) has (legal_as_text l h legal)

pub found_legal : IsFoundLegal
found_legal l h finding legal found =
    let P : Bool → Type 0 = λ b. FoundBy b finding (history_text l h) in
    let f : Finds history_line history_rules (history_text l h) finding = subst P (no_trace l h) found in
    let one = only_legal l h legal (Ok f.verdict) f.has in
    subst (λ (v : Verdict Event). SaysOf history_rules v finding) (same one) f.says
  where
    same : {v w : Verdict Event} → ◌≡◌ {A = Result (Verdict Event) ScriptError} (Ok v) (Ok w) → v ≡ w
    same e = cc

pub never_refused : IsNeverRefused
never_refused l h e legal refused =
    let text = history_text l h in
    let P : Bool → Type 0 = λ b. MatchBool b (IsRefusedText trace_line trace_rules text e) (IsRefusedText history_line history_rules text e) in
    never (only_legal l h legal (Err e) (subst P (no_trace l h) refused))
  where
    never : {v : Verdict Event} → ◌≡◌ {A = Result (Verdict Event) ScriptError} (Err e) (Ok v) → ⊥
    never e = cc
