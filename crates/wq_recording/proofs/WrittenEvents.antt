-- The line of an event, read back.
use Rattle.wq_recording.proofs.Common.{◌≡◌, ℕ, ◌-◌, ◌<◌, ◌≤◌, Bool, true, false, List, [], ◌∷◌, ◌++◌, length, Option, Some, None, Result, Ok, refl, sym, ap, subst, ◌∙◌}
use Rattle.wq_recording.proofs.Common.{arith, nat_le, nat_lt, append_assoc, Layout, FaultKind, Awaited}
use Rattle.std.specs.Prelude.{◌&&◌, codes, if◌then◌else◌, option_map}
use Rattle.std.specs.Fmt.{decimal}
use Rattle.std.specs.Str.{all_ascii_digits, bytes_eq}
use Rattle.std.proofs.Common.{ne_eqb}
use Rattle.std.proofs.lemmas.Bool.{and_parts, and_from, leb-true, le-leb, lt-ltb, ltb-true, ltb-false, false_from_ne_true, true≢false}
use Rattle.std.proofs.lemmas.Slice.Eq.{bytes_eq-Decides}
use Rattle.wq_words.specs.declared.event.Event.{Event}
use Rattle.wq_words.specs.declared.event.Event.TheVariants as event
use Rattle.wq_words.specs.declared.event.Why.{Why}
use Rattle.wq_words.specs.declared.event.Why.TheVariants as why
use Rattle.wq_words.specs.Numbers.{number_count, stop_number, barrier_number}
use Rattle.wq_meaning.specs.Names.{name_of, named}
use Rattle.wq_meaning.specs.Replies.{why_text}
use Rattle.wq_text.proofs.Decimal.{reads_decimals}
use Rattle.wq_text.specs.declared.fault.FaultKind.TheVariants as kind
use Rattle.wq_text.specs.declared.header.Awaited.TheVariants as awaited
use Rattle.wq_text.specs.Arguments.{below, between, item}
use Rattle.wq_text.specs.Fault.{◌>>=◌, need, found, of_one, of_two}
use Rattle.wq_text.specs.Header.{is_header, header_line_gives}
use Rattle.wq_text.specs.Line.{asking_line}
use Rattle.wq_text.specs.Turn.{number_of_queue, barrier_or_item, after_b, seat_and_number, nth_word, why_at, cause_at}
use Rattle.wq_text.specs.Word.{spelled_number, without_first}
use Rattle.wq_recording.specs.declared.line_events.LineEvents.{LineEvents}
use Rattle.wq_recording.specs.declared.history_words.HistoryWord.{HistoryWord}
use Rattle.wq_recording.specs.declared.history_words.HistoryWord.TheVariants as history_word
use Rattle.wq_recording.specs.Checking.{history_line}
use Rattle.wq_recording.specs.History.{alone, IsEventOf, owners_word, senders_word, history_word_at, numbers_give, line_events_of, events_given, history_grammar}
use Rattle.wq_recording.specs.HistoryText.{event_text, sender_text}
use Rattle.wq_recording.proofs.LineParts.{HasNoLf}
use Rattle.wq_recording.proofs.WrittenWords.{IsShortWord, AreShortWords, literal, all_digits, few_digits, decimal_word, spaced, spaced_no_lf, spaced_line}

-- a decimal is read as its number, and is no other word
spelled : (n : ℕ) → n < 1000000 → spelled_number (decimal n) ≡ Some n
spelled n small = (reads_decimals (decimal n) n).1 (refl, omega (arith, small))

pub no_digits : (n : ℕ) (w : List ℕ) → n < 1000000 → all_ascii_digits w ≡ false → bytes_eq (decimal n) w ≡ false
no_digits n w small none =
    false_from_ne_true (bytes_eq (decimal n) w)
    (λ same. true≢false (sym (all_digits n small) ∙ ap all_ascii_digits ((bytes_eq-Decides (decimal n) w).0 same) ∙ none))

below_reads : (k : FaultKind) (bound n : ℕ) → n < bound → bound < 1000000 → below k bound (decimal n) ≡ Ok n
unfolding below
below_reads k bound n lt small =
    ap (λ (o : Option ℕ). found kind.Number o >>= λ m. need k (nat_lt m bound) >>= λ _. Ok m) (spelled n (omega (arith, lt, small)))
    ∙ ap (λ b. need k b >>= λ _. Ok n) (lt-ltb n bound lt)

pub between_reads : (k : FaultKind) (low high n : ℕ) → low ≤ n → n ≤ high → high < 1000000 → between k low high (decimal n) ≡ Ok n
unfolding between
between_reads k low high n above le small =
    ap (λ (o : Option ℕ). found kind.Number o >>= λ m. need k (nat_le low m && nat_le m high) >>= λ _. Ok m) (spelled n (omega (arith, le, small)))
    ∙ ap (λ b. need k b >>= λ _. Ok n) (and_from (nat_le low n) (nat_le n high) (le-leb low n above) (le-leb n high le))

no_b : (ds : List ℕ) → all_ascii_digits ds ≡ true → after_b ds ≡ None
no_b [] e = refl
no_b (d ∷ ds) e =
    let le = leb-true d 57 (and_parts (nat_le 48 d) (nat_le d 57) (and_parts (nat_le 48 d && nat_le d 57) (all_ascii_digits ds) e).0).1 in
    ap (λ b. if b then Some ds else None) (ne_eqb d 98 (λ same. omega (arith, le, same)))

-- the name of a number is a word, and is read as that number
module _ (l : Layout) (k : ℕ) where
  abbrev pub IsNamedBy : List ℕ → Type 0
  IsNamedBy w = IsShortWord w × (number_of_queue l w ≡ Ok k)

  item_named : k < l.items → IsNamedBy (decimal k)
  unfolding number_of_queue
  item_named lt =
      let small : k < 1000000 = omega (arith, lt, l.in_limits.0.1) in (
        decimal_word k small,
        ap (λ b. if b then Ok (stop_number l) else barrier_or_item l (decimal k) (after_b (decimal k))) (no_digits k (codes "stop") small refl)
            ∙ ap (λ o. barrier_or_item l (decimal k) o) (no_b (decimal k) (all_digits k small))
            ∙ below_reads kind.Item l.items k lt (omega (arith, l.in_limits.0.1)),
      )

  barrier_named : l.items ≤ k → k < stop_number l → IsNamedBy (codes "b" ++ decimal (k - l.items))
  unfolding number_of_queue
  barrier_named le lt =
      let b = k - l.items in
      let bound : b < l.barriers = omega (arith, le, lt) in
      let small : b < 1000000 = omega (arith, bound, l.in_limits.1.1) in
      let word = decimal_word b small in (
        record { some = omega (arith, word.some); few = omega (arith, few_digits b small); signs = word.signs },
        ap (of_one (barrier_number l)) (below_reads kind.Barrier l.barriers b bound (omega (arith, l.in_limits.1.1)))
            ∙ ap (λ (n : ℕ). Ok n) (omega (arith, le)),
      )

  stop_named : ¬ (k < stop_number l) → k < number_count l → IsNamedBy (codes "stop")
  unfolding number_of_queue
  stop_named not lt = (literal (codes "stop") refl, ap (λ (n : ℕ). Ok n) (omega (arith, not, lt)))

  pub named_number : k < number_count l → IsNamedBy (name_of l k)
  named_number lt = by_item (nat_lt k l.items) refl
    where
      by_stop : (b : Bool) → nat_lt k (stop_number l) ≡ b → l.items ≤ k
          → IsNamedBy (if b then codes "b" ++ decimal (k - l.items) else codes "stop")
      by_stop true e le = barrier_named le (ltb-true k (stop_number l) e)
      by_stop false e le = stop_named (λ below. omega (arith, ltb-false k (stop_number l) e, below)) lt

      by_item : (b : Bool) → nat_lt k l.items ≡ b
          → IsNamedBy (if b then decimal k else if nat_lt k (stop_number l) then codes "b" ++ decimal (k - l.items) else codes "stop")
      by_item true e = item_named (ltb-true k l.items e)
      by_item false e = by_stop (nat_lt k (stop_number l)) refl (omega (arith, ltb-false k l.items e))

  -- an item is named by its decimal
  pub named_item : k < l.items → IsShortWord (name_of l k) × (item l (name_of l k) ≡ Ok k)
  named_item lt =
      let P : List ℕ → Type 0 = λ w. IsShortWord w × (item l w ≡ Ok k) in
      let other = if nat_lt k (stop_number l) then codes "b" ++ decimal (k - l.items) else codes "stop" in
      subst P (sym (ap (λ b. if b then decimal k else other) (lt-ltb k l.items lt)))
      (decimal_word k (omega (arith, lt, l.in_limits.0.1)), below_reads kind.Item l.items k lt (omega (arith, l.in_limits.0.1)))

-- a line that holds no LF, and what it gives
abbrev pub IsWritten : Awaited → Awaited → Option LineEvents → List ℕ → Type 0
IsWritten s next one t = HasNoLf t × (history_line s t ≡ Ok (next, one))

module _ (l : Layout) where
  abbrev IsLineOf : List ℕ → Event → Type 0
  IsLineOf t e = IsWritten (awaited.Commands l) (awaited.Commands l) (Some (alone e)) t

  abbrev asked : LineEvents → Awaited × Option LineEvents
  asked one = (awaited.Commands l, Some one)

  line_tells : (w : List ℕ) (ws : List (List ℕ)) (t : HistoryWord) (e : Event) → IsShortWord w → AreShortWords ws → length ws ≤ 3
      → is_header w ≡ false → history_word_at w ws ≡ Some t → events_given l t w (without_first ws) ≡ Ok (alone e) → IsLineOf (spaced w ws) e
  line_tells w ws t e short all few first name gives = (
    spaced_no_lf w ws short all,
    spaced_line w ws short all history_grammar (awaited.Commands l) few refl
        ∙ ap
        (λ b. if b then of_one (λ (next : Awaited). (next, None)) (header_line_gives history_grammar.names_seats history_grammar.most (awaited.Commands l) w ws)
        else asking_line history_grammar (awaited.Commands l) w ws) first
        ∙ ap (λ (o : Option HistoryWord). found kind.Word o >>= λ n. of_one asked (events_given l n w (without_first ws))) name
        ∙ ap (of_one asked) gives,
  )

  owner_tells : (ws : List (List ℕ)) (t : HistoryWord) (e : Event) → AreShortWords ws → length ws ≤ 3
      → history_word_at (codes "o") ws ≡ Some t → events_given l t (codes "o") (without_first ws) ≡ Ok (alone e) → IsLineOf (spaced (codes "o") ws) e
  owner_tells ws t e all few name gives = line_tells (codes "o") ws t e (literal (codes "o") refl) all few refl name gives

  module _ (s k : ℕ) (seat : s < l.senders) (lt : k < number_count l) where
    small : s < 1000000
    small = omega (arith, seat, l.in_limits.2.1)

    seat_read : seat_and_number l (decimal s) (name_of l k ∷ []) ≡ Ok (s, k)
    seat_read =
        ap (λ (r : Result ℕ FaultKind). r >>= λ n. number_of_queue l (name_of l k) >>= λ m. Ok (n, m))
        (below_reads kind.Sender l.senders s seat (omega (arith, l.in_limits.2.1)))
        ∙ ap (λ (r : Result ℕ FaultKind). r >>= λ m. Ok (s, m)) (named_number l k lt).1

    not_header : is_header (decimal s) ≡ false
    not_header = rw (no_digits s (codes "items") small refl, no_digits s (codes "senders") small refl, no_digits s (codes "barriers") small refl) refl

    sender_tells : (ws : List (List ℕ)) (t : HistoryWord) (e : Event) → AreShortWords ws → length ws ≤ 3
        → history_word_at (decimal s) ws
        ≡ (if bytes_eq (decimal s) (codes "o") then owners_word (nth_word 0 ws) else senders_word (nth_word 0 ws) (nth_word (length ws - 1) ws))
        → senders_word (nth_word 0 ws) (nth_word (length ws - 1) ws) ≡ Some t → events_given l t (decimal s) (without_first ws) ≡ Ok (alone e)
        → IsLineOf (spaced (decimal s) ws) e
    sender_tells ws t e all few by_first told gives =
        line_tells (decimal s) ws t e (decimal_word s small) all few not_header
        (by_first
        ∙ ap (λ b. if b then owners_word (nth_word 0 ws) else senders_word (nth_word 0 ws) (nth_word (length ws - 1) ws))
        (no_digits s (codes "o") small refl)
        ∙ told) gives

    -- a line of three words, and of four
    three_tell : (word : List ℕ) (t : HistoryWord) (e : Event) → IsShortWord word → senders_word word (name_of l k) ≡ Some t
        → events_given l t (decimal s) (name_of l k ∷ []) ≡ Ok (alone e) → IsLineOf (sender_text l s (32 ∷ word) k) e
    three_tell word t e short told gives =
        let P : List ℕ → Type 0 = λ t. IsLineOf t e in
        subst P (sym (append_assoc (decimal s) (32 ∷ word) (named l k)))
        (sender_tells (word ∷ name_of l k ∷ []) t e (short, ((named_number l k lt).0, tt)) (omega arith) refl told gives)

    back_tells : (cause : Why) (word : List ℕ) → IsShortWord word → why_at word ≡ Some cause → why_text cause ≡ 32 ∷ word
        → IsLineOf (event_text l (event.Back s k cause)) (event.Back s k cause)
    unfolding senders_word numbers_give line_events_of
    back_tells cause word short told written =
        let tells = sender_tells (codes "back" ∷ name_of l k ∷ word ∷ []) (history_word.Back cause) (event.Back s k cause)
        (literal (codes "back") refl, ((named_number l k lt).0, (short, tt))) (omega arith) refl (ap (option_map history_word.Back) told)
        (ap (of_two (λ s k. alone (event.Back s k cause))) seat_read) in
        let front = codes " back" ++ named l k in
        let P : List ℕ → Type 0 = λ t. IsLineOf t (event.Back s k cause) in
        let text =
        ap (λ t. t ++ why_text cause) (append_assoc (decimal s) (codes " back") (named l k))
        ∙ append_assoc (decimal s) front (why_text cause) ∙ ap (λ t. decimal s ++ (front ++ t)) written in
        subst P (sym text) tells

pub written_event : (l : Layout) (e : Event) → IsEventOf l e → IsLineOf l (event_text l e) e
unfolding owners_word senders_word numbers_give line_events_of why_at cause_at
written_event l (event.Hold s k) is =
    three_tell l s k is.0 is.1 (codes "hold") history_word.Hold (event.Hold s k) (literal (codes "hold") refl) refl
    (ap (of_two (λ s k. alone (event.Hold s k))) (seat_read l s k is.0 is.1))
written_event l (event.Busy s k) is =
    three_tell l s k is.0 is.1 (codes "busy") history_word.Busy (event.Busy s k) (literal (codes "busy") refl) refl
    (ap (of_two (λ s k. alone (event.Busy s k))) (seat_read l s k is.0 is.1))
written_event l (event.Push s k) is =
    three_tell l s k is.0 is.1 (codes "push") history_word.Push (event.Push s k) (literal (codes "push") refl) refl
    (ap (of_two (λ s k. alone (event.Push s k))) (seat_read l s k is.0 is.1))
written_event l (event.Back s k why.Closed) is = back_tells l s k is.0 is.1 why.Closed (codes "closed") (literal (codes "closed") refl) refl refl
written_event l (event.Back s k why.Contended) is = back_tells l s k is.0 is.1 why.Contended (codes "contended") (literal (codes "contended") refl) refl refl
written_event l (event.Back s k why.Cancelled) is = back_tells l s k is.0 is.1 why.Cancelled (codes "cancelled") (literal (codes "cancelled") refl) refl refl
written_event l (event.Back s k why.Draining) is = back_tells l s k is.0 is.1 why.Draining (codes "draining") (literal (codes "draining") refl) refl refl
written_event l event.Take is = owner_tells l (codes "take" ∷ []) history_word.Take event.Take (literal (codes "take") refl, tt) (omega arith) refl refl
written_event l event.Close is = owner_tells l (codes "close" ∷ []) history_word.Close event.Close (literal (codes "close") refl, tt) (omega arith) refl refl
written_event l event.Drain is = owner_tells l (codes "drain" ∷ []) history_word.Drain event.Drain (literal (codes "drain") refl, tt) (omega arith) refl refl
written_event l event.Resume is =
    owner_tells l (codes "resume" ∷ []) history_word.Resume event.Resume (literal (codes "resume") refl, tt) (omega arith) refl refl
written_event l event.Rest is = owner_tells l (codes "rest" ∷ []) history_word.Rest event.Rest (literal (codes "rest") refl, tt) (omega arith) refl refl
written_event l (event.Begin k) is =
    let n = named_number l k is.1 in
    owner_tells l (codes "begin" ∷ name_of l k ∷ []) history_word.Begin (event.Begin k) (literal (codes "begin") refl, (n.0, tt)) (omega arith) refl
    (ap (λ told. of_two (line_events_of history_word.Begin) (of_one (λ k. (0, k)) told)) n.1)
written_event l (event.End k) is =
    let n = named_number l k is.1 in
    owner_tells l (codes "end" ∷ name_of l k ∷ []) history_word.End (event.End k) (literal (codes "end") refl, (n.0, tt)) (omega arith) refl
    (ap (λ told. of_two (line_events_of history_word.End) (of_one (λ k. (0, k)) told)) n.1)
written_event l (event.Chain k) is =
    let n = named_item l k is.1 in
    owner_tells l (codes "chain" ∷ name_of l k ∷ []) history_word.Chain (event.Chain k) (literal (codes "chain") refl, (n.0, tt)) (omega arith) refl
    (ap (λ told. of_two (line_events_of history_word.Chain) (of_one (λ k. (0, k)) told)) n.1)
written_event l (event.ChainBusy k) is =
    let n = named_item l k is.1 in
    owner_tells l (codes "busy" ∷ name_of l k ∷ []) history_word.ChainBusy (event.ChainBusy k) (literal (codes "busy") refl, (n.0, tt)) (omega arith) refl
    (ap (λ told. of_two (line_events_of history_word.ChainBusy) (of_one (λ k. (0, k)) told)) n.1)
