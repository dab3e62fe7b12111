-- What a log has in the end.
use Rattle.std.proofs.Common.{◌≡◌, ℕ, List, Option, Some, map, take, ap, sym, ◌∙◌, subst}
use Rattle.wq_words.specs.declared.layout.Layout.{Layout}
use Rattle.std.specs.Prelude.{All}
use Rattle.wq_words.specs.History.{accepted}
use Rattle.wq_words.specs.Numbers.{stop_number}
use Rattle.wq_words.specs.Seen.{own}
use Rattle.wq_words.specs.Legal.{IsComplete}
use Rattle.wq_words.specs.Headline.{KeepsHeadline}
use Rattle.wq_words.specs.Valued.{IsLegalWith, with_values}
use Rattle.wq_values.specs.Known.{Known}
use Rattle.wq_values.specs.KnownWith.{KnownWith}
use Rattle.wq_values.specs.OwnBrought.{own_brought}
use Rattle.wq_value_worker.specs.Returned.{pairs_of}
use Rattle.example_log.specs.declared.ending.Written.{Written}
use Rattle.example_log.specs.declared.message.Log.{Log}
use Rattle.example_log.specs.declared.message.Message.{Message}
use Rattle.example_log.specs.Text.{Line, text_of}
use Rattle.example_log.specs.Sent.{own_lines, lines_to, OnlyStops, StopsAlone}
use Rattle.wq_value_pool.specs.Quiet.{IsQuiet}
use Rattle.example_log.specs.Written.{HasLines}

-- what a log has, from what its senders say
pub has_lines : (log : Log) (layout : Layout) (one two three : KnownWith Line) (last : Known) (first second : List Message) (a b : ℕ) (w : Written)
    → w.book.book.layout ≡ layout → IsLegalWith w.book.book.layout (with_values w.book.book.seen w.book.brought)
    → IsComplete w.book.book.seen × KeepsHeadline w.book.book.seen
    → w.text.items ≡ text_of (pairs_of (accepted w.book.book.seen) w.book.brought)
    → one.known.number ≡ 0 → two.known.number ≡ 1 → last.number ≡ 2 → last.layout ≡ layout → StopsAlone last three.known
    → own_brought one.known.number w.book.book.seen w.book.brought ≡ own_lines one
    → own_brought two.known.number w.book.book.seen w.book.brought ≡ own_lines two
    → accepted (own three.known.number w.book.book.seen) ≡ accepted (own three.known.number three.known.seen)
    → own_lines one ≡ map Some (lines_to log (take a first)) → own_lines two ≡ map Some (lines_to log (take b second))
    → w.of_first ≡ a → w.of_second ≡ b → IsQuiet 3 w.book.book.seen → HasLines log layout w.book.book.seen w.book.brought first second w
has_lines log layout one two three last first second a b w size legal ended text zero one' two' sized stops mine theirs its sent_one sent_two
    first_is second_is quiet = record {
      legal = subst (λ (l : Layout). IsLegalWith l (with_values w.book.book.seen w.book.brought)) size legal;
      complete = ended.0;
      headline = ended.1;
      text_is = text;
      of_first = of first zero mine sent_one first_is;
      of_second = of second one' theirs sent_two second_is;
      of_third = subst (All (λ k. k ≡ stop_number layout)) (sym (subst Same (stops.same.number_is ∙ two') its))
          (subst (λ k. OnlyStops layout k three.known.seen) two' (subst (λ (l : Layout). OnlyStops l last.number three.known.seen) sized stops.only_stops));
      of_worker = quiet;
    }
  where
    Same : ℕ → Type 0
    Same k = accepted (own k w.book.book.seen) ≡ accepted (own k three.known.seen)

    of : {s t n m : ℕ} {lines : List (Option Line)} (ms : List Message) → t ≡ s → own_brought t w.book.book.seen w.book.brought ≡ lines
        → lines ≡ map Some (lines_to log (take n ms)) → m ≡ n → own_brought s w.book.book.seen w.book.brought ≡ map Some (lines_to log (take m ms))
    of ms seat mine sent count = ap (λ k. own_brought k w.book.book.seen w.book.brought) (sym seat) ∙
        (mine ∙ (sent ∙ ap (λ k. map Some (lines_to log (take k ms))) (sym count)))
