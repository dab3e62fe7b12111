-- Each number waits at most once, so that no more wait than there are.
use Rattle.wq_words.proofs.Common.{◌≡◌, ℕ, ◌+◌, ◌<◌, ◌≤◌, List, length, take, drop, refl, sym, ap, ◌∙◌, arith, Layout, Event, number_count, accepted, begun}
use Rattle.wq_words.proofs.Common.{IsLegal, keeper}
use Rattle.wq_words.proofs.Order.{in_order}
use Rattle.wq_words.proofs.Keepers.{queue_bit, kept}
use Rattle.wq_words.proofs.Times.{times, times-append}
use Rattle.wq_words.specs.History.{unbegun}
use Rattle.std.proofs.lemmas.List.{drop_at, take-append-drop}
use Rattle.wq_words.proofs.Times.{length-distinct_below}
use Rattle.wq_words.proofs.Accepted.{accepted_below, queue_once}

-- how often a number waits, by its keeper
pub waits_bit : (layout : Layout) (h : List Event) → IsLegal layout h → (k : ℕ) → times k (unbegun h) ≡ queue_bit (keeper h k)
waits_bit layout h legal k =
    let front = (in_order layout h legal).begun_first in
    let rest : unbegun h ≡ front.0 = ap (drop (length (begun h))) (sym front.1) ∙ drop_at (begun h) front.0 (length (begun h)) refl in
    let all : times k (accepted h) ≡ times k (begun h) + times k front.0 = ap (times k) (sym front.1) ∙ times-append k (begun h) front.0 in
    let keeps : times k (accepted h) ≡ times k (begun h) + queue_bit (keeper h k) = (kept layout h legal 0 k).2 in
    ap (times k) rest ∙ omega arith

-- no more wait than there are numbers
pub few_unbegun : (layout : Layout) (h : List Event) → IsLegal layout h → length (unbegun h) ≤ number_count layout
few_unbegun layout h legal =
    length-distinct_below (unbegun h) (number_count layout) (λ q. omega (arith, waits_bit layout h legal q, queue_once (keeper h q))) below
  where
    below : (q : ℕ) → 1 ≤ times q (unbegun h) → q < number_count layout
    below q some = accepted_below layout h legal q (omega (arith, some, more))
      where
        more : times q (unbegun h) ≤ times q (accepted h)
        more =
            let parts = ap (times q) (sym (take-append-drop (length (begun h)) (accepted h))) in
            omega (arith, parts ∙ times-append q (take (length (begun h)) (accepted h)) (unbegun h))
