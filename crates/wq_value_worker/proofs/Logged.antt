-- The pairs that began: their numbers are the items that began, and once the queue has run to the end they are all that was accepted.
use Rattle.wq_value_worker.proofs.Common.{◌≡◌, ℕ, ◌≤◌, List, length, take, Option, sym, ap, ◌∙◌, arith, Layout, Event, accepted, begun, IsLegal}
use Rattle.wq_value_worker.proofs.Common.{IsComplete, in_order, prefix_length, items_among, pairs_of, numbers_in}
use Rattle.std.proofs.lemmas.List.{length-take-le, take_all}
use Rattle.std.proofs.lemmas.Option.{slice_get_within}
use Rattle.wq_words.specs.Valued.{AreBrought, IsLegalWith, with_values}
use Rattle.wq_words.proofs.Ranks.{slice_get-prefix, slice_get-take}
use Rattle.wq_words.proofs.Valued.{are_brought}
use Rattle.wq_ledger.specs.Book.{BookState}
use Rattle.wq_value_worker.specs.ValueState.{HasRunPairs}
use Rattle.wq_worker.proofs.Draining.{begun-complete}
use Rattle.wq_value_worker.proofs.Returned.{numbers_of_pairs}

module _ {V : Type 0} (layout : Layout) (h : List Event) (values : List (Option V)) (legal : IsLegal layout h)
    (many : length values ≡ length (accepted h)) where
  pub few_begun : length (begun h) ≤ length values
  few_begun = omega (arith, many, prefix_length (begun h) (accepted h) (in_order layout h legal).begun_first)

  begun_brought : AreBrought layout.items (accepted h) values → AreBrought layout.items (begun h) (take (length (begun h)) values)
  begun_brought are = record {
    as_many = length-take-le (length (begun h)) values few_begun;
    carries = λ place k y at has. are.carries place k y
        (slice_get-prefix (begun h) (accepted h) place k (in_order layout h legal).begun_first at)
        (sym (slice_get-take values (length (begun h)) place (slice_get_within (begun h) place k at)) ∙ has);
  }

  pub begun_items : IsLegalWith layout (with_values h values)
      → numbers_in (pairs_of (begun h) (take (length (begun h)) values)) ≡ items_among layout (begun h)
  begun_items whole = numbers_of_pairs layout (begun h) (take (length (begun h)) values) (begun_brought (are_brought layout h values many whole))

  pub begun_accepted : IsComplete h → pairs_of (begun h) (take (length (begun h)) values) ≡ pairs_of (accepted h) values
  begun_accepted done =
      let all = begun-complete layout h legal done in
      let whole : take (length (begun h)) values ≡ values = take_all (length (begun h)) values (omega (arith, many, ap length all)) in
      λ i. pairs_of (all i) (whole i)

  -- a work that has run the pairs that began has run what was accepted, once the queue has run to the end
  pub has_run : {W : Type 0} (log : W → List (ℕ × V)) (work : W) (brought : List (Option V)) (book : BookState) → IsComplete h
      → IsLegalWith layout (with_values h values) → log work ≡ pairs_of (begun h) (take (length (begun h)) values) → book.layout ≡ layout
      → book.seen ≡ h → brought ≡ values → HasRunPairs log brought work book
  has_run log work brought book done whole ran size seen same = rw (size, seen, same) record {
    pairs = ran ∙ begun_accepted done;
    numbers = ap numbers_in ran ∙ (begun_items whole ∙ ap (items_among layout) (begun-complete layout h legal done));
    as_many = many;
  }
