-- Rows, and what a checker has read of them, grow at the end.
use Rattle.std.proofs.Common.{◌≡◌, ℕ, ◌+◌, ◌<◌, ◌≤◌, List, [], ◌∷◌, ◌++◌, length, take, get_or, sym, subst, Result, Ok, Err}
use Rattle.std.proofs.lemmas.List.{take_more, take_all}
use Rattle.std.proofs.lemmas.Option.{slice_get-get_or}
use Rattle.wq_words.specs.declared.layout.Layout.{Layout}
use Rattle.wq_words.specs.declared.event.Event.{Event}
use Rattle.wq_words.specs.Legal.{IsLegal}
use Rattle.wq_check.specs.Checked.{CheckerState}
use Rattle.wq_rows.specs.declared.row.EventRow.{EventRow}
use Rattle.wq_rows.specs.declared.checking.RowError.{RowError}
use Rattle.wq_rows.specs.Rows.{IsRowFor, AreRowsOf, HasRead}
use Rattle.wq_rows.specs.declared.checking.RowsError.{RowsError}
use Rattle.wq_rows.specs.declared.checking.RowsError.TheVariants as error
use Rattle.wq_rows.specs.Found.{AreLegal, HasRowError, IsFirstError, ChecksRows, Checks}

-- with one more of each
pub rows_push : (rows : List EventRow) (h : List Event) (row : EventRow) (e : Event)
    → AreRowsOf rows h → IsRowFor row e → AreRowsOf (rows ++ row ∷ []) (h ++ e ∷ [])
rows_push [] [] row e are is = (is, tt)
rows_push [] (x ∷ h) row e are is = absurd are
rows_push (x ∷ rows) [] row e are is = absurd are
rows_push (x ∷ rows) (y ∷ h) row e are is = (are.0, rows_push rows h row e are.1 is)

pub read_more : (rows : List EventRow) (i : ℕ) (d : EventRow) (c : CheckerState)
    → i < length rows → HasRead (take i rows ++ get_or rows i d ∷ []) c → HasRead (take (i + 1) rows) c
read_more rows i d c low read = subst (λ (xs : List EventRow). HasRead xs c) (sym (take_more rows i d low)) read

module _ (layout : Layout) (rows : List EventRow) (i : ℕ) (c : CheckerState) (same : c.queue.layout ≡ layout) where
  -- what was read is legal
  abbrev pub legal_before : HasRead (take i rows) c → AreLegal layout (take i rows)
  legal_before read = record {
    events = read.events;
    are = read.are;
    legal = subst (λ (l : Layout). IsLegal l read.events) same read.after.stands.legal;
  }

  pub legal_all : length rows ≤ i → HasRead (take i rows) c → AreLegal layout rows
  legal_all long read = subst (AreLegal layout) (take_all i rows long) (legal_before read)

  pub first_error : (d : EventRow) (why : RowError)
      → i < length rows → (read : HasRead (take i rows) c) → HasRowError c.queue.layout read.events (get_or rows i d) why
      → IsFirstError layout rows i why
  first_error d why low read is = record {
    before = legal_before read;
    row = get_or rows i d;
    there = slice_get-get_or rows i d low;
    is = subst (λ (l : Layout). HasRowError l read.events (get_or rows i d) why) same is;
  }

-- a check of the rows by a layout of this size
pub checks_of : (items barriers senders : ℕ) (layout made : Layout) (rows : List EventRow) (said : Result (Unit {0}) RowsError)
    → (layout.items ≡ items) × (layout.barriers ≡ barriers) × (layout.senders ≡ senders) → made ≡ layout → ChecksRows made rows said
    → Checks items barriers senders rows said
checks_of items barriers senders layout made rows (Ok u) size same is = (layout, size, subst (λ (l : Layout). ChecksRows l rows (Ok u)) same is)
checks_of items barriers senders layout made rows (Err (error.Row place why)) size same is =
    (layout, size, subst (λ (l : Layout). ChecksRows l rows (Err (error.Row place why))) same is)
checks_of items barriers senders layout made rows (Err (error.Layout which)) size same is = absurd is
checks_of items barriers senders layout made rows (Err error.Memory) size same is = absurd is
