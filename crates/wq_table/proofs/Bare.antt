-- A queue without slots: one lemma for every kind of step.
use Rattle.wq_table.proofs.Common.{◌≡◌, ℕ, ◌+◌, List, ◌++◌, length, replicate, Option, None, refl, ap, ◌∙◌, arith, IsPrefix, accepted, Step, Machine}
use Rattle.wq_table.proofs.Common.{after, Part, seat_at, IsPartOf, keeps, Slots, Shelves, Hand, GoesBy}
use Rattle.std.proofs.lemmas.List.{length-append, length-replicate}
use Rattle.wq_words.proofs.Appended.{accepted-append}
use Rattle.wq_table.proofs.Changes.{changes}

module _ {V : Type 0} where
  -- what is brought, and what lies in no slots, after any step: nothing
  pub bare : (p : Part) (step : Step) (m : Machine) (brs : List (Option V)) (homes : Slots V) → IsPartOf m p → length homes ≡ 0 → Shelves m brs homes
      → (brs' : List (Option V)) × IsPrefix brs brs' × Shelves (after m (seat_at p.seat p.stage) step) brs' homes
  bare p step m brs homes fits none_there sh =
      let change = changes m p.seat p.stage step fits.keeps in
      let next = after m (seat_at p.seat p.stage) step in
      let count : ℕ = length (accepted change.new) in
      let none : List (Option V) = replicate count None in
      let split : length (accepted next.history) ≡ length (accepted m.history) + count =
      ap (λ h. length (accepted h)) change.history_is ∙ (ap length (accepted-append m.history change.new) ∙
      length-append (accepted m.history) (accepted change.new)) in (
        brs ++ none,
        (none, refl),
        record {
          as_many = omega (arith, split, length-append brs none, length-replicate {A = Option V} count None, sh.as_many);
          free = λ k low home. absurd (omega (arith, low, none_there));
          waits = λ place k y low late stands away has. absurd (omega (arith, low, none_there));
          away = λ k low is. absurd (omega (arith, low, none_there));
          right = λ place k y some_slot stands has. absurd (omega (arith, some_slot, none_there));
        },
      )

  -- so every kind of step goes on, with no slot
  pub by_bare : (p : Part) (said : Option V) (step : Step) (c : Hand V) → GoesBy 0 p said step c
  by_bare p said step c = λ m brs homes sound fits none_there sh.
      let it = bare p step m brs homes fits none_there sh in record {
        act = keeps;
        valid = tt;
        brs' = it.0;
        more = it.1;
        shelves = it.2;
        moved = λ some_slot. absurd (omega (arith, some_slot, none_there));
        hand_same = λ n. refl;
      }
