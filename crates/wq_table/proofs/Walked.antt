-- What the owner's walk does to the slots, and to its hand.
use Rattle.std.proofs.Common.{◌≡◌, ◌≢◌, ℕ, ◌<◌, ◌==◌, Bool, true, false, cond, if◌then◌else◌, List, [], ◌∷◌, ◌++◌, length}
use Rattle.std.proofs.Common.{Option, Some, None, sym, refl, ap, ◌∙◌, subst, arith}
use Rattle.std.proofs.lemmas.Option.{slice_get_within}
use Rattle.std.proofs.lemmas.Bool.{ne_eqb}
use mathlib.Core.Option.{some}
use lib.ListN.{get_elem?}
use Rattle.atomic_table.specs.Table.{keeps, takes}
use Rattle.wq_words.specs.History.{accepted, begun}
use Rattle.wq_words.specs.Keeper.{Home, keeper}
use Rattle.wq_words.proofs.Prefixes.{prefix_self}
use Rattle.wq_words.proofs.Ranks.{slice_get-some}
use Rattle.wq_core.specs.Machine.{Machine, link, after_walk}
use Rattle.wq_core.specs.Sound.{IsSound}
use Rattle.wq_core.specs.Words.{number_at}
use Rattle.wq_words.proofs.Times.{times-cons, times-append}
use Rattle.wq_table.specs.declared.table.Part.{Part}
use Rattle.wq_words.specs.Valued.{Carries}
use Rattle.wq_table.specs.Slots.{Slots, Shelves, IsAway, taken_times}
use Rattle.wq_table.specs.declared.table.Stage.TheVariants.{Owns}
use Rattle.wq_core.specs.declared.step.Step.TheVariants as step
use Rattle.wq_table.specs.SlotSteps.{Hand, Walks, Goes}
use Rattle.wq_table.proofs.Shelves.{fits_taken}
use Rattle.wq_table.proofs.Keeping.{waiting_place, queue_home, cursor_waits, not_counted}

module _ {V : Type 0} where
  module _ (m : Machine) (sound : IsSound m) (p : Part) (brs : List (Option V)) (homes : Slots V) (sh : Shelves m brs homes) where
    -- the slot of the number that the owner walks is taken, with what the number brought
    pub goes_walk : (k word : ℕ) (walked batch : List ℕ) (c : Hand V) → m.cursor ≡ Some k → p.stage ≡ Owns (Some k) walked batch → k < length homes
        → Goes None step.Walk m (after_walk m m.cursor) p word brs homes c
    goes_walk k word walked batch c on stage low =
        let waits = cursor_waits m sound k on in
        let place = waiting_place m.layout m.history sound.legal k (keeper m.history k) refl waits.0 in
        let at = slice_get-some brs place.0 (omega (arith, sh.as_many, slice_get_within (accepted m.history) place.0 k place.2)) in
        let y : Option V = at.0 in
        let home : (j : ℕ) → keeper m.history j ≡ Home → (j ≢ k) × (keeper m.history j ≡ Home) =
        λ j is. ((λ same. queue_home (keeper m.history k) waits.0 (ap (keeper m.history) (sym same) ∙ is)), is) in
        let not_here : (j : ℕ) → j ≢ k → ◌≡◌ {A = ℕ} (cond (k == j) 1 0) 0 = λ j other. ap {B = ℕ} (λ (q : Bool). cond q 1 0) (ne_eqb k j
        (λ same. other (sym same))) in
        let lies : get_elem? homes k ≡ some (some y) = sh.waits place.0 k y low place.1 place.2 waits.1 at.1 in
        let tells : Walks p.stage m brs c brs ((k, y) ∷ c) =
        subst (λ st. Walks st m brs c brs ((k, y) ∷ c)) (sym stage) (
          refl,
          y,
          refl,
          record {
            place = place.0;
            later = place.1;
            stands = place.2;
            has = at.1;
            kind = sh.right place.0 k y (omega
                (arith, low)) place.2 at.1;
          },
        ) in
        let go : (b : Bool)
        → Goes None step.Walk m (if b then record m { cursor = None; walked = []; batch = m.batch ++ k ∷ m.walked } else record m {
          cursor =
              number_at (link m k);
          walked = k ∷ m.walked;
        })
        p word brs homes c = elim [
          | true ↦ record {
            act = takes k y;
            valid = lies;
            brs' = brs;
            more = prefix_self brs;
            shelves =
                fits_taken None (Carries m.layout.items) (keeper m.history) (keeper m.history) (taken_times m.walked m.batch) (taken_times []
                (m.batch ++ k ∷ m.walked))
                (length (begun m.history)) (length (begun m.history)) (accepted m.history) brs homes sh k
                (λ j other is. subst (IsAway (keeper m.history j)) (omega (
                  arith,
                  times-append j m.batch
                      (k ∷ m.walked),
                  times-cons j k m.walked,
                  not_here j other,
                )) is) home
                (λ i j late stands away. (
                  not_counted j k (k == j) refl (omega (arith, away, times-append j m.batch (k ∷ m.walked), times-cons j k m.walked)),
                  omega (arith, away, times-append j m.batch (k ∷ m.walked), times-cons j k m.walked),
                )) (omega arith);
            moved = λ some_slot. tells;
            hand_same = λ none_there. absurd (omega (arith, low, none_there));
          }
          | false ↦ record {
            act = takes k y;
            valid = lies;
            brs' = brs;
            more = prefix_self brs;
            shelves =
                fits_taken None (Carries m.layout.items) (keeper m.history) (keeper m.history) (taken_times m.walked m.batch) (taken_times
                (k ∷ m.walked) m.batch)
                (length (begun m.history)) (length (begun m.history)) (accepted m.history) brs homes sh k
                (λ j other is. subst (IsAway (keeper m.history j)) (omega (arith, times-cons j k m.walked, not_here j other)) is) home
                (λ i j late stands away. (
                  not_counted j k (k == j) refl (omega (arith, away, times-cons j k m.walked)),
                  omega (arith, away, times-cons j k m.walked),
                )) (omega arith);
            moved = λ some_slot. tells;
            hand_same = λ none_there. absurd (omega (arith, low, none_there));
          }
        ] in
        subst (λ (z : Option ℕ). Goes None step.Walk m (after_walk m z) p word brs homes c) (sym on) (go (link m k == 0))

    -- all was walked: the owner only looks at the link of the first of its batch
    pub goes_walk_none : (word : ℕ) (walked batch : List ℕ) (c : Hand V) → m.cursor ≡ None → p.stage ≡ Owns None walked batch
        → Goes None step.Walk m (after_walk m m.cursor) p word brs homes c
    goes_walk_none word walked batch c none_left stage =
        subst (λ (z : Option ℕ). Goes None step.Walk m (after_walk m z) p word brs homes c) (sym none_left) record {
          act = keeps;
          valid = tt;
          brs' = brs;
          more = prefix_self brs;
          shelves = sh;
          moved = λ some_slot. subst (λ st. Walks st m brs c brs c) (sym stage) (refl, refl);
          hand_same = λ none_there. refl;
        }
