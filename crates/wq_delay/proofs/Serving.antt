-- What stands first, and how much stands on a table.
use Rattle.wq_delay.proofs.Common.{◌≡◌, ℕ, zero, suc, ◌<◌, ◌≤◌, Bool, true, false, cond, List, [], ◌∷◌, ◌++◌, map, length, get_or, take, filter, Option, sym}
use Rattle.wq_delay.proofs.Common.{refl, ap, ◌∙◌, subst, arith, All-get_or, Entry, due_part, later_part, on_table, due_then_later, first_on, DuePlace, DueItem}
use Rattle.wq_delay.proofs.Common.{IsFirstDue, entry_of, entries_of, stands, IsTimetable, AreApart}
use Rattle.wq_delay.proofs.Rows.{in_places, length-le-places}
use Rattle.wq_delay.proofs.Spelled.{entries_rows}

pub few_entries : (places : List (Option DuePlace)) → AreApart places → length (entries_of places) ≤ length places
few_entries places apart = length-le-places places (entries_of places) (entries_rows places apart)

-- where nothing before it passes a test, what passes comes first
pub first_kept : {X : Type 0} (p : X → Bool) (xs : List X) (i : ℕ) (d : X) → i < length xs → filter p (take i xs) ≡ [] → p (get_or xs i d) ≡ true
    → (rest : List X) × (filter p xs ≡ get_or xs i d ∷ rest)
first_kept p [] i d low none hit = absurd (omega arith)
first_kept p (x ∷ xs) zero d low none hit = (filter p xs, rw hit refl)
first_kept {X} p (x ∷ xs) (suc i) d low none hit = by (p x) none (λ rest. first_kept p xs i d (omega arith) rest hit)
  where
    by : (b : Bool) → cond b (x ∷ filter p (take i xs)) (filter p (take i xs)) ≡ []
        → (filter p (take i xs) ≡ [] → (rest : List X) × (filter p xs ≡ get_or xs i d ∷ rest))
        → (rest : List X) × (cond b (x ∷ filter p xs) (filter p xs) ≡ get_or xs i d ∷ rest)
    by true is rest = absurd (cc)
    by false is rest = rest is

-- what is due first has a place
pub first_low : (places : List (Option DuePlace)) (t k : ℕ) → AreApart places → IsFirstDue t k (entries_of places) → k < length places
first_low places t k apart first =
    in_places places (entries_of places) k (entries_rows places apart)
    (subst (λ (z : ℕ). on_table z (entries_of places) ≡ true) first.item_is (first_on (entries_of places) first.rest first.first first.is))

module _ {places : List (Option DuePlace)} {next previous : List ℕ} {row : List DueItem} {room front count tick : ℕ}
    (t : IsTimetable places next previous row room front count tick) where
  pub first_served : (n : ℕ) (e : DueItem) → n < length row → filter (stands places) (take n row) ≡ [] → e ≡ get_or row n e → stands places e ≡ true
      → IsFirstDue tick e.item (entries_of places)
  first_served n e low passed is hit =
      let k = first_kept (stands places) row n e low passed (ap (stands places) (sym is) ∙ hit) in
      let due : entry_of e ∷ map entry_of k.0 ≡ due_part tick (entries_of places) =
      ap (λ (z : DueItem). entry_of z ∷ map entry_of k.0) is ∙ (ap (map entry_of) (sym k.1) ∙ t.due_is) in
      record {
        first = entry_of e;
        rest = map entry_of k.0 ++ later_part tick (entries_of places);
        is = due_then_later tick (entries_of places) (entries_rows places t.apart).ordered
            ∙ ap (λ (z : List Entry). z ++ later_part tick (entries_of places)) (sym due);
        item_is = refl;
        due = let low = All-get_or (λ r. r.place.due ≤ tick) row n e low t.early in let f = ap (λ (z : DueItem). z.place.due) is in omega arith;
      }
