-- A row from which what has left the table was taken out, and one that grows.
use Rattle.std.proofs.lemmas.List.Elements.{filter_passes, All-append}
use Rattle.wq_delay.proofs.Common.{◌≡◌, ℕ, ◌*◌, ◌≤◌, Bool, true, cond, List, [], ◌∷◌, ◌++◌, map, length, filter, Some, All, Option, sym, ap, ◌∙◌, subst}
use Rattle.wq_delay.proofs.Common.{arith, append_assoc, append-nil, length-append, length-map, map-append, filter-append, All-filter, All-nil, All-push, Entry}
use Rattle.wq_delay.proofs.Common.{DuePlace, DueItem, place_in, entry_of, stands, remaining, RowHasRoom, PutsBehind}
use Rattle.wq_delay.proofs.Leading.{filter_all, place_stands}

module _ (places : List (Option DuePlace)) (row kept : List DueItem) (is : kept ≡ filter (stands places) row) where
  pub tidied_same : filter (stands places) kept ≡ filter (stands places) row
  tidied_same =
      ap (filter (stands places)) is ∙ filter_all (stands places) (filter (stands places) row) (filter_passes (stands places) row)

  pub tidied_early : (t : ℕ) → All (λ e. e.place.due ≤ t) row → All (λ e. e.place.due ≤ t) kept
  tidied_early t all = subst (All (λ e. e.place.due ≤ t)) (sym is) (All-filter (stands places) (λ e. e.place.due ≤ t) row all)

  pub tidied_room : (room : ℕ) → 3 * length places ≤ room → RowHasRoom places kept room
  tidied_room room enough = record {
    enough = enough;
    few_gone =
        let same = ap (length {A = DueItem}) (tidied_same ∙ sym is) in let count = length-map (filter (stands places) kept) entry_of in
        omega arith;
  }

-- an item that is put behind the row
module _ (places : List (Option DuePlace)) where
  pub item_stands : (e : DueItem) → place_in places e.item ≡ Some e.place → stands places e ≡ true
  item_stands e is = place_stands e.place (place_in places e.item) is

  pub grows_none : (row : List DueItem) → PutsBehind places row row
  grows_none row = record { more = []; is = sym (append-nil row); stand = All-nil (λ e. stands places e ≡ true) }

  module _ (row new : List DueItem) (e : DueItem) where
    pub standing_more : new ≡ row ++ e ∷ [] → stands places e ≡ true → remaining places new ≡ remaining places row ++ entry_of e ∷ []
    standing_more is there = ap (remaining places) is ∙ (ap (map entry_of) (filter-append (stands places) row (e ∷ [])
        ∙ ap (λ (b : Bool). filter (stands places) row ++ cond b (e ∷ []) []) there) ∙ map-append entry_of (filter (stands places) row) (e ∷ []))

    pub room_more : (room now : ℕ) → RowHasRoom places row room → new ≡ row ++ e ∷ [] → stands places e ≡ true → room ≤ now → RowHasRoom places new now
    room_more room now has is there le = record {
      enough = let n = has.enough in omega arith;
      few_gone =
          let n = has.few_gone in let all = ap (length {A = DueItem}) is in let one = length-append row (e ∷ []) in
          let stand = ap (length {A = Entry}) (standing_more is there) in let more = length-append (remaining places row) (entry_of e ∷ []) in
          omega arith;
    }

  pub grows_more : (old row new : List DueItem) (e : DueItem) → PutsBehind places old row → new ≡ row ++ e ∷ [] → stands places e ≡ true
      → PutsBehind places old new
  grows_more old row new e grows is there = record {
    more = grows.more ++ e ∷ [];
    is = is ∙ (ap (λ (z : List DueItem). z ++ e ∷ []) grows.is ∙ append_assoc old grows.more (e ∷ []));
    stand = All-push (λ x. stands places x ≡ true) grows.more e grows.stand there;
  }

  pub grows_twice : (old row new : List DueItem) → PutsBehind places old row → PutsBehind places row new → PutsBehind places old new
  grows_twice old row new first second = record {
    more = first.more ++ second.more;
    is = second.is ∙ (ap (λ (z : List DueItem). z ++ second.more) first.is ∙ append_assoc old first.more second.more);
    stand = All-append (λ x. stands places x ≡ true) first.more second.more first.stand second.stand;
  }
