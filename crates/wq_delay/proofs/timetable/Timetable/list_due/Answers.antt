use Rattle.wq_delay.proofs.Common.{◌≡◌, ℕ, ◌&&◌, List, map, drop, IfOk, nat_le, filter, Option, sym, ap, ◌∙◌, subst, due_part, items, DuePlace, DueItem, AreFound}
use Rattle.wq_delay.proofs.Common.{entry_of, entries_of, stands, AreDue, Rows, AreEarliest, later_than, place_in}
use Rattle.wq_delay.proofs.Gathered.{sorted_is_due, on_table_permuted, same_on_table}
use Rattle.wq_delay.proofs.Fitting.{items_of_rows}
use Rattle.wq_delay.proofs.Found.{found_out}
use Rattle.wq_delay.proofs.timetable.Timetable.list_due.Goals as goal

pub find_on-requires-clause-found : goal.find_on-requires-clause-found
find_on-requires-clause-found c =
    let i = c.self.inside in let places : List (Option DuePlace) = i.places.items in let row : List DueItem = i.row.items in
    let out : List DueItem = c.in_ok-due.due.items in let now = c.args.now in
    let of_places : out ≡ filter (λ e. nat_le e.place.due now && stands places e) (drop i.front c.deref-2.result.now) =
    subst (λ (z : List (Option DuePlace)). out ≡ filter (λ e. nat_le e.place.due now && stands z e) (drop i.front c.deref-2.result.now))
    c.deref.ensures.value c.in_ok-due.ensures in
    let of_row : out ≡ filter (λ e. nat_le e.place.due now && stands places e) (drop i.front row) =
    subst (λ (z : List DueItem). out ≡ filter (λ e. nat_le e.place.due now && stands places e) (drop i.front z)) c.deref-2.ensures.value of_places in
    subst (λ (z : List (Option DuePlace)). AreFound z i.tick now 0 (map entry_of out)) (sym c.deref-3.ensures.value)
    (found_out c.self.invariant.0 now out of_row)

pub find_on-requires-clause-earliest : goal.find_on-requires-clause-earliest
find_on-requires-clause-earliest c =
    let i = c.self.inside in
    subst (λ (z : List ℕ). AreEarliest z (λ k. later_than i.tick (place_in c.deref-3.result.now k))) (sym c.deref-4.ensures.value)
    (subst (λ (z : List (Option DuePlace)). AreEarliest i.earliest.items (λ k. later_than i.tick (place_in z k))) (sym c.deref-3.ensures.value)
    c.self.invariant.1)

pub returns : goal.returns
returns c =
    let places : List (Option DuePlace) = c.self.inside.places.items in let now = c.args.now in
    let found : List DueItem = c.find_on.new.found.items in let sorted : List DueItem = c.sort.new.due.items in
    let due : AreDue places now (map entry_of found) =
    subst (λ (z : List (Option DuePlace)). AreDue z now (map entry_of found)) c.deref-3.ensures.value c.in_ok-find_on.ensures in
    let moves = c.sort.ensures.moved in
    let whole : map entry_of sorted ≡ due_part now (entries_of places) =
    sorted_is_due places now sorted c.self.invariant.0.apart (on_table_permuted places found sorted moves due.on) c.sort.ensures.sorted
    (λ k. sym (same_on_table k found sorted moves) ∙ due.which k) in
    let e : map (λ (x : DueItem). x.item) c.deref-5.result.now ≡ items (due_part now c.args.self.now.entries) =
    ap (map (λ (x : DueItem). x.item)) c.deref-5.ensures.value ∙ (items_of_rows sorted ∙ (ap items whole
    ∙ ap (λ (z : Rows). items (due_part now z.entries)) c.self.view_is)) in
    subst (λ (z : List ℕ). IfOk c.items_of.result (λ list. list.items ≡ z)) e c.items_of.ensures
