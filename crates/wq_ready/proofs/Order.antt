-- Each legal ready history keeps the order of what was announced.
use Rattle.std.proofs.lemmas.List.{take-take, length-take, length-append, length_push}
use Rattle.std.proofs.lemmas.Bool.{cases_lt}
use Rattle.std.proofs.lemmas.Option.{slice_get_within}
use Rattle.wq_words.proofs.Growing.{growing, take_more_some, filter_map_push_some}
use Rattle.wq_words.proofs.Ranks.{ComesFrom, comes_from, length-filter_map-take, slice_get-take}
use Rattle.wq_ready.proofs.Common.{◌≡◌, ℕ, ◌+◌, ◌<◌, ◌≤◌, List, [], ◌∷◌, ◌++◌, length, take, slice_get, Some, sym, refl, ap, ◌∙◌, inl, inr, arith, IsPrefix}
use Rattle.wq_ready.proofs.Common.{prefix_append, prefix_step, Size, ReadyEvent, Announce, Pick, announced, picked, announced_by, picked_by, IsReadyAllowed}
use Rattle.wq_ready.proofs.Common.{IsReadyLegal, IsPickOf, EachPickHasAnnounce, ArePickedInOrder, KeepsOrder}
use Rattle.wq_ready.proofs.Legal.{legal_induction, announce_from}

-- of what was announced, xs, and what was picked, ys
record AreInTurn (queues : ℕ) (xs ys : List ℕ) : Type 0 where
  pub first : IsPrefix ys xs
  pub room : length xs ≤ length ys + queues

announces : (queues : ℕ) (xs ys : List ℕ) (q : ℕ) → AreInTurn queues xs ys → (length xs ≡ length ys + queues → ⊥) → AreInTurn queues (xs ++ q ∷ []) ys
announces queues xs ys q o not_full = record {
  first = prefix_append ys xs (q ∷ []) o.first;
  room = let le = o.room in simp length-append (omega arith);
}

picks : (queues : ℕ) (xs ys : List ℕ) (q : ℕ) → AreInTurn queues xs ys → slice_get xs (length ys) ≡ Some q → AreInTurn queues xs (ys ++ q ∷ [])
picks queues xs ys q o at = record { first = prefix_step ys xs q o.first at; room = let le = o.room in simp length-append (omega arith) }

turn_after : (size : Size) (h : List ReadyEvent) (e : ReadyEvent) → IsReadyAllowed size h e → AreInTurn size.queues (announced h) (picked h)
    → AreInTurn size.queues (announced (h ++ e ∷ [])) (picked (h ++ e ∷ []))
turn_after size h (Announce c q) a o = simp growing (announces _ _ _ q o a.follows)
turn_after size h (Pick c q) a o = simp growing (picks _ _ _ q o a.follows)

in_turn : (size : Size) (h : List ReadyEvent) → IsReadyLegal size h → AreInTurn size.queues (announced h) (picked h)
in_turn size h legal =
    legal_induction size (λ g. AreInTurn size.queues (announced g) (picked g)) (record { first = ([], refl); room = omega arith })
    (turn_after size) h legal

at_take : (h : List ReadyEvent) (n i : ℕ) (e : ReadyEvent) → slice_get (take n h) i ≡ Some e → (i < n) × (slice_get h i ≡ Some e)
at_take h n i e at =
    let lt : i < n = omega (arith, slice_get_within (take n h) i e at, length-take n h) in
    (lt, sym (slice_get-take h n i lt) ∙ at)

module _ (size : Size) (h : List ReadyEvent) (legal : IsReadyLegal size h) where
  pick_of_announced : EachPickHasAnnounce h
  pick_of_announced pick c q at =
      found (comes_from announced_by (take pick h) (length (picked (take pick h))) q (legal.allows pick (Pick c q) at).follows)
    where
      found : ComesFrom announced_by (take pick h) (length (picked (take pick h))) q → (announce : ℕ) × (announce < pick) × IsPickOf h announce pick
      found f =
          let event = announce_from f.1 q f.3 in
          let place = at_take h pick f.0 f.1 f.2 in (
            f.0,
            place.0,
            record {
              queue = q;
              announcer = event.0;
              picker = c;
              is_announce = place.1 ∙ ap Some event.1;
              is_pick = at;
              in_turn = sym (rw (take-take f.0 pick h (omega (arith, place.0))) at f.4);
            },
          )

picked_more : (h : List ReadyEvent) (i c q : ℕ) → slice_get h i ≡ Some (Pick c q) → length (picked (take (i + 1) h)) ≡ length (picked (take i h)) + 1
picked_more h i c q at =
    ap (λ l. length (picked l)) (take_more_some h i (Pick c q) at)
    ∙ (ap length (filter_map_push_some picked_by (take i h) (Pick c q) q refl) ∙ length_push (picked (take i h)) q)

picked_in_order : (h : List ReadyEvent) → ArePickedInOrder h
picked_in_order h first second announce later lt one other =
    elim (cases_lt announce later) [
      | inl less ↦ less
      | inr ge ↦ absurd (omega (
        arith,
        one.in_turn,
        other.in_turn,
        picked_more h first one.picker one.queue one.is_pick,
        length-filter_map-take picked_by h (first + 1) second (omega arith),
        length-filter_map-take announced_by h later announce ge,
      ))
    ]

pub keeps_order : (size : Size) (h : List ReadyEvent) → IsReadyLegal size h → KeepsOrder size h
keeps_order size h legal = record {
  picked_in_order = (in_turn size h legal).first;
  pick_of_announced = pick_of_announced size h legal;
  each_once = picked_in_order h;
  within_room = (in_turn size h legal).room;
}
