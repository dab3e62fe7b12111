-- After a rest that was refused the next take finds something.
use Rattle.std.proofs.lemmas.Bool.{or_parts}
use Rattle.std.proofs.lemmas.List.{append-nil, length-take-le}
use Rattle.std.proofs.lemmas.List.Sums.{fold_push}
use Rattle.wq_words.specs.Listed.{listed, listed_after}
use Rattle.wq_words.specs.Rest.{wakes}
use Rattle.wq_words.specs.Seen.{owner_seat, seat_of, own, is_ours, Grows}
use Rattle.wq_words.proofs.Legal.{legal_front, legal_rest}
use Rattle.wq_words.proofs.Listed.{accepted_push_none, length-accepted, fresh-open}
use Rattle.wq_words.proofs.Order.{in_order}
use Rattle.wq_words.proofs.Prefixes.{prefix_length}
use Rattle.wq_words.proofs.Rest.{wakes_quiet, wakes_push_work}
use Rattle.wq_words.proofs.OtherSeats.{others_keep, surrounds, taken_still}
use Rattle.wq_calls.proofs.Reading.{empty_from_next}
use Rattle.wq_worker.proofs.Draining.{left_idle}
use Rattle.wq_calls.proofs.Others.{next_still, some_fresh}
use Rattle.wq_calls.proofs.PhaseKept.{shut_still}
use Rattle.wq_worker.proofs.Common.{◌≡◌, ℕ, ◌<◌, ◌≤◌, false, List, [], ◌∷◌, ◌++◌, length, take, ◌==◌, None, sym, refl, ap, ◌∙◌, subst, inl, inr, append_assoc}
use Rattle.wq_worker.proofs.Common.{arith, length-append, filter_map-append, Event, Hold, Busy, Push, Take, Layout, accepted, begun, IsClosed, IsShut}
use Rattle.wq_worker.proofs.Common.{IsLegal, IsComplete, batch, next_of, taking, Adds, NothingWaits}
use Rattle.std.proofs.Common.{length-drop}
use Rattle.std.proofs.lemmas.List.Elements.{filter-append}
use Rattle.wq_words.specs.declared.event.Event.TheVariants.{Back}
use Rattle.wq_words.specs.History.{accepted_by, taken, fresh, first}
use Rattle.wq_words.proofs.Closed.{closed_shuts, shut_from_open}
use Rattle.wq_live.specs.Rest.{MayNotRest}
use Rattle.wq_worker.specs.Resting.{HasNoneLeft}
use Rattle.wq_worker.specs.Seats.{at_take, at_all}
use Rattle.wq_worker.proofs.Owned.{owner_of_both, owner_grows, quiet_stays, quiet_none}
use Rattle.wq_words.proofs.Seen.{filter-filter}

-- of what came new the owner's events are those of what the worker's two seats added
pub owner_new : (s n : ℕ) (xs v w : List Event) (adds : Adds s xs n v w) → own owner_seat adds.new ≡ own owner_seat xs
owner_new s n xs v w adds =
    sym (filter-filter (λ e. seat_of e == owner_seat) (is_ours s) (λ e none. (or_parts (seat_of e == s) (seat_of e == owner_seat) none).1) adds.new)
    ∙ ap (own owner_seat) adds.ours

-- what was taken and waits still does where the worker's seats add nothing
pub next_kept : (layout : Layout) (s n : ℕ) (v w : List Event) → Adds s [] n v w → IsLegal layout w → next_of w ≡ next_of v
next_kept layout s n v w adds legal = next_still layout v w adds.new adds.is legal (owner_new s n [] v w adds)

-- a closed queue of which nothing is left has run to its end
pub none_left_complete : (layout : Layout) (h : List Event) → IsLegal layout h → IsClosed h → HasNoneLeft h → IsComplete h
none_left_complete layout h legal closed none =
    (closed, omega (arith, left_idle layout h legal (closed_shuts h closed) none.0, ap (length {A = ℕ}) (empty_from_next h none.1)))

-- a queue at work stays at work while other seats alone add events
at_work_still : (layout : Layout) (v new : List Event) → IsLegal layout (v ++ new) → own owner_seat new ≡ [] → wakes v ≡ false → wakes (v ++ new) ≡ false
at_work_still layout =
    others_keep layout (λ w. wakes w ≡ false) (record {
      push = λ w s k l works. wakes_push_work w (Push s k) refl;
      hold = λ w s k works. wakes_quiet w (Hold s k) refl refl ∙ works;
      busy = λ w s k works. wakes_quiet w (Busy s k) refl refl ∙ works;
      back = λ w s k why works. wakes_quiet w (Back s k why) refl refl ∙ works;
    })

module _ (layout : Layout) where
  -- a take takes all that was accepted
  taken_all : (v : List Event) → IsLegal layout (v ++ Take ∷ []) → taken (v ++ Take ∷ []) ≡ length (accepted v)
  taken_all v legal =
      let none : listed (v ++ Take ∷ []) ≡ [] = fold_push listed_after [] v Take in
      omega (arith, length-accepted layout (v ++ Take ∷ []) legal, ap (length {A = ℕ}) none, ap (length {A = ℕ}) (accepted_push_none v Take refl))

  accepted_more : (v new : List Event) → length (accepted v) ≤ length (accepted (v ++ new))
  accepted_more v new =
      omega (arith, ap (length {A = ℕ}) (filter_map-append accepted_by v new), length-append (accepted v) (accepted new))

  -- and so does one that other seats' events surround
  takes_later : (v new : List Event) → IsLegal layout (v ++ new) → own owner_seat new ≡ Take ∷ [] → length (accepted v) ≤ taken (v ++ new)
  takes_later v new legal one =
      let t = surrounds owner_seat Take new one in
      let is : v ++ new ≡ ((v ++ t.front) ++ Take ∷ []) ++ t.behind =
      ap (λ (x : List Event). v ++ x) t.is ∙ (sym (append_assoc v t.front (Take ∷ t.behind)) ∙ sym (append_assoc (v ++ t.front) (Take ∷ []) t.behind)) in
      let l : IsLegal layout (((v ++ t.front) ++ Take ∷ []) ++ t.behind) = subst (IsLegal layout) is legal in
      omega (
        arith,
        accepted_more v t.front,
        taken_all (v ++ t.front) (legal_front layout ((v ++ t.front) ++ Take ∷ []) t.behind l),
        taken_still layout ((v ++ t.front) ++ Take ∷ []) t.behind l t.behind_none,
        ap taken is,
      )

  -- After the owner's last take something was pushed, and after the next take something waits.
  pushed_waits : (before after c d new : List Event) → c ≡ before ++ Take ∷ after → own owner_seat after ≡ [] → IsLegal layout c → ¬ IsShut c
      → first c ≡ false → d ≡ c ++ new → own owner_seat new ≡ Take ∷ [] → IsLegal layout d → next_of d ≡ None → ⊥
  pushed_waits before after c d new c_is none legal opens pushed d_is one later nothing =
      let l : IsLegal layout ((before ++ Take ∷ []) ++ after) = legal_rest layout before Take after (subst (IsLegal layout) c_is legal) in
      let m : IsLegal layout (before ++ Take ∷ []) = legal_front layout (before ++ Take ∷ []) after l in
      let t : taken c ≡ length (accepted before) =
      ap taken c_is ∙ (ap taken (sym (append_assoc before (Take ∷ []) after)) ∙ (taken_still layout (before ++ Take ∷ []) after l none ∙ taken_all before m)) in
      let g : Grows owner_seat (Take ∷ []) 0 before c = record {
        new = Take ∷ after;
        is = c_is;
        mine = ap (λ (z : List Event). Take ∷ z) none;
        theirs = omega arith;
      } in
      let b : length (begun c) ≡ length (begun before) =
      ap (length {A = ℕ}) ((owner_grows (Take ∷ []) 0 before c g).begun_is ∙ append-nil (begun before)) in
      let o = in_order layout before (legal_front layout before (Take ∷ []) m) in
      let few = prefix_length (begun before) (accepted before) o.begun_first in
      let some : 0 < fresh c = some_fresh (fresh c) pushed in
      let h : Grows owner_seat (Take ∷ []) 0 c d = record { new = new; is = d_is; mine = one; theirs = omega arith } in
      let e : length (begun d) ≡ length (begun c) = ap (length {A = ℕ}) ((owner_grows (Take ∷ []) 0 c d h).begun_is ∙ append-nil (begun c)) in
      let took : length (accepted c) ≤ taken d =
      subst (λ (z : List Event). length (accepted c) ≤ taken z) (sym d_is) (takes_later c new (subst (IsLegal layout) d_is later) one) in
      let empty : length (batch d) ≡ 0 = ap (length {A = ℕ}) (empty_from_next d nothing) in
      let room = length-accepted layout d later in
      let size : length (take (taken d) (accepted d)) ≡ taken d = length-take-le (taken d) (accepted d) (omega (arith, room)) in
      omega (
        arith,
        t,
        b,
        few,
        some,
        e,
        took,
        empty,
        size,
        length-drop (length (begun d)) (take (taken d) (accepted d)),
        length-accepted layout c legal,
        fresh-open layout c legal opens,
      )

-- A worker of which nothing was left and whose rest was refused finds something by its next take.
pub refused_waits : (layout : Layout) (s : ℕ) (b c d : List Event) → NothingWaits b → Adds s [] 0 b c → MayNotRest c → IsLegal layout c → ¬ IsShut c
    → next_of c ≡ None → Adds s (taking c) 0 c d → IsLegal layout d → next_of d ≡ None → ⊥
refused_waits layout s b c d (at_all shut none) quiet why legal opens empty more later nothing =
    let same = quiet_stays [] b c quiet_none (owner_of_both s [] 0 b c quiet) in opens (shut_still b c same.phase shut)
refused_waits layout s b c d (at_take before after b_is last none) quiet why legal opens empty more later nothing =
    let c_is : c ≡ before ++ Take ∷ (after ++ quiet.new) =
    quiet.is ∙ (ap (λ (z : List Event). z ++ quiet.new) b_is ∙ append_assoc before (Take ∷ after) quiet.new) in
    let behind_none : own owner_seat (after ++ quiet.new) ≡ [] =
    filter-append (λ e. seat_of e == owner_seat) after quiet.new
    ∙ (ap (λ (z : List Event). z ++ own owner_seat quiet.new) last ∙ owner_new s 0 [] b c quiet) in
    let works : wakes c ≡ false =
    ap wakes c_is
    ∙ (ap wakes (sym (append_assoc before (Take ∷ []) (after ++ quiet.new)))
    ∙ at_work_still layout (before ++ Take ∷ []) (after ++ quiet.new) (
    subst (IsLegal layout) (c_is ∙ sym (append_assoc before (Take ∷ []) (after ++ quiet.new))) legal
    ) behind_none (wakes_push_work before Take refl)) in
    let take_is : taking c ≡ Take ∷ [] = rw (empty, shut_from_open c opens) refl in
    let one : own owner_seat more.new ≡ Take ∷ [] = owner_new s 0 (taking c) c d more ∙ ap (own owner_seat) take_is in
    elim why [
      | inl pushed ↦ pushed_waits layout before (after ++ quiet.new) c d more.new c_is behind_none legal opens pushed more.is one later nothing
      | inr rests ↦ absurd (cc (works, rests))
    ]
