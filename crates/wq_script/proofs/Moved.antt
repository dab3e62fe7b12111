-- Cancellings, modifications and advances of a delay table, and what they are in a script.
use Rattle.wq_script.proofs.Common.{◌≡◌, ◌≢◌, ℕ, ◌+◌, Bool, true, false, cond, ◌==◌, List, [], ◌∷◌, ◌++◌, map, inl, inr, refl, sym, ap, ◌∙◌, subst}
use Rattle.wq_script.proofs.Common.{arith}
use Rattle.wq_script.proofs.Common.{append_assoc, false≢true, if◌then◌else◌, MatchBool, IsTrue, ◌↔◌, AllZip, append-nil, Layout, Event, Push, Back}
use Rattle.wq_script.proofs.Common.{closed, shut, IsLegal, legal_next, owner_seat, seat_of, own, Armed, Modified, modified_of}
use Rattle.wq_script.proofs.Common.{DelayTable, Entry, items, on_table, due_part, is_too_far, table_without, table_at, HasMetDrain, DelayState, IsFit, IsOut}
use Rattle.wq_script.proofs.Common.{Arms, Cancels, Rearms, ArmsAnew, Modifies, PostsDue, draining, post_event, post_events, post_table, post_answer}
use Rattle.wq_script.proofs.Common.{cancel_events, modify_events, modify_table, modify_answer, advance_events, advance_table, Seats, Publishes}
use Rattle.wq_script.proofs.Common.{Seated, GoesWithTable}
use Rattle.wq_words.specs.declared.event.Why.TheVariants as why
use Rattle.wq_words.proofs.Closed.{closed_from_IsClosed, closed_push_no, shut_from_open}
use Rattle.wq_words.specs.declared.answer.Armed.TheVariants as armed
use Rattle.wq_words.specs.declared.answer.Modified.TheVariants as modified
use Rattle.wq_words.proofs.DelayTable.{without_off}
use Rattle.wq_meaning.proofs.Armings.{modify_far, modify_off, modify_now, modify_again}
use Rattle.wq_delay.proofs.Advancing.{stays_in_all}
use Rattle.wq_script.proofs.Seated.{Acts}
use Rattle.wq_script.proofs.Queueings.{not_closed, not_draining, closed_not_draining, does_drain, no_owner, met_drain}
use Rattle.wq_script.proofs.Delayed.{acts, seated_by, goes_with, goes_nowhere, armed_so, near_is, goes_as}

-- a step of another seat is one
one_is_some : ◌≢◌ {A = ℕ} 1 0
one_is_some none = absurd (omega (arith, none))

-- answers that do not say that the tick is too far
idle_near : modified.WasIdle ≢ modified.TooFar
idle_near is = cc

moved_near : modified.Moved ≢ modified.TooFar
moved_near is = cc

pending_near : modified.Pending ≢ modified.TooFar
pending_near is = cc

closed_near : modified.Closed ≢ modified.TooFar
closed_near is = cc

draining_near : modified.Draining ≢ modified.TooFar
draining_near is = cc

-- what a post of an item on the table adds, leaves on the table and answers, by the tests on which it rests
abbrev post_adds : ℕ → ℕ → (back drains : Bool) → List Event
post_adds s k back drains = if drains then [] else (if back then Back s k why.Closed else Push s k) ∷ []

abbrev post_leaves : ℕ → DelayTable → (drains : Bool) → DelayTable
post_leaves k t drains = if drains then t else table_without k t

abbrev post_says : (back drains : Bool) → Modified
post_says back drains =
    if back then modified.Closed
    else if drains then modified.Draining
    else modified.Moved

module _ (wide : Layout) (s k : ℕ) (h : List Event) where
  pushed_open : (es : List Event) → IsLegal wide (h ++ Push s k ∷ es) → shut h ≡ false
  pushed_open es legal = shut_from_open h (legal_next wide h (Push s k) es legal).2.1

  back_closed : (es : List Event) → IsLegal wide (h ++ Back s k why.Closed ∷ es) → closed h ≡ true
  back_closed es legal = closed_from_IsClosed h (legal_next wide h (Back s k why.Closed) es legal).2.1

-- the event by which an item leaves the table, where the queue is closed or is not
abbrev post_of : ℕ → Bool → ℕ → Event
post_of p b k = if b then Back p k why.Closed else Push p k

-- items that go out one after another go all in one way
posted_all : (wide : Layout) (p : ℕ) (b : Bool) (gone : List Entry) (es g : List Event) → AllZip (IsOut p) gone es → closed g ≡ b
    → IsLegal wide (g ++ es) → es ≡ map (post_of p b) (items gone)
posted_all wide p b [] [] g out is legal = refl
posted_all wide p b [] (x ∷ es) g out is legal = absurd out
posted_all wide p b (e ∷ gone) [] g out is legal = absurd out
posted_all wide p b (e ∷ gone) (x ∷ es) g out is legal = elim out.0 [
  | inl push ↦
      let so = pushed_open wide p e.item g es (subst (λ (y : Event). IsLegal wide (g ++ y ∷ es)) push legal) in
      let one : x ≡ post_of p b e.item = push ∙ ap (λ (c : Bool). post_of p c e.item) (sym (not_closed g so) ∙ is) in
      let keeps : closed (g ++ x ∷ []) ≡ b = ap (λ (y : Event). closed (g ++ y ∷ [])) push ∙ (closed_push_no g (Push p e.item) refl ∙ is) in
      let rest = posted_all wide p b gone es (g ++ x ∷ []) out.1 keeps (subst (λ (y : List Event). IsLegal wide y) (sym (append_assoc g (x ∷ []) es)) legal) in
      λ i. one i ∷ rest i
  | inr back ↦
      let so = back_closed wide p e.item g es (subst (λ (y : Event). IsLegal wide (g ++ y ∷ es)) back legal) in
      let one : x ≡ post_of p b e.item = back ∙ ap (λ (c : Bool). post_of p c e.item) (sym so ∙ is) in
      let keeps : closed (g ++ x ∷ []) ≡ b = ap (λ (y : Event). closed (g ++ y ∷ [])) back ∙ (closed_push_no g (Back p e.item why.Closed) refl ∙ is) in
      let rest = posted_all wide p b gone es (g ++ x ∷ []) out.1 keeps (subst (λ (y : List Event). IsLegal wide y) (sym (append_assoc g (x ∷ []) es)) legal) in
      λ i. one i ∷ rest i
]

-- an item that goes out shows that the queue does not drain
none_out : (wide : Layout) (p : ℕ) (gone : List Entry) (es h : List Event) → AllZip (IsOut p) gone es → IsLegal wide (h ++ es) → draining h ≡ true
    → gone ≡ []
none_out wide p [] es h out legal drains = refl
none_out wide p (e ∷ gone) [] h out legal drains = absurd out
none_out wide p (e ∷ gone) (x ∷ es) h out legal drains =
    let off : draining h ≡ false = elim out.0 [
      | inl push ↦ not_draining h (pushed_open wide p e.item h es (subst (λ (y : Event). IsLegal wide (h ++ y ∷ es)) push legal))
      | inr back ↦ closed_not_draining h (back_closed wide p e.item h es (subst (λ (y : Event). IsLegal wide (h ++ y ∷ es)) back legal))
    ] in
    absurd (false≢true (sym off ∙ drains))

-- the items that an advance posts, by whether the queue drains
abbrev pub posted_where : ℕ → DelayTable → Bool → List ℕ
posted_where tick t drains = if drains then [] else items (due_part tick t.entries)

-- what goes out of the table is of its sender, and is pushed or given back
module _ (p : ℕ) (off : (p == owner_seat) ≡ false) where
  out_seat : (e : Entry) (x : Event) → IsOut p e x → (seat_of x == owner_seat) ≡ false
  out_seat e x (inl push) = ap (λ (y : Event). seat_of y == owner_seat) push ∙ off
  out_seat e x (inr back) = ap (λ (y : Event). seat_of y == owner_seat) back ∙ off

  out_own : (gone : List Entry) (es : List Event) → AllZip (IsOut p) gone es → own owner_seat es ≡ []
  out_own [] [] out = refl
  out_own [] (x ∷ es) out = absurd out
  out_own (e ∷ gone) [] out = absurd out
  out_own (e ∷ gone) (x ∷ es) out =
      ap (λ (b : Bool). cond b (x ∷ own owner_seat es) (own owner_seat es)) (out_seat e x out.0) ∙ out_own gone es out.1

module _ (layout : Layout) (s t : Seats) (h : List Event) (g : Seated layout s h) (d : DelayState)
    (published : Publishes d.sender.seen (record { worker = s.worker; delay = d; senders = s.senders }) t) (fit : IsFit s.delay) where
  abbrev pub p : ℕ
  p = layout.senders + 1

  -- what the sender met during its call it met behind h
  met_here : (xs : List Event) → Acts layout t h s.delay.sender.seen d.sender.seen xs 0 → HasMetDrain s.delay.sender.seen d.sender.seen
      → HasMetDrain h (h ++ xs)
  met_here xs a met =
      subst (λ (v : List Event). HasMetDrain v (h ++ xs)) a.alone (subst (λ (w : List Event). HasMetDrain s.delay.sender.seen w) a.is met)

  abbrev pub IsCancelledSo : ℕ → Bool → Type 0
  IsCancelledSo k b = (b ≡ on_table k s.delay.table.entries)
      × GoesWithTable layout (h ++ cancel_events p k s.delay.table) (table_without k s.delay.table) s t

  pub cancelled_so : (k : ℕ) (b : Bool) → Cancels k b s.delay d → IsCancelledSo k b
  cancelled_so k true told =
      let a = seated_by layout s t h g d published (λ m. Back m k why.Cancelled ∷ []) 0 told.1.seen in
      let events : cancel_events p k s.delay.table ≡ Back p k why.Cancelled ∷ [] = ap (λ (b : Bool). if b then Back p k why.Cancelled ∷ [] else []) told.0 in
      (sym told.0, goes_with layout s t h g d published (Back p k why.Cancelled ∷ []) _ _ a.seated (sym events) told.1.table_is)
  cancelled_so k false told =
      let l = goes_nowhere layout s t h g d published told.1 fit in
      let events : cancel_events p k s.delay.table ≡ [] = ap (λ (b : Bool). if b then Back p k why.Cancelled ∷ [] else []) told.0 in
      let table : s.delay.table ≡ table_without k s.delay.table = λ i. record {
        entries = sym (without_off k s.delay.table.entries told.0) i;
        tick = s.delay.table.tick;
        next = s.delay.table.next;
      } in (sym told.0, goes_as layout s t h g d published [] _ s.delay.table _ l (sym events) table)

  module _ (k delay : ℕ) where
    -- how a modification was answered, and what it led to
    abbrev pub IsModifiedSo : Modified → Type 0
    IsModifiedSo a = (a ≡ modify_answer k delay h s.delay.table)
        × GoesWithTable layout (h ++ modify_events p k delay h s.delay.table) (modify_table k delay h s.delay.table) s t

    -- it was answered that the tick is too far exactly where it is
    abbrev pub TellsFar : Modified → Type 0
    TellsFar a = (a ≡ modified.TooFar) ↔ IsTrue (is_too_far delay s.delay.table)

    near_by : (a : Modified) → TellsFar a → ¬ (a ≡ modified.TooFar) → is_too_far delay s.delay.table ≡ false
    near_by a far other = near_is (is_too_far delay s.delay.table) (λ beyond. other (far.1 beyond))

    far_told : d ≡ s.delay → IsTrue (is_too_far delay s.delay.table) → IsModifiedSo modified.TooFar
    far_told same far =
        let means = modify_far p k delay h s.delay.table far in
        let l = goes_nowhere layout s t h g d published same fit in
        (sym means.2, goes_as layout s t h g d published [] _ s.delay.table _ l (sym means.0) (sym means.1))

    -- an item on the table was posted
    posted_told : (a : Modified) (back drains : Bool) → is_too_far delay s.delay.table ≡ false → on_table k s.delay.table.entries ≡ true → delay ≡ 0
        → Seated layout t (h ++ post_adds p k back drains) → d.table ≡ post_leaves k s.delay.table drains → (closed h ≡ back) × (draining h ≡ drains)
        → a ≡ post_says back drains → IsModifiedSo a
    posted_told a back drains near on none seated table so is =
        let means = modify_now p k delay h s.delay.table near on none in
        let adds : post_events p k h ≡ post_adds p k back drains = λ i. post_adds p k (so.0 i) (so.1 i) in
        let leaves : post_table k h s.delay.table ≡ post_leaves k s.delay.table drains = λ i. post_leaves k s.delay.table (so.1 i) in
        let says : post_answer h ≡ post_says back drains = λ i. post_says (so.0 i) (so.1 i) in (
          is ∙ (sym says ∙ sym means.2),
          goes_with layout s t h g d published (post_adds p k back drains) _ _ seated (sym adds ∙ sym means.0) (table ∙ (sym leaves ∙ sym means.1)),
        )

    on_told : (a : Modified) → on_table k s.delay.table.entries ≡ true → TellsFar a → ¬ (a ≡ modified.Memory) → Rearms k delay 1 a s.delay d → IsModifiedSo a
    on_told modified.WasIdle at far room told = absurd told
    on_told modified.Pending at far room told = absurd told
    on_told modified.Contended at far room told = let a = acts layout s t h g d published _ 1 told.1.seen in absurd (one_is_some a.none)
    on_told modified.Memory at far room told = absurd (room refl)
    on_told modified.TooFar at far room told = far_told told (far.0 refl)
    on_told modified.Closed at far room told =
        let a = seated_by layout s t h g d published (λ m. Back m k why.Closed ∷ []) 0 told.1.seen in
        let so = back_closed a.seated.wide p k h [] a.seated.legal in
        posted_told modified.Closed true false (near_by modified.Closed far closed_near) at told.0 a.seated told.1.table_is (so, closed_not_draining h so) refl
    on_told modified.Draining at far room told =
        let a = acts layout s t h g d published [] 0 told.1.seen in
        let so = does_drain h (met_drain h [] refl (met_here [] a told.2)) in
        posted_told modified.Draining false true (near_by modified.Draining far draining_near) at told.0 a.seated told.1.table_is so refl
    on_told modified.Moved at far room (inl told) =
        let a = seated_by layout s t h g d published (λ m. Push m k ∷ []) 0 told.1.seen in
        let opens = pushed_open a.seated.wide p k h [] a.seated.legal in
        let so : (closed h ≡ false) × (draining h ≡ false) = (not_closed h opens, not_draining h opens) in
        posted_told modified.Moved false false (near_by modified.Moved far moved_near) at told.0 a.seated told.1.table_is so refl
    on_told modified.Moved at far room (inr told) =
        let means = modify_again p k delay h s.delay.table (near_by modified.Moved far moved_near) at told.0 in
        let a = acts layout s t h g d published [] 0 told.1.seen in
        (sym means.2, goes_with layout s t h g d published [] _ _ a.seated (sym means.0) (told.1.table_is ∙ sym means.1))

    -- an item that is not on the table is armed
    armed_told : (b : Armed) → on_table k s.delay.table.entries ≡ false → ¬ IsTrue (is_too_far delay s.delay.table) → ¬ (b ≡ armed.Memory)
        → ¬ (b ≡ armed.TooFar)
        → Arms k delay 1 b s.delay d → IsModifiedSo (modified_of b)
    armed_told b at never room other told =
        let means = modify_off p k delay h s.delay.table (near_is (is_too_far delay s.delay.table) never) at in
        let so = armed_so layout s t h g d published k delay fit b ((λ e. absurd (other e)), (λ far. absurd (never far))) room told in
        (ap modified_of so.0 ∙ sym means.2, goes_as layout s t h g d published _ _ _ _ so.1 (sym means.0) (sym means.1))

    off_told : (a : Modified) → on_table k s.delay.table.entries ≡ false → TellsFar a → ¬ (a ≡ modified.Memory) → ArmsAnew k delay 1 a s.delay d
        → IsModifiedSo a
    off_told modified.WasIdle at far room (inl told) =
        armed_told (armed.Queued told.0 told.1) at (λ beyond. idle_near (far.1 beyond)) (λ e. cc) (λ e. cc) told.2
    off_told modified.WasIdle at far room (inr told) = armed_told armed.OnTable at (λ beyond. idle_near (far.1 beyond)) (λ e. cc) (λ e. cc) told
    off_told modified.Moved at far room told = absurd told
    off_told modified.Pending at far room told = armed_told armed.Pending at (λ beyond. pending_near (far.1 beyond)) (λ e. cc) (λ e. cc) told
    off_told modified.Closed at far room told = armed_told armed.Closed at (λ beyond. closed_near (far.1 beyond)) (λ e. cc) (λ e. cc) told
    off_told modified.Draining at far room told = armed_told armed.Draining at (λ beyond. draining_near (far.1 beyond)) (λ e. cc) (λ e. cc) told
    off_told modified.Contended at far room told = let a = acts layout s t h g d published _ 1 told.1.seen in absurd (one_is_some a.none)
    off_told modified.TooFar at far room told = far_told told (far.0 refl)
    off_told modified.Memory at far room told = absurd (room refl)

    pub modified_so : (a : Modified) → TellsFar a → ¬ (a ≡ modified.Memory) → Modifies k delay 1 a s.delay d → IsModifiedSo a
    modified_so a far room told = each (on_table k s.delay.table.entries) refl told
      where
        each : (b : Bool) → on_table k s.delay.table.entries ≡ b → MatchBool b (Rearms k delay 1 a s.delay d) (ArmsAnew k delay 1 a s.delay d) → IsModifiedSo a
        each true at moves = on_told a at far room moves
        each false at arms = off_told a at far room arms

  -- an advance that was not backwards: so many were posted, and went out, while the queue drains none
  module _ (tick pushed refused : ℕ) (posts : PostsDue tick 1 s.delay d pushed refused) where
    abbrev due : List Entry
    due = due_part tick s.delay.table.entries

    acted : Acts layout t h s.delay.sender.seen d.sender.seen posts.events 0
    acted = acts layout s t h g d published posts.events 0 posts.seen

    out : AllZip (IsOut p) posts.gone posts.events
    out = subst (λ (m : ℕ). AllZip (IsOut m) posts.gone posts.events) g.delay.number_is posts.out

    stays : draining h ≡ false → posts.left ≡ []
    stays off = elim (stays_in_all posts.left 1 posts.events s.delay.sender d.sender posts.stays) [
      | inl none ↦ none
      | inr (inl sees) ↦ let a = acts layout s t h g d published posts.events 1 sees in absurd (one_is_some a.none)
      | inr (inr met) ↦
          let wide = acted.seated.wide in
          let other = no_owner wide p (omega (arith, acted.seated.wider.senders)) in
          let drains = does_drain h (met_drain h posts.events (out_own p other posts.gone posts.events out) (met_here posts.events acted met)) in
          absurd (false≢true (sym off ∙ drains.1))
    ]

    parted : (b : Bool) → draining h ≡ b → (items posts.gone ≡ (if b then [] else items due)) × (posts.left ≡ (if b then due else []))
    parted true is =
        let none : posts.gone ≡ [] = none_out acted.seated.wide p posts.gone posts.events h out acted.seated.legal is in
        (ap items none, sym (posts.due_is ∙ ap (λ (x : List Entry). x ++ posts.left) none))
    parted false is =
        let none : posts.left ≡ [] = stays is in
        let all : due ≡ posts.gone = posts.due_is ∙ (ap (λ (x : List Entry). posts.gone ++ x) none ∙ append-nil posts.gone) in
        (sym (ap items all), none)

    pub advanced_so : GoesWithTable layout (h ++ advance_events p tick h s.delay.table) (advance_table tick h s.delay.table) s t
    advanced_so =
        let parts = parted (draining h) refl in
        let events = posted_all acted.seated.wide p (closed h) posts.gone posts.events h out refl acted.seated.legal in
        let table : d.table ≡ advance_table tick h s.delay.table =
        posts.table_is ∙ ap (λ (x : List Entry). table_at tick x s.delay.table) parts.1 in
        goes_with layout s t h g d published posts.events _ _ acted.seated (events ∙ ap (map (post_event p h)) parts.0) table
