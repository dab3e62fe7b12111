-- Who alone made events.
use Rattle.wq_words.proofs.Common.{◌≡◌, ℕ, ◌<◌, ◌≤◌, ◌⊎◌, Bool, true, false, cond, not, List, [], ◌∷◌, ◌++◌, length, inl, inr, refl, sym, ap, ◌∙◌, subst}
use Rattle.wq_words.proofs.Common.{arith, append_assoc, eq-eqb, filter, AllByRecursion, append-nil, filter-append, IsPrefix, Layout, Event, Hold, Busy, Push}
use Rattle.wq_words.proofs.Common.{Back, Take, Close, Drain, Resume, Begin, End, Chain, ChainBusy, Rest, IsLegal, seat_of, owner_seat, own}
use Rattle.wq_words.specs.Legal.{HasSeat}
use Rattle.wq_words.proofs.Legal.{legal_next, legal_front}
use Rattle.wq_words.proofs.Prefixes.{nothing_more, left_nil, right_nil}
use Rattle.wq_words.proofs.Seen.{own-append, own_rest}

-- a seat's number: a sender's, or the owner's
abbrev pub IsSeat : Layout → ℕ → Type 0
IsSeat layout c = (c < layout.senders) ⊎ (c ≡ owner_seat)

seat_held : (layout : Layout) (e : Event) → HasSeat layout e → IsSeat layout (seat_of e)
seat_held layout (Hold s k) has = inl has
seat_held layout (Busy s k) has = inl has
seat_held layout (Push s k) has = inl has
seat_held layout (Back s k why) has = inl has
seat_held layout Take has = inr refl
seat_held layout Close has = inr refl
seat_held layout Drain has = inr refl
seat_held layout Resume has = inr refl
seat_held layout (Begin k) has = inr refl
seat_held layout (End k) has = inr refl
seat_held layout (Chain k) has = inr refl
seat_held layout (ChainBusy k) has = inr refl
seat_held layout Rest has = inr refl

-- each event of a legal history is of a seat of the queue
abbrev pub OfSeats : Layout → List Event → Type 0
OfSeats layout es = AllByRecursion (λ e. IsSeat layout (seat_of e)) es

pub legal_seats : (layout : Layout) (h es : List Event) → IsLegal layout (h ++ es) → OfSeats layout es
legal_seats layout h [] legal = tt
legal_seats layout h (e ∷ es) legal =
    let P : List Event → Type 0 = λ x. IsLegal layout x in
    (seat_held layout e (legal_next layout h e es legal).0, legal_seats layout (h ++ e ∷ []) es (subst P (sym (append_assoc h (e ∷ []) es)) legal))

own_self : (e : Event) (es : List Event) → own (seat_of e) (e ∷ es) ≡ e ∷ own (seat_of e) es
own_self e es = ap (λ (b : Bool). cond b (e ∷ own (seat_of e) es) (own (seat_of e) es)) (eq-eqb (seat_of e) (seat_of e) refl)

module _ (layout : Layout) (f : ℕ → Bool) where
  -- the events of seats that f names, and those of others
  abbrev pub ours : List Event → List Event
  ours es = filter (λ e. f (seat_of e)) es

  abbrev pub theirs : List Event → List Event
  theirs es = filter (λ e. not (f (seat_of e))) es

  none_step : (b : Bool) (e : Event) (es : List Event) → (b ≡ false → own (seat_of e) (e ∷ es) ≡ []) → theirs es ≡ []
      → cond (not b) (e ∷ theirs es) (theirs es) ≡ []
  none_step true e es none rest = rest
  none_step false e es none rest = let absurd_eq = sym (own_self e es) ∙ none refl in absurd (cc)

  -- where none of the other seats made an event, there is none of another
  pub none_theirs : (es : List Event) → OfSeats layout es → ((c : ℕ) → IsSeat layout c → f c ≡ false → own c es ≡ []) → theirs es ≡ []
  none_theirs [] held none = refl
  none_theirs (e ∷ es) held none =
      none_step (f (seat_of e)) e es (none (seat_of e) held.0) (none_theirs es held.1 (λ c is other. own_rest c e es (none c is other)))

  all_step : (b : Bool) (e : Event) (es : List Event) → (theirs es ≡ [] → ours es ≡ es) → cond (not b) (e ∷ theirs es) (theirs es) ≡ []
      → cond b (e ∷ ours es) (ours es) ≡ e ∷ es
  all_step true e es rest is = ap (λ (x : List Event). e ∷ x) (rest is)
  all_step false e es rest is = absurd (cc)

  pub all_ours : (es : List Event) → theirs es ≡ [] → ours es ≡ es
  all_ours [] is = refl
  all_ours (e ∷ es) is = all_step (f (seat_of e)) e es (all_ours es) is

no_seat : (layout : Layout) (es : List Event) → OfSeats layout es → ((c : ℕ) → IsSeat layout c → own c es ≡ []) → es ≡ []
no_seat layout [] held none = refl
no_seat layout (e ∷ es) held none = let is = sym (own_self e es) ∙ none (seat_of e) held.0 in absurd (cc)

-- The seats that f names went on from v to z, where they made the events xs. The others have made none after h, which v goes
-- on from: then there is nothing else.
pub settle : (layout : Layout) (f : ℕ → Bool) (h v z new xs : List Event) (n : ℕ) → IsPrefix h v → ((c : ℕ) → IsSeat layout c → f c ≡ true → own c v ≡ own c h)
    → z ≡ v ++ new → ours layout f new ≡ xs → n ≤ length (theirs layout f new) → IsLegal layout z
    → ((c : ℕ) → IsSeat layout c → f c ≡ false → own c z ≡ own c h)
    → (v ≡ h) × (z ≡ h ++ xs) × (n ≡ 0) × (theirs layout f new ≡ [])
settle layout f h v z new xs n begins ours_same is mine some legal others_same =
    let t : List Event = begins.0 in
    let whole : z ≡ h ++ (t ++ new) = is ∙ (ap (λ (x : List Event). x ++ new) (sym begins.1) ∙ append_assoc h t new) in
    let held : OfSeats layout (t ++ new) = legal_seats layout h (t ++ new) (subst (λ (x : List Event). IsLegal layout x) whole legal) in
    let none : (c : ℕ) → IsSeat layout c → f c ≡ false → own c (t ++ new) ≡ [] =
    λ c seat other. nothing_more (own c h) (own c (t ++ new)) (sym (own-append c h (t ++ new)) ∙ (ap (own c) (sym whole) ∙ others_same c seat other)) in
    let no_theirs : theirs layout f t ++ theirs layout f new ≡ [] = sym (filter-append (λ e. not (f (seat_of e))) t new)
    ∙ none_theirs layout f (t ++ new) held none in
    let nothing : t ≡ [] = no_seat layout t (legal_seats layout h t (front layout h t new (subst (λ (x : List Event). IsLegal layout x) whole legal)))
    (λ c seat. each (f c) c seat refl (λ on. ours_same c seat on) (λ off. none c seat off)) in
    let still : new ≡ xs = sym (all_ours layout f new (right_nil (theirs layout f t) (theirs layout f new) no_theirs)) ∙ mine in
    let few : length (theirs layout f new) ≡ 0 = ap length (right_nil (theirs layout f t) (theirs layout f new) no_theirs) in (
      sym begins.1 ∙ (ap (λ (x : List Event). h ++ x) nothing ∙ append-nil h),
      whole ∙ ap (λ (x : List Event). h ++ x) (ap (λ (x : List Event). x ++ new) nothing ∙ still),
      omega (arith, some, few),
      right_nil (theirs layout f t) (theirs layout f new) no_theirs,
    )
  where
    front : (layout : Layout) (h t new : List Event) → IsLegal layout (h ++ (t ++ new)) → IsLegal layout (h ++ t)
    front layout h t new legal = legal_front layout (h ++ t) new (subst (λ (x : List Event). IsLegal layout x) (sym (append_assoc h t new)) legal)

    each : (b : Bool) (c : ℕ) → IsSeat layout c → f c ≡ b → (f c ≡ true → own c v ≡ own c h) → (f c ≡ false → own c (begins.0 ++ new) ≡ [])
        → own c begins.0 ≡ []
    each true c seat is same none = nothing_more (own c h) (own c begins.0) (sym (own-append c h begins.0) ∙ (ap (own c) begins.1 ∙ same is))
    each false c seat is same none = left_nil (own c begins.0) (own c new) (sym (own-append c begins.0 new) ∙ none is)
