-- Whether the queue takes pushes, by the events of its owner.
use Rattle.wq_calls.proofs.Common.{◌≡◌, ℕ, Bool, true, false, cond, if◌then◌else◌, List, [], ◌∷◌, ◌++◌, sym, refl, ap, ◌∙◌, arith, append_assoc}
use Rattle.wq_calls.proofs.Common.{count_by, append-nil, sum_by-cons, Event, is_close, IsClosed, IsShut, IsDraining, owner_seat, own, Grows}
use Rattle.wq_calls.proofs.Common.{own-append, shut_same, IsClosed_from_closed, open_from_closed, closed_shuts, shut_from_IsShut, IsShut_from_shut}
use Rattle.wq_calls.proofs.Common.{open_from_shut, Open, phase}
use Rattle.std.proofs.Common.{nat_lt}
use Rattle.wq_words.specs.declared.event.Event.TheVariants as event
use Rattle.wq_words.specs.History.{closed, shut, is_drain, is_resume}
use Rattle.wq_words.proofs.Seen.{closed_count, own-own}
use Rattle.wq_words.proofs.Closed.{closed_from_IsClosed, closed_from_open, closed_push_no, closed_push_yes}
use Rattle.wq_words.proofs.Closed.{shut_from_open, shut_quiet, shut_drain, shut_resume}
use Rattle.wq_calls.specs.declared.owner_seat.Phase.TheVariants.{Draining, Closed}
use Rattle.wq_calls.proofs.Growing.{grows_own}

module _ (h : List Event) where
  phase_at : (c s : Bool) → closed h ≡ c → shut h ≡ s → phase h ≡ (if c then Closed else (if s then Draining else Open))
  phase_at c s c_is s_is = λ i. if c_is i then Closed else (if s_is i then Draining else Open)

  pub phase_closed : IsClosed h → phase h ≡ Closed
  phase_closed is = phase_at true (shut h) (closed_from_IsClosed h is) refl

  pub phase_draining : IsDraining h → phase h ≡ Draining
  phase_draining is = phase_at false true (closed_from_open h is.1) (shut_from_IsShut h is.0)

  pub phase_open : ¬ IsShut h → phase h ≡ Open
  phase_open opens = phase_at false false (closed_from_open h (λ is. opens (closed_shuts h is))) (shut_from_open h opens)

  pub closed_from_phase : phase h ≡ Closed → IsClosed h
  closed_from_phase is = go (closed h) (shut h) refl refl
    where
      go : (c s : Bool) → closed h ≡ c → shut h ≡ s → IsClosed h
      go true s e f = IsClosed_from_closed h e
      go false true e f = absurd (cc (is, phase_at false true e f))
      go false false e f = absurd (cc (is, phase_at false false e f))

  -- whether its owner closed it, by the phase
  pub closed_marked : phase h ≡ Closed → true ≡ closed h
  closed_marked is = sym (closed_from_IsClosed h (closed_from_phase is))

  pub closed_unmarked : ¬ (phase h ≡ Closed) → false ≡ closed h
  closed_unmarked other = sym (closed_from_open h (λ is. other (phase_closed is)))

-- as far as the owner's events say
closed_alike : (v w : List Event) → own owner_seat w ≡ own owner_seat v → closed w ≡ closed v
closed_alike v w is = ap (nat_lt 0) (closed_count v w is)

shut_alike : (v w : List Event) → own owner_seat w ≡ own owner_seat v → shut w ≡ shut v
shut_alike v w is = go (shut v) refl
  where
    go : (b : Bool) → shut v ≡ b → shut w ≡ b
    go true e = shut_from_IsShut w (shut_same v w is (IsShut_from_shut v e))
    go false e = shut_from_open w (λ shuts. open_from_shut v e (shut_same w v (sym is) shuts))

module _ (xs : List Event) (n : ℕ) (v w : List Event) (g : Grows owner_seat xs n v w) where
  grown : own owner_seat w ≡ own owner_seat (v ++ xs)
  grown = grows_own owner_seat xs n v w g ∙ sym (own-append owner_seat v xs
      ∙ ap (λ (x : List Event). own owner_seat v ++ x) (ap (own owner_seat) (sym g.mine) ∙ (own-own owner_seat g.new ∙ g.mine)))

  pub closed_on : closed w ≡ closed (v ++ xs)
  closed_on = closed_alike (v ++ xs) w grown

  pub shut_on : shut w ≡ shut (v ++ xs)
  shut_on = shut_alike (v ++ xs) w grown

  pub phase_on : phase w ≡ phase (v ++ xs)
  phase_on = λ i. if closed_on i then Closed else (if shut_on i then Draining else Open)

-- the event closes the queue, or begins or ends a drain
abbrev pub is_phase_change : Event → Bool
is_phase_change event.Close = true
is_phase_change event.Drain = true
is_phase_change event.Resume = true
is_phase_change _ = false

no_phase_change : (e : Event) → is_phase_change e ≡ false → (is_resume e ≡ false) × (is_drain e ≡ false) × (is_close e ≡ false)
no_phase_change event.Close is = absurd (cc is)
no_phase_change event.Drain is = absurd (cc is)
no_phase_change event.Resume is = absurd (cc is)
no_phase_change _ is = (refl, refl, refl)

no_phase_changes : (e : Event) (es : List Event) → count_by is_phase_change (e ∷ es) ≡ 0 → (is_phase_change e ≡ false) × (count_by is_phase_change es ≡ 0)
no_phase_changes e es none = go (is_phase_change e) refl
  where
    go : (b : Bool) → is_phase_change e ≡ b → (is_phase_change e ≡ false) × (count_by is_phase_change es ≡ 0)
    go true is = let one : ◌≡◌ {A = ℕ} (cond (is_phase_change e) 1 0) 1 = ap (λ (b : Bool). cond b 1 0) is in
        absurd (omega (arith, none, one, sum_by-cons (λ x. cond (is_phase_change x) 1 0) e es))
    go false is = (is, omega (arith, none, sum_by-cons (λ x. cond (is_phase_change x) 1 0) e es))

-- where the owner does none of these, the queue stays as it is
still : (v xs : List Event) → count_by is_phase_change xs ≡ 0 → (closed (v ++ xs) ≡ closed v) × (shut (v ++ xs) ≡ shut v)
still v [] none = (ap closed (append-nil v), ap shut (append-nil v))
still v (x ∷ xs) none =
    let first = no_phase_changes x xs none in let quiet = no_phase_change x first.0 in let rest = still (v ++ x ∷ []) xs first.1 in (
      ap closed (sym (append_assoc v (x ∷ []) xs)) ∙ (rest.0 ∙ closed_push_no v x quiet.2),
      ap shut (sym (append_assoc v (x ∷ []) xs)) ∙ (rest.1 ∙ shut_quiet v x quiet.0 quiet.1 quiet.2),
    )

module _ (xs : List Event) (n : ℕ) (v w : List Event) (g : Grows owner_seat xs n v w) (none : count_by is_phase_change xs ≡ 0) where
  pub closed_quiet : closed w ≡ closed v
  closed_quiet = closed_on xs n v w g ∙ (still v xs none).0

  pub shut_still : shut w ≡ shut v
  shut_still = shut_on xs n v w g ∙ (still v xs none).1

  pub phase_quiet : phase w ≡ phase v
  phase_quiet = λ i. if closed_quiet i then Closed else (if shut_still i then Draining else Open)

-- what a close, a drain and a resume leave
module _ (n : ℕ) (v w : List Event) where
  pub closed_then : Grows owner_seat (event.Close ∷ []) n v w → IsClosed w
  closed_then g = IsClosed_from_closed w (closed_on (event.Close ∷ []) n v w g ∙ closed_push_yes v event.Close refl)

  pub draining_then : Grows owner_seat (event.Drain ∷ []) n v w → ¬ IsClosed v → IsDraining w
  draining_then g unclosed = (
    IsShut_from_shut w (shut_on (event.Drain ∷ []) n v w g ∙ shut_drain v event.Drain refl refl),
    open_from_closed w (closed_on (event.Drain ∷ []) n v w g ∙ (closed_push_no v event.Drain refl ∙ closed_from_open v unclosed)),
  )

  pub open_then : Grows owner_seat (event.Resume ∷ []) n v w → ¬ IsClosed v → ¬ IsShut w
  open_then g unclosed = open_from_shut w (shut_on (event.Resume ∷ []) n v w g ∙ shut_resume v event.Resume refl refl unclosed)
