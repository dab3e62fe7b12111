-- What one event more counts.
use Rattle.wq_calls.proofs.Common.{◌≡◌, ℕ, ◌+◌, Bool, true, false, cond, eqb, List, [], ◌∷◌, sym, refl, ap, ◌∙◌, arith, eq-eqb, count_by}
use Rattle.wq_calls.proofs.Common.{sum_by-append, Event, Hold, Busy, Push, Back, seat_of, Grows, capped, sender_counts}
use Rattle.wq_words.specs.declared.event.Why.TheVariants.{Closed, Draining, Contended, Cancelled}
use Rattle.wq_words.proofs.Growing.{count_by_push}
use Rattle.wq_words.proofs.Seen.{count_own}
use Rattle.wq_calls.specs.declared.counts.SenderCounts.{SenderCounts}
use Rattle.wq_words.specs.Counting.{is_queued_by, is_pending_by, is_closed_by, is_draining_by, is_contended_by}
use Rattle.wq_words.proofs.Counting.{queued_own, pending_own, closed_own, draining_own, contended_own}

-- a count of own events goes on by the own events that came new
pub count_on : (p : Event → Bool) (s : ℕ) → ((e : Event) → eqb (seat_of e) s ≡ false → p e ≡ false) → (xs : List Event) (n : ℕ) (v w : List Event)
    → Grows s xs n v w → count_by p w ≡ count_by p v + count_by p xs
count_on p s only xs n v w g = ap (count_by p) g.is ∙
    (sum_by-append (λ x. cond (p x) 1 0) v g.new ∙ ap (λ (x : ℕ). count_by p v + x) (count_own p s only g.new ∙ ap (count_by p) g.mine))

pub count_one : (p : Event → Bool) (e : Event) (b : Bool) → p e ≡ b → count_by p (e ∷ []) ≡ cond b 1 0
count_one p e b is = let a : count_by p (e ∷ []) ≡ 0 + cond (p e) 1 0 = count_by_push p [] e in
    let z : ◌≡◌ {A = ℕ} (cond (p e) 1 0) (cond b 1 0) = ap (λ (x : Bool). cond x 1 0) is in omega arith

-- what is added to a capped count
pub more_capped : (x y o z : ℕ) → o ≡ capped x → z ≡ x + y → capped (o + y) ≡ capped z
more_capped x y o z e f = omega arith

-- the counts after a step, where these are what it adds
pub counted : (s : ℕ) (xs : List Event) (n : ℕ) (v w : List Event) (a b c f d : ℕ) → Grows s xs n v w
    → count_by (is_queued_by s) xs ≡ a → count_by (is_pending_by s) xs ≡ b → count_by (is_closed_by s) xs ≡ c → count_by (is_draining_by s) xs ≡ f
    → count_by (is_contended_by s) xs ≡ d
    → (old : SenderCounts) → old ≡ sender_counts s v
    → ◌≡◌ {A = SenderCounts}
    (record {
      queued = capped (old.queued + a);
      pending = capped (old.pending + b);
      closed = capped (old.closed + c);
      draining = capped (old.draining + f);
      contended = capped
          (old.contended + d);
    }) (sender_counts s w)
counted s xs n v w a b c f d g qa pb cc' df kd old is =
    let q = count_on (is_queued_by s) s (queued_own s) xs n v w g in let p = count_on (is_pending_by s) s (pending_own s) xs n v w g in
    let l = count_on (is_closed_by s) s (closed_own s) xs n v w g in let k = count_on (is_contended_by s) s (contended_own s) xs n v w g in
    let r = count_on (is_draining_by s) s (draining_own s) xs n v w g in let r0 = ap (λ (x : SenderCounts). x.draining) is in
    let q0 = ap (λ (x : SenderCounts). x.queued) is in let p0 = ap (λ (x : SenderCounts). x.pending) is in
    let l0 = ap (λ (x : SenderCounts). x.closed) is in let k0 = ap (λ (x : SenderCounts). x.contended) is in
    let eq : capped (old.queued + a) ≡ capped (count_by (is_queued_by s) w) = more_capped (count_by (is_queued_by s) v) a old.queued
    (count_by (is_queued_by s) w) q0 (q ∙ ap (λ (x : ℕ). count_by (is_queued_by s) v + x) qa) in
    let ep : capped (old.pending + b) ≡ capped (count_by (is_pending_by s) w) = more_capped (count_by (is_pending_by s) v) b old.pending
    (count_by (is_pending_by s) w) p0 (p ∙ ap (λ (x : ℕ). count_by (is_pending_by s) v + x) pb) in
    let el : capped (old.closed + c) ≡ capped (count_by (is_closed_by s) w) = more_capped (count_by (is_closed_by s) v) c old.closed
    (count_by (is_closed_by s) w) l0 (l ∙ ap (λ (x : ℕ). count_by (is_closed_by s) v + x) cc') in
    let er : capped (old.draining + f) ≡ capped (count_by (is_draining_by s) w) = more_capped (count_by (is_draining_by s) v) f old.draining
    (count_by (is_draining_by s) w) r0 (r ∙ ap (λ (x : ℕ). count_by (is_draining_by s) v + x) df) in
    let ek : capped (old.contended + d) ≡ capped (count_by (is_contended_by s) w) = more_capped (count_by (is_contended_by s) v) d old.contended
    (count_by (is_contended_by s) w) k0 (k ∙ ap (λ (x : ℕ). count_by (is_contended_by s) v + x) kd) in
    λ i. record { queued = eq i; pending = ep i; closed = el i; draining = er i; contended = ek i }

-- a capped count is as it was where nothing is added
pub same_capped : (x : ℕ) (n : ℕ) → x ≡ capped n → capped (x + 0) ≡ x
same_capped x n e = omega arith

module _ (s n : ℕ) (v w : List Event) (old : SenderCounts) (is : old ≡ sender_counts s v) where
  same_q : capped (old.queued + 0) ≡ old.queued
  same_q = same_capped old.queued _ (ap (λ (x : SenderCounts). x.queued) is)

  same_p : capped (old.pending + 0) ≡ old.pending
  same_p = same_capped old.pending _ (ap (λ (x : SenderCounts). x.pending) is)

  same_l : capped (old.closed + 0) ≡ old.closed
  same_l = same_capped old.closed _ (ap (λ (x : SenderCounts). x.closed) is)

  same_r : capped (old.draining + 0) ≡ old.draining
  same_r = same_capped old.draining _ (ap (λ (x : SenderCounts). x.draining) is)

  same_k : capped (old.contended + 0) ≡ old.contended
  same_k = same_capped old.contended _ (ap (λ (x : SenderCounts). x.contended) is)

  one : (p : Event → Bool) (e : Event) → p e ≡ true → count_by p (e ∷ []) ≡ 1
  one p e is' = count_one p e true is'

  none : (p : Event → Bool) (e : Event) → p e ≡ false → count_by p (e ∷ []) ≡ 0
  none p e is' = count_one p e false is'

  pub counts_none : Grows s [] n v w → old ≡ sender_counts s w
  counts_none g = (λ i. record { queued = sym same_q i; pending = sym same_p i; closed = sym same_l i; draining = sym same_r i; contended = sym same_k i }) ∙
      counted s [] n v w 0 0 0 0 0 g refl refl refl refl refl old is

  pub counts_hold : (k : ℕ) → Grows s (Hold s k ∷ []) n v w → old ≡ sender_counts s w
  counts_hold k g = (λ i. record { queued = sym same_q i; pending = sym same_p i; closed = sym same_l i; draining = sym same_r i; contended = sym same_k i })
      ∙ counted s (Hold s k ∷ []) n v w 0 0 0 0 0 g (none (is_queued_by s) (Hold s k) refl) (none (is_pending_by s) (Hold s k) refl)
      (none (is_closed_by s) (Hold s k) refl) (none (is_draining_by s) (Hold s k) refl) (none (is_contended_by s) (Hold s k) refl) old is

  pub counts_cancelled : (k : ℕ) → Grows s (Back s k Cancelled ∷ []) n v w → old ≡ sender_counts s w
  counts_cancelled k g = (λ i. record {
    queued = sym same_q i;
    pending = sym same_p i;
    closed = sym same_l i;
    draining = sym same_r i;
    contended = sym same_k i;
  })
      ∙ counted s (Back s k Cancelled ∷ []) n v w 0 0 0 0 0 g (none (is_queued_by s) (Back s k Cancelled) refl)
      (none (is_pending_by s) (Back s k Cancelled) refl) (none (is_closed_by s) (Back s k Cancelled) refl)
      (none (is_draining_by s) (Back s k Cancelled) refl) (none (is_contended_by s) (Back s k Cancelled) refl) old is

  pub counts_busy : (k x : ℕ) → x ≡ capped (old.pending + 1) → Grows s (Busy s k ∷ []) n v w → record old { pending = x } ≡ sender_counts s w
  counts_busy k x e g = (λ i. record { queued = sym same_q i; pending = e i; closed = sym same_l i; draining = sym same_r i; contended = sym same_k i })
      ∙ counted s (Busy s k ∷ []) n v w 0 1 0 0 0 g (none (is_queued_by s) (Busy s k) refl) (one (is_pending_by s) (Busy s k) (eq-eqb s s refl))
      (none (is_closed_by s) (Busy s k) refl) (none (is_draining_by s) (Busy s k) refl) (none (is_contended_by s) (Busy s k) refl) old is

  pub counts_push : (k x : ℕ) → x ≡ capped (old.queued + 1) → Grows s (Push s k ∷ []) n v w → record old { queued = x } ≡ sender_counts s w
  counts_push k x e g = (λ i. record { queued = e i; pending = sym same_p i; closed = sym same_l i; draining = sym same_r i; contended = sym same_k i })
      ∙ counted s (Push s k ∷ []) n v w 1 0 0 0 0 g (one (is_queued_by s) (Push s k) (eq-eqb s s refl)) (none (is_pending_by s) (Push s k) refl)
      (none (is_closed_by s) (Push s k) refl) (none (is_draining_by s) (Push s k) refl) (none (is_contended_by s) (Push s k) refl) old is

  pub counts_closed : (k x : ℕ) → x ≡ capped (old.closed + 1) → Grows s (Back s k Closed ∷ []) n v w → record old { closed = x } ≡ sender_counts s w
  counts_closed k x e g = (λ i. record { queued = sym same_q i; pending = sym same_p i; closed = e i; draining = sym same_r i; contended = sym same_k i })
      ∙ counted s (Back s k Closed ∷ []) n v w 0 0 1 0 0 g (none (is_queued_by s) (Back s k Closed) refl)
      (none (is_pending_by s) (Back s k Closed) refl) (one (is_closed_by s) (Back s k Closed) (eq-eqb s s refl))
      (none (is_draining_by s) (Back s k Closed) refl) (none (is_contended_by s) (Back s k Closed) refl) old is

  pub counts_contended : (k x : ℕ) → x ≡ capped (old.contended + 1) → Grows s (Back s k Contended ∷ []) n v w
      → record old { contended = x } ≡ sender_counts s w
  counts_contended k x e g = (λ i. record { queued = sym same_q i; pending = sym same_p i; closed = sym same_l i; draining = sym same_r i; contended = e i })
      ∙ counted s (Back s k Contended ∷ []) n v w 0 0 0 0 1 g (none (is_queued_by s) (Back s k Contended) refl)
      (none (is_pending_by s) (Back s k Contended) refl) (none (is_closed_by s) (Back s k Contended) refl)
      (none (is_draining_by s) (Back s k Contended) refl) (one (is_contended_by s) (Back s k Contended) (eq-eqb s s refl)) old is

  pub counts_draining : (k x : ℕ) → x ≡ capped (old.draining + 1) → Grows s (Back s k Draining ∷ []) n v w → record old { draining = x } ≡ sender_counts s w
  counts_draining k x e g =
      (λ i. record { queued = sym same_q i; pending = sym same_p i; closed = sym same_l i; draining = e i; contended = sym same_k i })
      ∙ counted s (Back s k Draining ∷ []) n v w 0 0 0 1 0 g (none (is_queued_by s) (Back s k Draining) refl)
      (none (is_pending_by s) (Back s k Draining) refl) (none (is_closed_by s) (Back s k Draining) refl)
      (one (is_draining_by s) (Back s k Draining) (eq-eqb s s refl)) (none (is_contended_by s) (Back s k Draining) refl) old is
