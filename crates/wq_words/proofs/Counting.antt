-- What a seat counts are its own events.
use Rattle.wq_words.proofs.Common.{◌≡◌, ℕ, false, eqb, refl, Event, Busy, Push, Back, Chain, ChainBusy, owner_seat, seat_of, is_queued_by, is_pending_by}
use Rattle.wq_words.proofs.Common.{is_closed_by, is_draining_by, is_contended_by, is_chain, is_chain_busy}
use Rattle.wq_words.specs.declared.event.Why.TheVariants.{Closed, Draining, Contended}

pub queued_own : (s : ℕ) (e : Event) → eqb (seat_of e) s ≡ false → is_queued_by s e ≡ false
queued_own s (Push t k) is = is
queued_own s _ is = refl

pub pending_own : (s : ℕ) (e : Event) → eqb (seat_of e) s ≡ false → is_pending_by s e ≡ false
pending_own s (Busy t k) is = is
pending_own s _ is = refl

pub closed_own : (s : ℕ) (e : Event) → eqb (seat_of e) s ≡ false → is_closed_by s e ≡ false
closed_own s (Back t k Closed) is = is
closed_own s _ is = refl

pub draining_own : (s : ℕ) (e : Event) → eqb (seat_of e) s ≡ false → is_draining_by s e ≡ false
draining_own s (Back t k Draining) is = is
draining_own s _ is = refl

pub contended_own : (s : ℕ) (e : Event) → eqb (seat_of e) s ≡ false → is_contended_by s e ≡ false
contended_own s (Back t k Contended) is = is
contended_own s _ is = refl

pub chain_own : (e : Event) → eqb (seat_of e) owner_seat ≡ false → is_chain e ≡ false
chain_own (Chain k) is = is
chain_own _ is = refl

pub chain_busy_own : (e : Event) → eqb (seat_of e) owner_seat ≡ false → is_chain_busy e ≡ false
chain_busy_own (ChainBusy k) is = is
chain_busy_own _ is = refl
