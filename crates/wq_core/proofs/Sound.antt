-- The opening is sound, and each step that is made keeps it so. A step leaves the layout.
use Rattle.wq_core.proofs.Common.{HasSeenOpen, TakesPushes, ◌≡◌, ◌≢◌, ℕ, ◌==◌, Bool, true, false, if◌then◌else◌, List, [], ◌∷◌}
use Rattle.wq_core.proofs.Common.{Option, None, Some, unwrap_or, refl, ap, eqb-true, eqb-false, length-replicate}
use Rattle.wq_core.proofs.Common.{Layout, number_count, IsRunning, legal_nil, Private, Step, Look, Link, Check}
use Rattle.wq_core.proofs.Common.{Walk, Turn, busy_word, word_count, link_word, link_to, word_at, Machine, opening, nothing_seen, head, link, item_word}
use Rattle.wq_core.proofs.Common.{private, seen_word, after_walk, after_begin, after_end, after, running, IsMade, IsSound}
use Rattle.wq_core.specs.declared.step.Seat.{Seat}
use Rattle.wq_core.specs.declared.step.Seat.TheVariants.{Sender, Owner}
use Rattle.wq_core.specs.declared.step.Step.TheVariants.{Hold, Push, Back, Take, Close, Drain, Resume, Begin, End, Chain, Rest}
use Rattle.wq_words.proofs.Running.{runs_some}
use Rattle.wq_core.proofs.SenderSteps.{sound_hold, sound_busy, sound_look, sound_lost, sound_link, sound_push, sound_back}
use Rattle.wq_core.proofs.OwnerSteps.{sound_take, sound_close, sound_drain, sound_resume, sound_walk_end, sound_walk_on, sound_begin, sound_end, sound_chain}
use Rattle.wq_core.proofs.OwnerSteps.{sound_chain_busy, sound_rest}
use Rattle.wq_core.proofs.Privates.{none_seen}
use Rattle.wq_core.proofs.Heads.{link_open}
use Rattle.wq_core.proofs.Turning.{sound_turn}
use Rattle.wq_words.proofs.Lists.{all_alike}

pub either : (q : Bool) (P : Machine → Type 0) (a b : Machine) → (q ≡ true → P a) → (q ≡ false → P b) → P (if q then a else b)
either true P a b holds fails = holds refl
either false P a b holds fails = fails refl

-- the word that a sender has seen, where it saw the head of a queue that takes pushes
pub seen_open : (p : Option ℕ) → HasSeenOpen p → (p ≡ Some (unwrap_or p 0)) × TakesPushes (unwrap_or p 0)
seen_open None takes = absurd takes
seen_open (Some w) takes = (refl, takes)

walk_sound : (m : Machine) → IsSound m → (c : Option ℕ) → m.cursor ≡ c → IsSound (after_walk m c)
walk_sound m o None is = o
walk_sound m o (Some k) is =
    either (link m k == 0) IsSound _ _ (λ e. sound_walk_end m o k is (eqb-true (link m k) 0 e)) (λ e. sound_walk_on m o k is (eqb-false (link m k) 0 e))

begin_sound : (m : Machine) → IsSound m → (b : List ℕ) → m.batch ≡ b → b ≢ [] → m.cursor ≡ None → ¬ IsRunning m.history → IsSound (after_begin m b)
begin_sound m o [] is ne still idle = absurd (ne refl)
begin_sound m o (k ∷ ks) is ne still idle = sound_begin m o k ks still is idle

pub sound_after : (m : Machine) (seat : Seat) (step : Step) → IsSound m → IsMade m seat step → IsSound (after m seat step)
sound_after m (Sender s) (Hold k) o made =
    either (item_word m k == 0) IsSound _ _ (λ e. sound_hold m o s k made.0.0.0 made.0.1 (eqb-true (item_word m k) 0 e))
    (λ e. sound_busy m o s k made.0.0.0 made.0.1 (eqb-false (item_word m k) 0 e))
sound_after m (Sender s) Look o made = sound_look m o s made.0.0.0
sound_after m (Sender s) (Link k) o made =
    let is = seen_open (private m s).seen made.1.1 in
    sound_link m o s k (link_word (seen_word m s)) made.0.0.0 made.0.1 made.1.0 (ap link_to is.0) (link_open (seen_word m s) is.1)
sound_after m (Sender s) (Push k) o made =
    either (head m == seen_word m s) IsSound _ _ (λ e. sound_push m o s k made.0.0.0 made.0.1 made.1 (eqb-true (head m) (seen_word m s) e))
    (λ e. sound_lost m o s made.0.0.0)
sound_after m (Sender s) (Back k why) o made = sound_back m o s k why made.0.0.0 made.0.1 made.1.0 made.1.1
sound_after m (Sender s) (Check k) o made = o
sound_after m (Sender s) _ o made = absurd made.1
sound_after m Owner Take o made = sound_take m o made.1.0 made.1.1
sound_after m Owner Close o made = sound_close m o made.1.0 made.1.1
sound_after m Owner Drain o made = sound_drain m o made.1.0 made.1.1
sound_after m Owner Resume o made = sound_resume m o made.1.0 made.1.1 made.1.2 made.1.3
sound_after m Owner Walk o made = walk_sound m o m.cursor refl
sound_after m Owner Begin o made = begin_sound m o m.batch refl made.1.1 made.1.0 made.1.2
sound_after m Owner End o made =
    let r = runs_some m.history made.1 in
    rw r.1 (sound_end m o r.0 r.1)
sound_after m Owner (Chain k) o made =
    either (item_word m k == 0) IsSound _ _ (λ e. sound_chain m o k made.0.1 made.1.0 made.1.1 made.1.2 (eqb-true (item_word m k) 0 e))
    (λ e. sound_chain_busy m o k made.0.1 made.1.0 made.1.2 (eqb-false (item_word m k) 0 e))
sound_after m Owner (Turn k next) o made = sound_turn m o k made.1 (word_at next) made.0.1.0
sound_after m Owner Rest o made =
    either (head m == busy_word) IsSound _ _ (λ e. sound_rest m o made.1.0 made.1.1 made.1.2 made.1.3 (eqb-true (head m) busy_word e)) (λ e. o)
sound_after m Owner _ o made = absurd made.1

pub sound_opening : (layout : Layout) → IsSound (opening layout)
sound_opening layout = record {
  has_words = length-replicate _ _;
  has_seats = length-replicate _ _;
  legal = legal_nil layout;
  head_is = all_alike (word_count (number_count layout)) _ 0;
  rests = λ on. refl;
  items_are = λ k lt. all_alike (word_count (number_count layout)) _ 0;
  done_is = all_alike (word_count (number_count layout)) _ 0;
  chains = record { remaining = []; list_chain = refl; walk_chain = refl; order = refl; none_walked = λ _. refl };
  linked = λ s k is. absurd (cc (is, ap (λ (p : Private). p.linked) (all_alike layout.senders s nothing_seen)));
  seen = λ s why is. none_seen [] why (rw (all_alike layout.senders s nothing_seen) at is);
}

-- the layout travels with the machine
pub layout_after : (m : Machine) (seat : Seat) (step : Step) → (after m seat step).layout ≡ m.layout
layout_after m (Sender s) (Hold k) = either (item_word m k == 0) (λ x. x.layout ≡ m.layout) _ _ (λ e. refl) (λ e. refl)
layout_after m (Sender s) Look = refl
layout_after m (Sender s) (Link k) = refl
layout_after m (Sender s) (Push k) = either (head m == seen_word m s) (λ x. x.layout ≡ m.layout) _ _ (λ e. refl) (λ e. refl)
layout_after m (Sender s) (Back k why) = refl
layout_after m (Sender s) (Check k) = refl
layout_after m Owner Walk = walk m.cursor
  where
    walk : (c : Option ℕ) → (after_walk m c).layout ≡ m.layout
    walk None = refl
    walk (Some k) = either (link m k == 0) (λ x. x.layout ≡ m.layout) _ _ (λ e. refl) (λ e. refl)
layout_after m Owner Begin = begin m.batch
  where
    begin : (b : List ℕ) → (after_begin m b).layout ≡ m.layout
    begin [] = refl
    begin (k ∷ ks) = refl
layout_after m Owner End = end (running m.history)
  where
    end : (r : Option ℕ) → (after_end m r).layout ≡ m.layout
    end None = refl
    end (Some k) = refl
layout_after m Owner (Chain k) = either (item_word m k == 0) (λ x. x.layout ≡ m.layout) _ _ (λ e. refl) (λ e. refl)
layout_after m Owner Rest = either (head m == busy_word) (λ x. x.layout ≡ m.layout) _ _ (λ e. refl) (λ e. refl)
layout_after m _ _ = refl
