-- The words of a step.
use Rattle.wq_text.proofs.Common.{◌≡◌, ◌≢◌, ℕ, ◌-◌, Bool, true, false, List, [], ◌∷◌, length, take, map, Option, Some, None, ◌==◌, refl, sym, ap, subst}
use Rattle.wq_text.proofs.Common.{MatchOption, if◌then◌else◌, eqb-true, length-map, take-map, after_b, without_last, Bor, Layout, ◌<◌}
use Rattle.wq_words.specs.Numbers.{number_count}
use Rattle.wq_core.specs.declared.step.Seat.TheVariants as seat
use Rattle.wq_text.specs.declared.turn.OwnersStep.{OwnersStep}
use Rattle.wq_text.specs.declared.turn.OwnersStep.TheVariants as owners
use Rattle.wq_text.specs.declared.turn.SendersStep.{SendersStep}
use Rattle.wq_text.specs.declared.turn.SendersStep.TheVariants as senders
use Rattle.wq_text.specs.Turn.{senders_step, owners_step}
use Rattle.wq_text.specs.Turns.{PlacedIn}

no_b : (b : ℕ) (bs : List ℕ) (e : Bool) → (b == 98) ≡ e → ((rest : List ℕ) → (b ∷ bs) ≢ 98 ∷ rest) → (if e then Some bs else None) ≡ None
no_b b bs true same none = absurd (none bs (ap (λ n. n ∷ bs) (eqb-true b 98 same)))
no_b b bs false same none = refl

pub stripped : (bs : List ℕ) (r : Option (Bor (List ℕ))) → MatchOption r ((rest : List ℕ) → bs ≢ 98 ∷ rest) (λ x. bs ≡ 98 ∷ x.now)
    → MatchOption r (after_b bs ≡ None) (λ digits. after_b bs ≡ Some digits.now)
stripped bs (Some x) h = let P : List ℕ → Type 0 = λ w. after_b w ≡ Some x.now in subst P (sym h) refl
stripped [] None h = refl
stripped (b ∷ bs) None h = no_b b bs (b == 98) refl h

pub without_last-map : (ws : List (Bor (List ℕ))) → map (λ w. w.now) (take (length ws - 1) ws) ≡ without_last (map (λ w. w.now) ws)
without_last-map ws = rw (length-map ws (λ w. w.now)) (sym (take-map (λ w. w.now) (length ws - 1) ws))

-- the seats and numbers of these steps are the queue's
pub senders_placed : (l : Layout) (kind : SendersStep) (s k : ℕ) → s < l.senders → k < number_count l → PlacedIn l (seat.Sender s, senders_step kind k)
senders_placed l senders.Hold s k seated numbered = ((seated, refl), numbered)
senders_placed l senders.Link s k seated numbered = ((seated, refl), numbered)
senders_placed l senders.Push s k seated numbered = ((seated, refl), numbered)
senders_placed l senders.Check s k seated numbered = ((seated, refl), numbered)

pub owners_placed : (l : Layout) (kind : OwnersStep) → PlacedIn l (seat.Owner, owners_step kind)
owners_placed l owners.Take = (refl, tt)
owners_placed l owners.Close = (refl, tt)
owners_placed l owners.Drain = (refl, tt)
owners_placed l owners.Resume = (refl, tt)
owners_placed l owners.Walk = (refl, tt)
owners_placed l owners.Begin = (refl, tt)
owners_placed l owners.End = (refl, tt)
owners_placed l owners.Rest = (refl, tt)
