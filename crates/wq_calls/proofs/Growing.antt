-- What a seat sees come new, step after step.
use Rattle.wq_calls.proofs.Common.{◌≡◌, ◌≢◌, ℕ, ◌+◌, ◌≤◌, Bool, true, false, cond, not, eqb, List, [], ◌∷◌, ◌++◌, length, sym, refl, ap, ◌∙◌, subst}
use Rattle.wq_calls.proofs.Common.{arith, append_assoc, length-append, append-nil, IsPrefix, Event, Holds, seat_of, own, Grows, own-append}
use Rattle.wq_calls.proofs.Common.{owner_seat, Known, Sees}
use Rattle.wq_core.specs.Sound.{head_word_of}
use Rattle.wq_words.specs.Seen.{others}
use Rattle.wq_words.proofs.Seen.{others-append, none_new, held_same}

pub grows_done : (c : ℕ) (v h xs : List Event) → IsPrefix v h → own c h ≡ own c v → own c xs ≡ xs → Grows c xs 0 v (h ++ xs)
grows_done c v h xs begins mine all = record {
  new = begins.0 ++ xs;
  is = ap (λ (x : List Event). x ++ xs) (sym begins.1) ∙ append_assoc v begins.0 xs;
  mine = own-append c begins.0 xs ∙ (λ i. none_new c v begins.0 h begins.1 mine i ++ all i);
  theirs = omega arith;
}

pub grows_on : (c : ℕ) (xs ys : List Event) (n m k : ℕ) (u v w : List Event) → k ≤ n + m → Grows c xs n u v → Grows c ys m v w → Grows c (xs ++ ys) k u w
grows_on c xs ys n m k u v w sum a b =
    let cut = others-append c a.new b.new in let a3 = a.theirs in let b3 = b.theirs in record {
      new = a.new ++ b.new;
      is = b.is ∙ (ap (λ (x : List Event). x ++ b.new) a.is ∙ append_assoc u a.new b.new);
      mine = own-append c a.new b.new ∙ (λ i. a.mine i ++ b.mine i);
      theirs = omega (arith, ap length cut, length-append (others c a.new) (others c b.new));
    }

pub grows_own : (c : ℕ) (xs : List Event) (n : ℕ) (v w : List Event) → Grows c xs n v w → own c w ≡ own c v ++ xs
grows_own c xs n v w g = ap (own c) g.is ∙ (own-append c v g.new ∙ ap (λ (x : List Event). own c v ++ x) g.mine)

-- what a seat made is what it was where no own event comes
pub own_kept : (n : ℕ) (old new : Known) → Sees [] n old new → own old.number new.seen ≡ own old.number old.seen
own_kept n old new sees = grows_own old.number [] n old.seen new.seen sees.grows ∙ append-nil (own old.number old.seen)

-- what an owner sees come new is of the owner's seat
pub grows_mine : (xs : List Event) (n : ℕ) (old new : Known) → old.number ≡ owner_seat → Sees xs n old new → Grows owner_seat xs n old.seen new.seen
grows_mine xs n old new mine sees = subst (λ (c : ℕ). Grows c xs n old.seen new.seen) mine sees.grows

-- what is held stays held where no own event comes
pub grows_held : (s k n : ℕ) (v w : List Event) → Grows s [] n v w → Holds v s k → Holds w s k
grows_held s k n v w g have = held_same s k v w (grows_own s [] n v w g ∙ append-nil (own s v)) have

not_own : (c : ℕ) (b : Bool) (e : Event) (es : List Event) → cond b (e ∷ own c es) (own c es) ≡ [] → b ≡ false
not_own c true e es is = cc
not_own c false e es is = refl

-- where the head is another and no own event came, another's came
some_new : (c : ℕ) (v w new : List Event) (n : ℕ) → head_word_of v ≡ n → head_word_of w ≢ n → w ≡ v ++ new → own c new ≡ []
    → 1 ≤ length (others c new)
some_new c v w [] n was is e o = absurd (is (ap head_word_of (e ∙ append-nil v) ∙ was))
some_new c v w (x ∷ xs) n was is e o = let none = not_own c (eqb (seat_of x) c) x xs o in
    subst (λ (b : Bool). 1 ≤ length (cond (not b) (x ∷ others c xs) (others c xs))) (sym none) (omega arith)

pub grows_others : (c : ℕ) (v w : List Event) (n : ℕ) → head_word_of v ≡ n → head_word_of w ≢ n → Grows c [] 0 v w → Grows c [] 1 v w
grows_others c v w n was is g = record { new = g.new; is = g.is; mine = g.mine; theirs = some_new c v w g.new n was is g.is g.mine }
