-- The layout of numbers that are in their limits.
use Rattle.wq_text.proofs.Common.{◌≡◌, ℕ, ◌≤◌, Bool, true, false, Option, Some, None, Ok, Err, nat_le, refl, sym, ap, ◌∙◌, le-leb, leb-true, true≢false}
use Rattle.wq_text.proofs.Common.{Layout, FaultKind, tested, at_most, two_of, three_of, within, in_limits, with_limits, limited}
use Rattle.std.specs.Coded.{le_prop}
use Rattle.wq_words.specs.declared.layout.LayoutError.{LayoutError}
use Rattle.wq_words.specs.declared.layout.LayoutError.TheVariants.{Items, Barriers, Senders}
use Rattle.wq_words.specs.Limits.{AreInLimits, IsBetween, IsFirstOutOfLimits, most_items, most_barriers, most_senders}

at_most-is : (m n : ℕ) (h : m ≤ n) → at_most m n ≡ Some h
at_most-is m n h = by_test (nat_le m n) refl
  where
    by_test : (b : Bool) (e : nat_le m n ≡ b) → tested m n b e ≡ Some h
    by_test true e = ap (λ (p : m ≤ n). Some p) (le_prop (leb-true m n e) h)
    by_test false e = absurd (true≢false (sym (le-leb m n h) ∙ e))

two-is : {A B : Type 0} (x : Option A) (y : Option B) (a : A) (b : B) → x ≡ Some a → y ≡ Some b → two_of x y ≡ Some (a, b)
two-is x y a b p q = rw (p, q) refl

three-is : {A B C : Type 0} (x : Option A) (y : Option B) (z : Option C) (a : A) (b : B) (c : C) → x ≡ Some a → y ≡ Some b → z ≡ Some c
    → three_of x y z ≡ Some (a, b, c)
three-is x y z a b c p q r = rw (p, q, r) refl

within-is : (low n high : ℕ) (h : IsBetween low n high) → within low n high ≡ Some h
within-is low n high h = two-is (at_most low n) (at_most n high) h.0 h.1 (at_most-is low n h.0) (at_most-is n high h.1)

limited_is : (k : FaultKind) (l : Layout) → limited k l.items l.barriers l.senders ≡ Ok l
unfolding limited
limited_is k l =
    let h = l.in_limits in
    let all : in_limits l.items l.barriers l.senders ≡ Some h =
    three-is (within 1 l.items most_items) (within 1 l.barriers most_barriers) (within 1 l.senders most_senders) h.0 h.1 h.2
    (within-is 1 l.items most_items h.0) (within-is 1 l.barriers most_barriers h.1) (within-is 1 l.senders most_senders h.2) in
    ap (with_limits k l.items l.barriers l.senders) all

pub limited_ok : (k : FaultKind) (l : Layout) (items barriers senders : ℕ) → l.items ≡ items → l.barriers ≡ barriers → l.senders ≡ senders
    → limited k items barriers senders ≡ Ok l
limited_ok k l items barriers senders p q r = rw (← p, ← q, ← r) (limited_is k l)

pub limited_err : (k : FaultKind) (items barriers senders : ℕ) (e : LayoutError) → IsFirstOutOfLimits items barriers senders e
    → limited k items barriers senders ≡ Err k
unfolding limited
limited_err k items barriers senders e out = by_limits (in_limits items barriers senders)
  where
    outside : (e : LayoutError) → IsFirstOutOfLimits items barriers senders e → AreInLimits items barriers senders → ⊥
    outside Items none h = none h.0
    outside Barriers none h = none.1 h.1
    outside Senders none h = none.2 h.2

    by_limits : (o : Option (AreInLimits items barriers senders)) → with_limits k items barriers senders o ≡ Err k
    by_limits (Some h) = absurd (outside e out h)
    by_limits None = refl
