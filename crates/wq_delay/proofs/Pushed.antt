-- What an advance pushes is a beginning of what was due, since a closed queue takes no push.
use Rattle.wq_words.specs.History.{accepted, IsClosed}
use Rattle.wq_words.specs.Seen.{seat_of, own}
use Rattle.wq_words.specs.Legal.{IsAllowed}
use Rattle.wq_words.proofs.Appended.{count_by-cons}
use Rattle.wq_words.proofs.Closed.{closed_shuts, closed_stays}
use Rattle.wq_words.proofs.Legal.{legal_next, legal_rest}
use Rattle.wq_delay.proofs.Common.{◌≡◌, ℕ, suc, Bool, true, false, cond, List, [], ◌∷◌, ◌++◌, ◌==◌, take, count_by, sym, refl, ap, ◌∙◌, subst, inl, inr, arith}
use Rattle.wq_delay.proofs.Common.{AllZip, Layout, Event, Push, Back, is_push, Entry, items, due_part, IsLegal, DelayState, IsOut, PostsDue}
use Rattle.wq_delay.proofs.Accepted.{GrowsBy, grows_by}
use Rattle.wq_words.specs.declared.event.Why.TheVariants as why

-- what the events ys accept are the items of the first of these entries, as many as they push
abbrev PushesFirst : List Entry → List Event → Type 0
PushesFirst es ys = accepted ys ≡ items (take (count_by is_push ys) es)

-- one more that is pushed
one_more : (s : ℕ) (e : Entry) (es : List Entry) (ys : List Event) → PushesFirst es ys → PushesFirst (e ∷ es) (Push s e.item ∷ ys)
one_more s e es ys so =
    let more : count_by is_push (Push s e.item ∷ ys) ≡ suc (count_by is_push ys) = omega (arith, count_by-cons is_push (Push s e.item) ys) in
    ap (λ (ks : List ℕ). e.item ∷ ks) so ∙ ap (λ (n : ℕ). items (take n (e ∷ es))) (sym more)

-- one that is given back, where none is pushed behind it
none_more : (s : ℕ) (e : Entry) (es : List Entry) (ys : List Event) → PushesFirst es ys → count_by is_push ys ≡ 0
    → PushesFirst (e ∷ es) (Back s e.item why.Closed ∷ ys)
none_more s e es ys so none =
    let more : count_by is_push (Back s e.item why.Closed ∷ ys) ≡ 0 = omega (arith, none, count_by-cons is_push (Back s e.item why.Closed) ys) in
    so ∙ (ap (λ (n : ℕ). items (take n es)) none ∙ ap (λ (n : ℕ). items (take n (e ∷ es))) (sym more))

module _ (layout : Layout) (s : ℕ) where
  -- a closed queue takes no push, now or later
  no_push : (h : List Event) (x : Event) → IsAllowed layout h x → IsClosed h → is_push x ≡ false
  no_push h (Push c k) allowed closed = absurd (allowed.2.1 (closed_shuts h closed))
  no_push h _ allowed closed = refl

  none_pushed : (h es : List Event) → IsLegal layout (h ++ es) → IsClosed h → count_by is_push (own s es) ≡ 0
  none_pushed h [] legal closed = refl
  none_pushed h (x ∷ es) legal closed =
      by (seat_of x == s) (no_push h x (legal_next layout h x es legal) closed)
      (none_pushed (h ++ x ∷ []) es (legal_rest layout h x es legal) (closed_stays h x closed))
    where
      by : (b : Bool) → is_push x ≡ false → count_by is_push (own s es) ≡ 0 → count_by is_push (cond b (x ∷ own s es) (own s es)) ≡ 0
      by true quiet rest = omega (arith, count_by-cons is_push x (own s es), rest, ap {B = ℕ} (λ (p : Bool). cond p 1 0) quiet)
      by false quiet rest = rest

  -- the events of s that stand behind h in a legal history, where each lets the next entry go
  went_first : (h es : List Event) (x : Event) (gone left : List Entry) → IsLegal layout (h ++ x ∷ es) → AllZip (IsOut s) gone (x ∷ own s es)
      → ((fewer : List Entry) → AllZip (IsOut s) fewer (own s es) → PushesFirst (fewer ++ left) (own s es))
      → PushesFirst (gone ++ left) (x ∷ own s es)
  went_first h es x [] left legal out rest = absurd out
  went_first h es x (e ∷ gone) left legal out rest = elim out.0 [
    | inl push ↦
        subst (λ (y : Event). PushesFirst (e ∷ gone ++ left) (y ∷ own s es)) (sym push) (one_more s e (gone ++ left) (own s es) (rest gone out.1))
    | inr back ↦
        let closed : IsClosed h = (subst (IsAllowed layout h) back (legal_next layout h x es legal)).2.1 in
        let none = none_pushed (h ++ x ∷ []) es (legal_rest layout h x es legal) (closed_stays h x closed) in
        subst (λ (y : Event). PushesFirst (e ∷ gone ++ left) (y ∷ own s es)) (sym back)
        (none_more s e (gone ++ left) (own s es) (rest gone out.1) none)
  ]

  pushed_first : (h es : List Event) (gone left : List Entry) → IsLegal layout (h ++ es) → AllZip (IsOut s) gone (own s es)
      → PushesFirst (gone ++ left) (own s es)
  pushed_first h [] gone left legal out = refl
  pushed_first h (x ∷ es) gone left legal out =
      by (seat_of x == s) out (λ fewer more. pushed_first (h ++ x ∷ []) es fewer left (legal_rest layout h x es legal) more)
    where
      by : (b : Bool) → AllZip (IsOut s) gone (cond b (x ∷ own s es) (own s es))
          → ((fewer : List Entry) → AllZip (IsOut s) fewer (own s es) → PushesFirst (fewer ++ left) (own s es))
          → PushesFirst (gone ++ left) (cond b (x ∷ own s es) (own s es))
      by true out rest = went_first h es x gone left legal out rest
      by false out rest = rest gone out

-- what was posted of the due part
pub pushed_due : (t tries pushed refused : ℕ) (old new : DelayState) → PostsDue t tries old new pushed refused
    → GrowsBy (items (take pushed (due_part t old.table.entries))) old.sender new.sender
pushed_due t tries pushed refused old new posts =
    let s = old.sender.number in let g = posts.seen.grows in
    let first = pushed_first new.sender.layout s old.sender.seen g.new posts.gone posts.left (subst (IsLegal new.sender.layout) g.is posts.seen.legal)
    (subst (AllZip (IsOut s) posts.gone) (sym g.mine) posts.out) in
    let many : count_by is_push (own s g.new) ≡ pushed = ap (count_by is_push) g.mine ∙ sym posts.pushed_is in
    grows_by posts.events 0 old.sender new.sender posts.seen
    ∙ ap (λ (ks : List ℕ). accepted (own s old.sender.seen) ++ ks)
    (ap accepted (sym g.mine) ∙ (first ∙ (λ i. items (take (many i) (sym posts.due_is i)))))
