-- What a sender holds after events of its own.
use Rattle.wq_words.specs.Keeper.{keeper}
use Rattle.wq_words.proofs.Legal.{legal_front}
use Rattle.wq_words.proofs.Keepers.{held_once, kept}
use Rattle.wq_words.specs.Seen.{seat_of, own}
use Rattle.wq_calls.proofs.Common.{◌≡◌, ℕ, ◌<◌, Bool, true, false, not, List, [], ◌∷◌, ◌++◌, length, sym, refl, ap, ◌∙◌, subst, arith, Event, Back, Push}
use Rattle.wq_calls.proofs.Common.{Hold, Layout, Holds, IsLegal, Known, Sees}
use Rattle.std.proofs.Common.{◌+◌, ◌≤◌, cond, ◌&&◌, ◌||◌, ◌↔◌, IsTrue, ◌==◌, count_by, filter}
use Rattle.std.proofs.lemmas.Bool.{eqb-true}
use Rattle.std.proofs.lemmas.Bool.Decides.{nat_tests}
use Rattle.std.proofs.lemmas.List.Sums.{length-filter, sum_by-append}
use Rattle.wq_words.specs.History.{starts_hold, stops_hold}
use Rattle.wq_words.specs.DelayTable.{Entry, on_table}
use Rattle.std.proofs.lemmas.Bool.{and_parts}

-- events that only the seat c makes are among its own
module _ (p : Event → Bool) (c : ℕ) (mine : (e : Event) → p e ≡ true → (seat_of e == c) ≡ true) where
  own_by : (b q : Bool) (e : Event) (xs ys : List Event) → (seat_of e == c) ≡ b → p e ≡ q → xs ≡ filter p ys
      → cond q (e ∷ xs) xs ≡ filter p (cond b (e ∷ ys) ys)
  own_by true q e xs ys b is go = rw (is, go) refl
  own_by false true e xs ys b is go = let other = mine e is in absurd (cc)
  own_by false false e xs ys b is go = go

  filter-own : (h : List Event) → filter p h ≡ filter p (own c h)
  filter-own [] = refl
  filter-own (e ∷ h) = own_by (seat_of e == c) (p e) e (filter p h) (own c h) refl refl (filter-own h)

  pub count_by-own : (h : List Event) → count_by p h ≡ count_by p (own c h)
  count_by-own h = sym (length-filter p h) ∙ (ap (length {A = Event}) (filter-own h) ∙ length-filter p (own c h))

starts_mine : (s k : ℕ) (e : Event) → starts_hold s k e ≡ true → (seat_of e == s) ≡ true
starts_mine s k (Hold t j) is = (and_parts (j == k) (t == s) is).1
starts_mine s k _ is = absurd (cc)

stops_mine : (s k : ℕ) (e : Event) → stops_hold s k e ≡ true → (seat_of e == s) ≡ true
stops_mine s k (Push t j) is = (and_parts (j == k) (t == s) is).1
stops_mine s k (Back t j why) is = (and_parts (j == k) (t == s) is).1
stops_mine s k _ is = absurd (cc)

abbrev pub starts : ℕ → ℕ → List Event → ℕ
starts s k h = count_by (starts_hold s k) h

abbrev pub stops : ℕ → ℕ → List Event → ℕ
stops s k h = count_by (stops_hold s k) h

-- how often the seat of a began and ended to hold k, before and after the events xs of its own
pub record Counted (xs : List Event) (a b : Known) (k : ℕ) : Type 0 where
  pub number_is : b.number ≡ a.number
  pub starts_is : starts a.number k b.seen ≡ starts a.number k a.seen + starts a.number k xs
  pub stops_is : stops a.number k b.seen ≡ stops a.number k a.seen + stops a.number k xs
  pub old_low : stops a.number k a.seen ≤ starts a.number k a.seen
  pub old_high : starts a.number k a.seen ≤ stops a.number k a.seen + 1
  pub new_low : stops a.number k b.seen ≤ starts a.number k b.seen
  pub new_high : starts a.number k b.seen ≤ stops a.number k b.seen + 1

low_of : (layout : Layout) (h : List Event) (s k : ℕ) → IsLegal layout h → stops s k h ≤ starts s k h
low_of layout h s k legal = omega (arith, (kept layout h legal s k).0)

high_of : (layout : Layout) (h : List Event) (s k : ℕ) → IsLegal layout h → starts s k h ≤ stops s k h + 1
high_of layout h s k legal = omega (arith, (kept layout h legal s k).0, held_once s (keeper h k))

count_more : (p : Event → Bool) (c : ℕ) (mine : (e : Event) → p e ≡ true → (seat_of e == c) ≡ true) (h new w xs : List Event) → w ≡ h ++ new → own c new ≡ xs
    → count_by p w ≡ count_by p h + count_by p xs
count_more p c mine h new w xs is own_is =
    ap (count_by p) is ∙ (sum_by-append (λ x. cond (p x) 1 0) h new ∙ ap (λ (n : ℕ). count_by p h + n) (count_by-own p c mine new ∙ ap (count_by p) own_is))

pub counted : (xs : List Event) (n : ℕ) (a b : Known) (k : ℕ) → Sees xs n a b → Counted xs a b k
counted xs n a b k sees =
    let s = a.number in let g = sees.grows in
    let old_legal : IsLegal b.layout a.seen = legal_front b.layout a.seen g.new (subst (IsLegal b.layout) g.is sees.legal) in record {
      number_is = sees.same.number_is;
      starts_is = count_more (starts_hold s k) s (starts_mine s k) a.seen g.new b.seen xs g.is g.mine;
      stops_is = count_more (stops_hold s k) s (stops_mine s k) a.seen g.new b.seen xs g.is g.mine;
      old_low = low_of b.layout a.seen s k old_legal;
      old_high = high_of b.layout a.seen s k old_legal;
      new_low = low_of b.layout b.seen s k sees.legal;
      new_high = high_of b.layout b.seen s k sees.legal;
    }

-- what stands on the table is what the sender holds
abbrev pub HoldsAll : Known → List Entry → Type 0
HoldsAll a t = (k : ℕ) → IsTrue (on_table k t) ↔ Holds a.seen a.number k

holds_at : (h : List Event) (s t k : ℕ) → s ≡ t → stops t k h < starts t k h → Holds h s k
holds_at h s t k is low = subst (λ (z : ℕ). stops z k h < starts z k h) (sym is) low

holds_of : (h : List Event) (s t k : ℕ) → s ≡ t → Holds h s k → stops t k h < starts t k h
holds_of h s t k is low = subst (λ (z : ℕ). stops z k h < starts z k h) is low

pub holds_same : (xs : List Event) (n : ℕ) (a b : Known) (t : List Entry) → Sees xs n a b → ((k : ℕ) → starts a.number k xs ≡ stops a.number k xs)
    → HoldsAll a t → HoldsAll b t
holds_same xs n a b t sees even held k =
    let c = counted xs n a b k sees in let e = even k in (
      λ on. let low = (held k).0 on in holds_at b.seen b.number a.number k c.number_is (omega (arith, c.starts_is, c.stops_is)),
      λ holds. let low = holds_of b.seen b.number a.number k c.number_is holds in (held k).1 (omega (arith, c.starts_is, c.stops_is)),
    )

-- k was not held before its Hold, and is held after it
pub free_before : (n : ℕ) (a b : Known) (k : ℕ) → Sees (Hold a.number k ∷ []) n a b → ¬ Holds a.seen a.number k
free_before n a b k sees holds =
    let c = counted (Hold a.number k ∷ []) n a b k sees in let one : starts a.number k (Hold a.number k ∷ []) ≡ 1 = grind (arith, nat_tests) in
    omega (arith, c.starts_is, c.stops_is, c.new_high)

pub holds_more : (n : ℕ) (a b : Known) (k : ℕ) (t u : List Entry) → Sees (Hold a.number k ∷ []) n a b
    → ((j : ℕ) → on_table j u ≡ ((j == k) || on_table j t)) → HoldsAll a t → HoldsAll b u
holds_more n a b k t u sees on held j = by (j == k) refl
  where
    by : (q : Bool) → (j == k) ≡ q → IsTrue (on_table j u) ↔ Holds b.seen b.number j
    by true same =
        let e : j ≡ k = eqb-true j k same in let c = counted (Hold a.number k ∷ []) n a b j sees in
        let one : starts a.number j (Hold a.number k ∷ []) ≡ 1 = grind (arith, nat_tests) in (
          λ _. holds_at b.seen b.number a.number j c.number_is (omega (arith, c.starts_is, c.stops_is, c.old_low)),
          λ _. on j
              ∙ ap (λ (z : Bool). z || on_table j t) same,
        )
    by false other =
        let c = counted (Hold a.number k ∷ []) n a b j sees in
        let none : starts a.number j (Hold a.number k ∷ []) ≡ 0 = grind (arith, nat_tests) in
        let is : on_table j u ≡ on_table j t = on j ∙ ap (λ (z : Bool). z || on_table j t) other in (
          λ here. let low = (held j).0 (sym is ∙ here) in holds_at b.seen b.number a.number j c.number_is (omega (arith, c.starts_is, c.stops_is)),
          λ holds. let low = holds_of b.seen b.number a.number j c.number_is holds in is ∙ (held j).1 (omega (arith, c.starts_is, c.stops_is)),
        )

-- k was held, and is not after the one event x of its sender
pub holds_less : (x : Event) (n : ℕ) (a b : Known) (k : ℕ) (t u : List Entry) → Sees (x ∷ []) n a b
    → ((j : ℕ) → starts a.number j (x ∷ []) ≡ 0) → ((j : ℕ) → stops a.number j (x ∷ []) ≡ cond (k == j) 1 0)
    → ((j : ℕ) → on_table j u ≡ (not (j == k) && on_table j t)) → HoldsAll a t → HoldsAll b u
holds_less x n a b k t u sees none one on held j = by (j == k) refl
  where
    by : (q : Bool) → (j == k) ≡ q → IsTrue (on_table j u) ↔ Holds b.seen b.number j
    by true same =
        let e : j ≡ k = eqb-true j k same in let c = counted (x ∷ []) n a b j sees in let o = none j in
        let once : stops a.number j (x ∷ []) ≡ 1 = one j ∙ grind (arith, nat_tests) in
        let off : on_table j u ≡ false = on j ∙ ap (λ (z : Bool). not z && on_table j t) same in (
          λ here. absurd (cc),
          λ holds. let low = holds_of b.seen b.number a.number j c.number_is holds in
              absurd (omega (arith, c.starts_is, c.stops_is, c.old_high)),
        )
    by false other =
        let c = counted (x ∷ []) n a b j sees in let o = none j in
        let never : stops a.number j (x ∷ []) ≡ 0 = one j ∙ grind (arith, nat_tests) in
        let is : on_table j u ≡ on_table j t = on j ∙ ap (λ (z : Bool). not z && on_table j t) other in (
          λ here. let low = (held j).0 (sym is ∙ here) in holds_at b.seen b.number a.number j c.number_is (omega (arith, c.starts_is, c.stops_is)),
          λ holds. let low = holds_of b.seen b.number a.number j c.number_is holds in is ∙ (held j).1 (omega (arith, c.starts_is, c.stops_is)),
        )
