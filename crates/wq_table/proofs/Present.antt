-- Each seat stands in some view, and some seat has seen the whole history, while views are changed, cut and joined.
use Rattle.wq_table.proofs.Common.{◌≡◌, ◌≢◌, ℕ, zero, suc, ◌+◌, ◌<◌, ◌≤◌, Bool, true, false, eqb, List, [], ◌∷◌, ◌++◌, length, length-set, set, cond}
use Rattle.wq_table.proofs.Common.{sym, refl, ap, ◌∙◌, subst, inl, inr, ⊎_elim, arith, eqb-true, eqb-false, some, some-injective, some-ne-none}
use Rattle.wq_table.proofs.Common.{get_elem?, set_else, Layout, Event, owner_seat, Part, View, HasPartOf, HasSeenAll, row, opening_view, all_see}
use Rattle.std.proofs.Common.{◌⊎◌}
use Rattle.wq_table.specs.Law.{StandsAt, IsSeatOf}

-- the place is the one, or another
same_or_other : (i j : ℕ) → (i ≡ j) ⊎ (i ≢ j)
same_or_other i j = go (eqb i j) refl
  where
    go : (b : Bool) → eqb i j ≡ b → (i ≡ j) ⊎ (i ≢ j)
    go true e = inl (eqb-true i j e)
    go false e = inr (eqb-false i j e)

put_here : {A : Type 0} (l : List A) (i : ℕ) (a b : A) → get_elem? l i ≡ some a → get_elem? (set l i b) i ≡ some b
put_here [] i a b is = absurd (some-ne-none a (sym is))
put_here (x ∷ xs) zero a b is = refl
put_here (x ∷ xs) (suc i) a b is = put_here xs i a b is

behind : {A : Type 0} (l : List A) (a b : A) (j : ℕ) → get_elem? l j ≡ some a → get_elem? (l ++ b ∷ []) j ≡ some a
behind [] a b j is = absurd (some-ne-none a (sym is))
behind (x ∷ xs) a b zero is = is
behind (x ∷ xs) a b (suc j) is = behind xs a b j is

at_last : {A : Type 0} (l : List A) (b : A) → get_elem? (l ++ b ∷ []) (length l) ≡ some b
at_last [] b = refl
at_last (x ∷ xs) b = at_last xs b

module _ (views : List View) (P : View → Type 0) where
  -- what stands in a view stands there still where another view is put in its place that has it
  pub stands_put : (id : ℕ) (a b : View) (j : ℕ) → get_elem? views id ≡ some a → (P a → P b) → StandsAt views j P → StandsAt (set views id b) j P
  stands_put id a b j at keep (v, is, has) = ⊎_elim
      (λ (e : j ≡ id). let same : v ≡ a = some-injective v a (sym is ∙ (ap (get_elem? views) e ∙ at)) in
      (b, ap (get_elem? (set views id b)) e ∙ put_here views id a b at, keep (subst P same has)))
      (λ (e : j ≢ id). (v, set_else views id j b e ∙ is, has)) (same_or_other j id)

  pub put_in : (id : ℕ) (a b : View) → get_elem? views id ≡ some a → P b → StandsAt (set views id b) id P
  put_in id a b at has = (b, put_here views id a b at, has)

  pub stands_behind : (b : View) (j : ℕ) → StandsAt views j P → StandsAt (views ++ b ∷ []) j P
  stands_behind b j (v, is, has) = (v, behind views v b j is, has)

  pub stands_last : (b : View) → P b → StandsAt (views ++ b ∷ []) (length views) P
  stands_last b has = (b, at_last views b, has)

pub seat_both : (c : ℕ) (w v : View) → HasPartOf c w ⊎ HasPartOf c v → HasPartOf c (w ++ v)
seat_both c [] v has = ⊎_elim (λ (e : ⊥). absurd e) (λ (e : HasPartOf c v). e) has
seat_both c (p ∷ ps) v has = ⊎_elim
    (λ (e : (p.seat ≡ c) ⊎ HasPartOf c ps). ⊎_elim (λ (x : p.seat ≡ c). inl x) (λ (x : HasPartOf c ps). inr (seat_both c ps v (inl x))) e)
    (λ (e : HasPartOf c v). inr (seat_both c ps v (inr e))) has

pub seen_both : (h : List Event) (w v : View) → HasSeenAll h w ⊎ HasSeenAll h v → HasSeenAll h (w ++ v)
seen_both h [] v has = ⊎_elim (λ (e : ⊥). absurd e) (λ (e : HasSeenAll h v). e) has
seen_both h (p ∷ ps) v has = ⊎_elim
    (λ (e : (p.seen ≡ h) ⊎ HasSeenAll h ps). ⊎_elim (λ (x : p.seen ≡ h). inl x) (λ (x : HasSeenAll h ps). inr (seen_both h ps v (inl x))) e)
    (λ (e : HasSeenAll h v). inr (seen_both h ps v (inr e))) has

pub seat_meets : (c : ℕ) (h : List Event) (v : View) → HasPartOf c v → HasPartOf c (all_see h v)
seat_meets c h [] has = has
seat_meets c h (p ∷ ps) has = ⊎_elim (λ (x : p.seat ≡ c). inl x) (λ (x : HasPartOf c ps). inr (seat_meets c h ps x)) has

pub seen_meets : (h : List Event) (v : View) → HasSeenAll h v → HasSeenAll h (all_see h v)
seen_meets h [] has = has
seen_meets h (p ∷ ps) has = inl refl

row_sender : (l : Layout) (c a m : ℕ) → a ≤ c → c < a + m → HasPartOf c (row l a m)
row_sender l c a zero from to = absurd (omega (arith, from, to))
row_sender l c a (suc m) from to = ⊎_elim (λ (e : a ≡ c). inl e) (λ (e : a ≢ c). inr (row_sender l c (a + 1) m (omega (arith, from, e)) (omega (arith, to))))
    (same_or_other a c)

row_owner : (l : Layout) (a m : ℕ) → HasPartOf owner_seat (row l a m)
row_owner l a zero = inl refl
row_owner l a (suc m) = inr (row_owner l (a + 1) m)

row_seen : (l : Layout) (a m : ℕ) → HasSeenAll [] (row l a m)
row_seen l a zero = inl refl
row_seen l a (suc m) = inl refl

pub present_open : (l : Layout) (c : ℕ) → IsSeatOf l c → StandsAt (opening_view l ∷ []) 0 (HasPartOf c)
present_open l c seat = (
  opening_view l,
  refl,
  ⊎_elim (λ (low : c < l.senders). row_sender l c 0 l.senders (omega arith) (omega (arith, low)))
      (λ (e : c ≡ owner_seat). subst (λ (d : ℕ). HasPartOf d (opening_view l)) (sym e) (row_owner l 0 l.senders)) seat,
)

pub longest_open : (l : Layout) → StandsAt (opening_view l ∷ []) 0 (HasSeenAll [])
longest_open l = (opening_view l, refl, row_seen l 0 l.senders)

-- the first part of the view at the place id goes to a new view at the end
module _ (views : List View) (id : ℕ) (p : Part) (ps : View) (at : get_elem? views id ≡ some (p ∷ ps)) where
  abbrev cut : List View
  cut = set views id ps ++ (p ∷ []) ∷ []

  moves_to : (P : View → Type 0) → P (p ∷ []) → StandsAt cut (length views) P
  moves_to P has = subst (λ (k : ℕ). StandsAt cut k P) (length-set views id ps) (stands_last (set views id ps) P (p ∷ []) has)

  stays_in : (P : View → Type 0) (j : ℕ) → (P (p ∷ ps) → P ps) → StandsAt views j P → StandsAt cut j P
  stays_in P j keep has = stands_behind (set views id ps) P (p ∷ []) j (stands_put views P id (p ∷ ps) ps j at keep has)

  rest_seat : (c : ℕ) → p.seat ≢ c → HasPartOf c (p ∷ ps) → HasPartOf c ps
  rest_seat c ne has = ⊎_elim (λ (e : p.seat ≡ c). absurd (ne e)) (λ (e : HasPartOf c ps). e) has

  pub cut_present : (who : ℕ → ℕ) (c : ℕ) → StandsAt views (who c) (HasPartOf c)
      → StandsAt cut (cond (eqb c p.seat) (length views) (who c)) (HasPartOf c)
  cut_present who c has = go (eqb c p.seat) refl
    where
      go : (b : Bool) → eqb c p.seat ≡ b → StandsAt cut (cond b (length views) (who c)) (HasPartOf c)
      go true e = moves_to (HasPartOf c) (inl (sym (eqb-true c p.seat e)))
      go false e = let other = eqb-false c p.seat e in stays_in (HasPartOf c) (who c) (rest_seat c (λ x. other (sym x))) has

  pub cut_longest : (h : List Event) (i : ℕ) → StandsAt views i (HasSeenAll h) → (j : ℕ) × StandsAt cut j (HasSeenAll h)
  cut_longest h i (v, is, has) = ⊎_elim
      (λ (e : i ≡ id). let same : v ≡ p ∷ ps = some-injective v (p ∷ ps) (sym is ∙ (ap (get_elem? views) e ∙ at)) in ⊎_elim
      (λ (x : p.seen ≡ h). (length views, moves_to (HasSeenAll h) (inl x)))
      (λ (x : HasSeenAll h ps). (id, stands_behind (set views id ps) (HasSeenAll h) (p ∷ []) id (put_in views (HasSeenAll h) id (p ∷ ps) ps at x)))
      (subst (HasSeenAll h) same has))
      (λ (e : i ≢ id). (i, stands_behind (set views id ps) (HasSeenAll h) (p ∷ []) i (v, set_else views id i ps e ∙ is, has))) (same_or_other i id)

-- the view at one place takes in that at another, which is left with none
pub joined_at : (views : List View) (P : View → Type 0) (id other : ℕ) (v w : View) → other ≢ id → get_elem? views id ≡ some v
    → get_elem? views other ≡ some w → (P w ⊎ P v → P (w ++ v)) → (j : ℕ) → StandsAt views j P
    → StandsAt (set (set views id (w ++ v)) other []) (cond (eqb j other) id j) P
joined_at views P id other v w apart at there both j (x, is, has) = go (eqb j other) refl
  where
    into : P w ⊎ P v → StandsAt (set (set views id (w ++ v)) other []) id P
    into part = (w ++ v, set_else (set views id (w ++ v)) other id [] (λ e. apart (sym e)) ∙ put_here views id v (w ++ v) at, both part)

    go : (b : Bool) → eqb j other ≡ b → StandsAt (set (set views id (w ++ v)) other []) (cond b id j) P
    go true e = let same : x ≡ w = some-injective x w (sym is ∙ (ap (get_elem? views) (eqb-true j other e) ∙ there)) in into (inl (subst P same has))
    go false e = let away = eqb-false j other e in ⊎_elim
        (λ (t : j ≡ id). let same : x ≡ v = some-injective x v (sym is ∙ (ap (get_elem? views) t ∙ at)) in
        subst (λ (k : ℕ). StandsAt (set (set views id (w ++ v)) other []) k P) (sym t) (into (inr (subst P same has))))
        (λ (t : j ≢ id). (x, set_else (set views id (w ++ v)) other j [] away ∙ (set_else views id j (w ++ v) t ∙ is), has)) (same_or_other j id)
