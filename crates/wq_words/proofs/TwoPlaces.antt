-- Two places of one list.
use Rattle.wq_words.proofs.Common.{◌≡◌, ◌⊎◌, List, [], ◌∷◌, ◌++◌, refl, sym, ap, ◌∙◌, inl, inr}

module _ {X : Type 0} where
  heads : {a b : X} {xs ys : List X} → a ∷ xs ≡ b ∷ ys → a ≡ b
  heads e = cc

  tails : {a b : X} {xs ys : List X} → a ∷ xs ≡ b ∷ ys → xs ≡ ys
  tails e = cc

  pub record IsSamePlace (xs ys : List X) (x y : X) (behind rest : List X) : Type 0 where
    pub before : xs ≡ ys
    pub here : x ≡ y
    pub after : behind ≡ rest

  -- the place behind xs comes before the one behind ys
  pub record ComesBefore (xs ys : List X) (x y : X) (behind rest : List X) : Type 0 where
    pub more : List X
    pub before : ys ≡ xs ++ x ∷ more
    pub after : behind ≡ more ++ y ∷ rest

  abbrev pub Places : (xs ys : List X) (x y : X) (behind rest : List X) → Type 0
  Places xs ys x y behind rest =
      IsSamePlace xs ys x y behind rest ⊎ (ComesBefore xs ys x y behind rest ⊎ ComesBefore ys xs y x rest behind)

  behind_one : (a b : X) (xs ys : List X) (x y : X) (behind rest : List X) → a ≡ b → Places xs ys x y behind rest
      → Places (a ∷ xs) (b ∷ ys) x y behind rest
  behind_one a b xs ys x y behind rest same (inl s) =
      inl (record { before = ap (λ z. z ∷ xs) same ∙ ap (λ zs. b ∷ zs) s.before; here = s.here; after = s.after })
  behind_one a b xs ys x y behind rest same (inr (inl s)) =
      inr (inl (record { more = s.more; before = ap (λ z. z ∷ ys) (sym same) ∙ ap (λ zs. a ∷ zs) s.before; after = s.after }))
  behind_one a b xs ys x y behind rest same (inr (inr s)) =
      inr (inr (record { more = s.more; before = ap (λ z. z ∷ xs) same ∙ ap (λ zs. b ∷ zs) s.before; after = s.after }))

  pub places : (xs ys : List X) (x y : X) (behind rest : List X) → xs ++ x ∷ behind ≡ ys ++ y ∷ rest → Places xs ys x y behind rest
  places [] [] x y behind rest e = inl (record { before = refl; here = heads e; after = tails e })
  places [] (b ∷ ys) x y behind rest e = inr (inl (record { more = ys; before = ap (λ z. z ∷ ys) (sym (heads e)); after = tails e }))
  places (a ∷ xs) [] x y behind rest e = inr (inr (record { more = xs; before = ap (λ z. z ∷ xs) (heads e); after = sym (tails e) }))
  places (a ∷ xs) (b ∷ ys) x y behind rest e = behind_one a b xs ys x y behind rest (heads e) (places xs ys x y behind rest (tails e))
