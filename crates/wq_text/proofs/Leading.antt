-- What lines lead to and ask for is one, and goes through each of them.
use Rattle.wq_text.proofs.Common.{◌≡◌, ℕ, List, [], ◌∷◌, ◌++◌, Option, Ok, refl, sym, ap, subst, ◌∙◌, append_assoc, option_to_list, Layout, Awaited, LinesLead}
use Rattle.wq_text.specs.Line.{Lines}
use Rattle.wq_text.specs.declared.header.Awaited.TheVariants as awaited
use Rattle.wq_words.proofs.Cases.{same_ok}

module _ {A : Type 0} (gives : Lines A) where
  pub same_lead : (s t r : Awaited) (lines : List (List ℕ)) (asked others : List A) → LinesLead gives s lines t asked → LinesLead gives s lines r others
      → (t ≡ r) × (asked ≡ others)
  same_lead s t r [] asked others x y = (sym x.0 ∙ y.0, x.1 ∙ sym y.1)
  same_lead s t r (line ∷ lines) asked others x y =
      let next : y.0 ≡ x.0 = same_ok (sym y.2 ∙ x.2) in
      let P : Awaited × Option A → Type 0 = λ z. LinesLead gives z.0 lines r y.1 in
      let more = same_lead x.0.0 t r lines x.1 y.1 x.4 (subst P next y.4) in
      let also : others ≡ option_to_list x.0.1 ++ y.1 = y.3 ∙ ap (λ (z : Awaited × Option A). option_to_list z.1 ++ y.1) next in
      (more.0, x.3 ∙ ap (λ (zs : List A). option_to_list x.0.1 ++ zs) more.1 ∙ sym also)

  -- what a line among others gives
  pub record LeadsThrough (s t : Awaited) (before : List (List ℕ)) (line : List ℕ) (more : List (List ℕ)) (asked : List A) : Type 0 where
    pub reached : Awaited
    pub first : List A
    pub next : Awaited
    pub one : Option A
    pub rest : List A
    pub leads : LinesLead gives s before reached first
    pub given : gives reached line ≡ Ok (next, one)
    pub asks : asked ≡ first ++ (option_to_list one ++ rest)
    pub goes : LinesLead gives next more t rest

  pub through : (s t : Awaited) (before : List (List ℕ)) (line : List ℕ) (more : List (List ℕ)) (asked : List A)
      → LinesLead gives s (before ++ line ∷ more) t asked → LeadsThrough s t before line more asked
  through s t [] line more asked x = record {
    reached = s;
    first = [];
    next = x.0.0;
    one = x.0.1;
    rest = x.1;
    leads = (refl, refl);
    given = x.2;
    asks = x.3;
    goes = x.4;
  }
  through s t (b ∷ before) line more asked x =
      let y = through x.0.0 t before line more x.1 x.4 in
      let mine = option_to_list x.0.1 in
      record {
        reached = y.reached;
        first = mine ++ y.first;
        next = y.next;
        one = y.one;
        rest = y.rest;
        leads = (x.0, y.first, x.2, refl, y.leads);
        given = y.given;
        asks = x.3 ∙ ap (λ (zs : List A). mine ++ zs) y.asks ∙ sym (append_assoc mine y.first (option_to_list y.one ++ y.rest));
        goes = y.goes;
      }

  -- behind a whole header the same is awaited
  pub stays_through : ((l : Layout) (line : List ℕ) (next : Awaited) (one : Option A) → gives (awaited.Commands l) line ≡ Ok (next, one)
      → next ≡ awaited.Commands l)
      → (l : Layout) (lines : List (List ℕ)) (t : Awaited) (asked : List A) → LinesLead gives (awaited.Commands l) lines t asked → t ≡ awaited.Commands l
  stays_through stays l [] t asked x = sym x.0
  stays_through stays l (line ∷ lines) t asked x =
      let P : Awaited → Type 0 = λ s. LinesLead gives s lines t x.1 in
      stays_through stays l lines t x.1 (subst P (stays l line x.0.0 x.0.1 x.2) x.4)
