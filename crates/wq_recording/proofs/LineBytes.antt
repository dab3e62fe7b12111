-- What the parts of a line come to.
use Rattle.std.proofs.Common.{◌≡◌, ◌≢◌, ℕ, ◌+◌, ◌-◌, ◌<◌, ◌≤◌, ◌⊎◌, ◌||◌, Bool, true, false, List, [], ◌++◌, All, Option, Some, None, OnSome, Result, Ok, Err, IfOk, IsTrue, ◌↔◌, length}
use Rattle.std.proofs.Common.{min, take, drop, slice_index, nat_lt, get_or, inl, inr, refl, le_refl, sym, ap, subst, ◌∙◌, arith, length-append, length-take, length-take-le, get_or-take}
use Rattle.std.proofs.lemmas.Bool.{ltb-true, false≢true}
use Rattle.wq_words.proofs.Common.{cases_lt}
use Rattle.std.proofs.lemmas.List.{append-nil, get_or-append-add, take-take, drop_all}
use Rattle.std.proofs.Math.Seq.{take-append_seam, drop-append_seam, take-append-add}
use Rattle.std.proofs.lemmas.List.Elements.{All-append, All-more, All-take}
use Rattle.std.specs.List.{AllWithin, HoldsAt}
use Rattle.std.specs.Io.{StartsWith, StopsAt, IsEmptyOrEndsWith, appended_bytes}
use Rattle.std.specs.Io.KnownBytes.{Consumes, IsAtEnd, Keeps}
use Rattle.std.proofs.KnownBytes.{starts_with_rest, Consumes-nil, Consumes-kept, Consumes-trans}
use Rattle.wq_recording.specs.Lines.{EndsWithLf, LineEnds, EndsOrGoesOn}

-- n bytes of those at hand, behind the bytes of a line
module _ (old bytes : List ℕ) (n : ℕ) (within : n ≤ length bytes) where
  longer : length (old ++ take n bytes) ≡ length old + n
  longer = omega (arith, length-append old (take n bytes), length-take-le n bytes within)

  last_is : 0 < n → slice_index (old ++ take n bytes) (length (old ++ take n bytes) - 1) ≡ slice_index bytes (n - 1)
  last_is some =
      ap (λ m. get_or (old ++ take n bytes) m 0) (omega (arith, longer))
      ∙ get_or-append-add old (take n bytes) (n - 1) 0 ∙ get_or-take n bytes (n - 1) 0 (omega arith)

  ends_with : 0 < n → slice_index bytes (n - 1) ≡ 10 → EndsWithLf (old ++ take n bytes)
  ends_with some is = (omega (arith, longer), last_is some ∙ is)

  part_last : 0 < n → slice_index (take n bytes) (length (take n bytes) - 1) ≡ slice_index bytes (n - 1)
  part_last some = ap (λ m. get_or (take n bytes) (m - 1) 0) (length-take-le n bytes within) ∙ get_or-take n bytes (n - 1) 0 (omega arith)

  none_yet : 0 < n → All (λ x. x ≢ 10) old → All (λ x. x ≢ 10) (take (n - 1) bytes) → slice_index bytes (n - 1) ≢ 10
      → All (λ x. x ≢ 10) (old ++ take n bytes)
  none_yet some none before last =
      let all = All-more (λ x. x ≢ 10) bytes (n - 1) 0 (omega arith) before last in
      let P : ℕ → Type 0 = λ m. All (λ x. x ≢ 10) (take m bytes) in
      All-append (λ x. x ≢ 10) old (take n bytes) none (subst P (omega arith) all)

  module _ (known left : Option (List ℕ)) (none : All (λ x. x ≢ 10) old) (before : All (λ x. x ≢ 10) (take (n - 1) bytes)) where
    read_some : 0 < n → (ends long : Bool) → IsTrue ends ↔ IsEmptyOrEndsWith (take n bytes) 10 → long ≡ nat_lt 4096 (length (old ++ take n bytes))
        → EndsOrGoesOn (ends || long) (old ++ take n bytes) known left
    read_some some true long is same =
        inl (ends_with some (sym (part_last some) ∙ is.0 refl (omega (arith, length-take-le n bytes within))))
    read_some some false true is same = inr (inl (ltb-true _ _ (sym same)))
    read_some some false false is same = none_yet some none before (λ last. false≢true (is.1 (λ _. part_last some ∙ last)))

  read_none : (known left : Option (List ℕ)) (ends long : Bool) → n ≡ 0 → length old ≤ 4097 → IsTrue ends ↔ IsEmptyOrEndsWith (take n bytes) 10
      → (n < length bytes → n < 4097 - length old → 0 < n) → (length bytes ≡ 0 → OnSome known (IsAtEnd left))
      → EndsOrGoesOn (ends || long) (old ++ take n bytes) known left
  read_none known left true long zero room is full end = inr (by_room (cases_lt 0 (length bytes)))
    where
      by_room : (0 < length bytes) ⊎ (length bytes ≤ 0) → (4096 < length (old ++ take n bytes)) ⊎ OnSome known (IsAtEnd left)
      by_room (inl some) = elim (cases_lt 0 (4097 - length old)) [
        | inl free ↦ absurd (omega (arith, full (omega (arith, some, zero)) (omega (arith, free, zero)), zero))
        | inr none ↦ inl (omega (arith, longer, none, zero))
      ]
      by_room (inr empty) = inr (end (omega arith))
  read_none known left false long zero room is full end = absurd (false≢true (is.1 (λ some. absurd (omega (arith, some, length-take-le n bytes within)))))

  stops : All (λ x. x ≢ 10) old → All (λ x. x ≢ 10) (take (n - 1) bytes) → StopsAt (old ++ take n bytes) 10
  stops none before = elim (cases_lt 0 n) [
    | inl some ↦
        let P : List ℕ → Type 0 = λ l. All (λ x. x ≢ 10) l in
        let last : length (old ++ take n bytes) - 1 ≡ length old + (n - 1) = omega (arith, longer, some) in
        let front : take (length (old ++ take n bytes) - 1) (old ++ take n bytes) ≡ old ++ take (n - 1) bytes =
        ap (λ m. take m (old ++ take n bytes)) last ∙ take-append-add old (take n bytes) (n - 1)
        ∙ ap (λ l. old ++ l) (take-take (n - 1) n bytes (omega arith)) in
        subst P (sym front) (All-append (λ x. x ≢ 10) old (take (n - 1) bytes) none before)
    | inr zero ↦
        let P : List ℕ → Type 0 = λ l. All (λ x. x ≢ 10) l in
        let none_more : n ≡ 0 = omega (arith, zero) in
        let whole : old ++ take n bytes ≡ old = ap (λ m. old ++ take m bytes) none_more ∙ append-nil old in
        All-take (λ x. x ≢ 10) (length (old ++ take n bytes) - 1) (old ++ take n bytes) (subst P (sym whole) none)
  ]

  read : (known left : Option (List ℕ)) (ends long : Bool) → length old ≤ 4097 → All (λ x. x ≢ 10) old → All (λ x. x ≢ 10) (take (n - 1) bytes)
      → IsTrue ends ↔ IsEmptyOrEndsWith (take n bytes) 10 → long ≡ nat_lt 4096 (length (old ++ take n bytes))
      → (n < length bytes → n < 4097 - length old → 0 < n) → (length bytes ≡ 0 → OnSome known (IsAtEnd left))
      → EndsOrGoesOn (ends || long) (old ++ take n bytes) known left
  read known left ends long room none before is same full end = elim (cases_lt 0 n) [
    | inl some ↦ read_some known left none before some ends long is same
    | inr zero ↦ read_none known left ends long (omega arith) room is full end
  ]

  -- and they are the new bytes of the line
  module _ (new : List ℕ) (same : new ≡ old ++ take n bytes) where
    pub part_room : length old ≤ 4097 → n ≤ 4097 - length old → length new ≤ 4097
    part_room room fits = omega (arith, ap length same, longer, room, fits)

    pub part_stops : All (λ x. x ≢ 10) old → All (λ x. x ≢ 10) (take (n - 1) bytes) → StopsAt new 10
    part_stops none before = subst (λ l. StopsAt l 10) (sym same) (stops none before)

    pub part_appends : StartsWith new old
    part_appends = subst (λ l. StartsWith l old) (sym same) (take-append_seam old (take n bytes))

    pub part_bytes : (known left : Option (List ℕ)) → Consumes known left (take n bytes) → Consumes known left (appended_bytes old new)
    part_bytes known left moved =
        let appended : appended_bytes old new ≡ take n bytes = ap (drop (length old)) same ∙ drop-append_seam old (take n bytes) in
        subst (Consumes known left) (sym appended) moved

    pub part_read : (known left : Option (List ℕ)) (ends long : Bool) → length old ≤ 4097 → All (λ x. x ≢ 10) old
        → All (λ x. x ≢ 10) (take (n - 1) bytes) → IsTrue ends ↔ IsEmptyOrEndsWith (take n bytes) 10 → long ≡ nat_lt 4096 (length new)
        → (n < length bytes → n < 4097 - length old → 0 < n) → (length bytes ≡ 0 → OnSome known (IsAtEnd left))
        → EndsOrGoesOn (ends || long) new known left
    part_read known left ends long room none before is over full end =
        subst (λ l. EndsOrGoesOn (ends || long) l known left) (sym same)
        (read known left ends long room none before is (over ∙ ap (λ l. nat_lt 4096 (length l)) same) full end)

-- a line to which nothing came
module _ (line new : List ℕ) (same : new ≡ line) (none : All (λ x. x ≢ 10) line) where
  pub same_room : length line ≤ 4097 → length new ≤ 4097
  same_room room = omega (arith, ap length same, room)

  pub same_stops : StopsAt new 10
  same_stops = subst (λ l. StopsAt l 10) (sym same) (All-take (λ x. x ≢ 10) (length line - 1) line none)

  pub same_bytes : (known left : Option (List ℕ)) → Keeps known left → Consumes known left (appended_bytes line new)
  same_bytes known left keeps =
      let nothing : appended_bytes line new ≡ [] = ap (drop (length line)) same ∙ drop_all (length line) line (le_refl (length line)) in
      subst (Consumes known left) (sym nothing) (Consumes-kept known known left [] (Consumes-nil known) keeps)

  pub same_done : {E : Type 0} (known left : Option (List ℕ)) (r : Result Bool E) → IfOk r (λ done. done ≡ false)
      → IfOk r (λ done. EndsOrGoesOn done new known left)
  same_done known left (Ok done) is =
      let P : List ℕ → Type 0 = λ l. All (λ x. x ≢ 10) l in
      subst (λ b. EndsOrGoesOn b new known left) (sym is) (subst P (sym same) none)
  same_done known left (Err e) is = tt

-- a part behind the bytes of a line
pub read_on : (a b c : Option (List ℕ)) (old new : List ℕ) → Consumes a b old → StartsWith new old → Consumes b c (drop (length old) new) → Consumes a c new
read_on a b c old new before starts part =
    subst (Consumes a c) (sym (starts_with_rest new old starts)) (Consumes-trans a b c old (drop (length old) new) before part)

-- where it ends, it ends for the bytes that were known before
pub ends_on : (a b c : Option (List ℕ)) (old new : List ℕ) → Consumes a b old → LineEnds new b c → LineEnds new a c
ends_on a b c old new before (inl lf) = inl lf
ends_on a b c old new before (inr (inl long)) = inr (inl long)
ends_on None b c old new before (inr (inr end)) = inr (inr tt)
ends_on (Some x) None c old new before (inr (inr end)) = absurd before
ends_on (Some x) (Some y) c old new before (inr (inr end)) = inr (inr end)

-- the part of a line that is at hand, where it has room for so many of these bytes
module _ (bytes : List ℕ) (room most : ℕ) (is : most ≡ min room (length bytes)) where
  none_in_front : (place n : ℕ) → n ≤ place → n ≤ most → AllWithin (λ x. x ≢ 10) (take most bytes) 0 place → All (λ x. x ≢ 10) (take n bytes)
  none_in_front place n before within none k d lt =
      let here : k < n = omega (arith, lt, length-take n bytes) in
      subst (λ x. x ≢ 10) (get_or-take most bytes k d (omega arith) ∙ sym (get_or-take n bytes k d here)) (none k d (omega arith) (omega arith))

  pub part_to_lf : (place : ℕ)
      → (place < length (take most bytes)) × HoldsAt (λ x. x ≡ 10) (take most bytes) place × AllWithin (λ x. x ≢ 10) (take most bytes) 0 place
      → (place + 1 ≤ length bytes) × (place + 1 ≤ room) × All (λ x. x ≢ 10) (take (place + 1 - 1) bytes)
      × (0 < place + 1) × (slice_index bytes (place + 1 - 1) ≡ 10)
  part_to_lf place first =
      let within : place < most = omega (arith, first.0, length-take most bytes) in
      let last : place + 1 - 1 ≡ place = omega arith in (
        omega (arith, within, is),
        omega (arith, within, is),
        none_in_front place (place + 1 - 1) (omega arith) (omega (arith, within)) first.2,
        omega arith,
        ap (slice_index bytes) last ∙ sym (get_or-take most bytes place 0 within) ∙ first.1 0,
      )

  pub part_without_lf : AllWithin (λ x. x ≢ 10) (take most bytes) 0 (length (take most bytes))
      → (most ≤ length bytes) × (most ≤ room) × All (λ x. x ≢ 10) (take (most - 1) bytes) × (most < length bytes → most < room → ⊥)
  part_without_lf none =
      let front = none_in_front (length (take most bytes)) (most - 1) (omega (arith, is, length-take most bytes)) (omega arith) none in
      (omega (arith, is), omega (arith, is), front, λ less free. omega (arith, is))
