-- What goes off the table an item at a time.
use Rattle.std.proofs.lemmas.List.Sorted.{IsPermutation-refl, IsPermutation-trans, IsPermutation-cons, IsPermutation-middle, IsPermutation-append_right}
use Rattle.wq_delay.proofs.Common.{◌≡◌, ℕ, ◌+◌, ◌<◌, ◌≤◌, Bool, true, false, cond, not, ◌&&◌, ◌||◌, ◌≢◌, List, [], ◌∷◌, ◌++◌, map, ◌==◌, IsPermutation}
use Rattle.wq_delay.proofs.Common.{sym, refl, ap, ◌∙◌, subst, append_assoc, arith, eqb-true, nat_tests, append-nil, Event, Back}
use Rattle.wq_delay.proofs.Common.{Holds, Entry, without, IsOrdered, on_table, first_on, without_off, on_table-without, Known, Sees, GivesAllBack}
use Rattle.wq_calls.proofs.GoingOn.{sees_on, sees_none}
use Rattle.wq_delay.proofs.Sound.{state, FitsSize, sound_leaves, stops_back}
use Rattle.wq_words.specs.declared.event.Why.TheVariants as why

-- what was given back, and what is left
abbrev pub backs : ℕ → List Entry → List Event
backs s es = map (λ e. Back s e.item why.Cancelled) es

backs_push : (s : ℕ) (es : List Entry) (e : Entry) → backs s (es ++ e ∷ []) ≡ backs s es ++ Back s e.item why.Cancelled ∷ []
backs_push s [] e = refl
backs_push s (f ∷ fs) e = ap (λ (z : List Event). Back s f.item why.Cancelled ∷ z) (backs_push s fs e)

pub record Given (size : ℕ) (a : Known) (old : List Entry) (b : Known) (new : List Entry) : Type 0 where
  pub gone : List Entry
  pub next : ℕ
  pub split : IsPermutation old (gone ++ new)
  pub seen : Sees (backs a.number gone) 0 a b
  pub sound : FitsSize size (state b 0 next new)

pub given_none : (size : ℕ) (a : Known) (now next : ℕ) (t : List Entry) → FitsSize size (state a now next t) → Given size a t a t
given_none size a now next t sound = record {
  gone = [];
  next = next;
  split = IsPermutation-refl t;
  seen = sees_none a sound.1.legal;
  sound = (sound.0, record { ordered = sound.1.ordered; armed = sound.1.armed; held = sound.1.held; legal = sound.1.legal });
}

-- the entry of an item, and the rest
left_with : (k : ℕ) (t : List Entry) → IsOrdered t → on_table k t ≡ true → (e : Entry) × (e.item ≡ k) × IsPermutation t (e ∷ without k t)
left_with k [] ordered on = absurd (cc)
left_with k (f ∷ fs) ordered on = by (k == f.item) refl on (λ rest. left_with k fs ordered.2 rest)
  where
    by : (b : Bool) → (k == f.item) ≡ b → (b || on_table k fs) ≡ true
        → (on_table k fs ≡ true → (e : Entry) × (e.item ≡ k) × IsPermutation fs (e ∷ without k fs))
        → (e : Entry) × (e.item ≡ k) × IsPermutation (f ∷ fs) (e ∷ cond (not b) (f ∷ without k fs) (without k fs))
    by true is _ rest =
        let same : k ≡ f.item = eqb-true k f.item is in
        let off : without k fs ≡ fs = without_off k fs (subst (λ (z : ℕ). on_table z fs ≡ false) (sym same) ordered.1) in
        (f, sym same, subst (λ (z : List Entry). IsPermutation (f ∷ fs) (f ∷ z)) (sym off) (IsPermutation-refl (f ∷ fs)))
    by false is on rest =
        let r = rest on in (
          r.0,
          r.1,
          IsPermutation-trans (f ∷ fs) (f ∷ r.0 ∷ without k fs) (r.0 ∷ f ∷ without k fs) (IsPermutation-cons f fs (r.0 ∷ without k fs) r.2)
              (IsPermutation-middle (f ∷ []) r.0 (without k fs)),
        )

pub taken_held : (size k : ℕ) (a b : Known) (old t : List Entry) → Given size a old b t → on_table k t ≡ true → Holds b.seen b.number k
taken_held size k a b old t given on = (given.sound.1.held k).0 on

pub given_more : (size k : ℕ) (a b c : Known) (old t u : List Entry) → Given size a old b t → on_table k t ≡ true → u ≡ without k t
    → Sees (Back b.number k why.Cancelled ∷ []) 0 b c → Given size a old c u
given_more size k a b c old t u given on left sees =
    let out = left_with k t given.sound.1.ordered on in
    let number : b.number ≡ a.number = given.seen.same.number_is in
    let same : Back b.number k why.Cancelled ∷ [] ≡ Back a.number out.0.item why.Cancelled ∷ [] =
    ap (λ (z : ℕ). Back z k why.Cancelled ∷ []) number ∙ ap (λ (z : ℕ). Back a.number z why.Cancelled ∷ []) (sym out.1) in
    let all = sees_on (backs a.number given.gone) (Back a.number out.0.item why.Cancelled ∷ []) 0 0 a b c given.seen
    (subst (λ (z : List Event). Sees z 0 b c) same sees) in
    let moves : IsPermutation t (out.0 ∷ u) = subst (λ (z : List Entry). IsPermutation t (out.0 ∷ z)) (sym left) out.2 in
    record {
      gone = given.gone ++ out.0 ∷ [];
      next = given.next;
      split = subst (IsPermutation old) (sym (append_assoc given.gone (out.0 ∷ []) u))
          (IsPermutation-trans old (given.gone ++ t) (given.gone ++ out.0 ∷ u) given.split (IsPermutation-append_right given.gone t (out.0 ∷ u) moves));
      seen = subst (λ (z : List Event). Sees z 0 a c) (sym (backs_push a.number given.gone out.0)) all;
      sound = sound_leaves (Back b.number k why.Cancelled) size 0 k b c 0 given.next t u sees (λ j. refl)
          (λ j. stops_back b.number k j why.Cancelled) left given.sound;
    }

pub given_same : (size : ℕ) (a b : Known) (old t u : List Entry) → u ≡ t → Given size a old b t → Given size a old b u
given_same size a b old t u is given = subst (Given size a old b) (sym is) given

nothing_on : (es : List Entry) → ((k : ℕ) → on_table k es ≡ false) → es ≡ []
nothing_on [] off = refl
nothing_on (e ∷ es) off = let on = first_on (e ∷ es) es e refl in let no = off e.item in absurd (cc)

pub given_all : (size : ℕ) (a b : Known) (old t : List Entry) (now next looked : ℕ) → Given size a old b t → ((k : ℕ) → on_table k t ≡ false)
    → GivesAllBack (record { sender = a; table = record { entries = old; tick = now; next = next }; looked = looked }) b
given_all size a b old t now next looked given off = record {
  order = given.gone;
  same = subst (IsPermutation old) (ap (λ (z : List Entry). given.gone ++ z) (nothing_on t off) ∙ append-nil given.gone) given.split;
  seen = given.seen;
}

-- which items are left
pub on_less : (j k : ℕ) (es fs : List Entry) → fs ≡ without k es → on_table j fs ≡ true → on_table j es ≡ true
on_less j k es fs is on = by (j == k) (on_table j es) (sym (ap (on_table j) is ∙ on_table-without j k es) ∙ on)
  where
    by : (b c : Bool) → (not b && c) ≡ true → c ≡ true
    by true c is = absurd (cc)
    by false c is = is

pub off_more : (j k : ℕ) (es fs : List Entry) → fs ≡ without k es → (j < k → on_table j es ≡ false) → j < k + 1 → on_table j fs ≡ false
off_more j k es fs is off low = ap (on_table j) is ∙ (on_table-without j k es ∙ by (j == k) refl)
  where
    by : (b : Bool) → (j == k) ≡ b → (not b && on_table j es) ≡ false
    by true same = refl
    by false other = let ne : j ≢ k = grind (arith, nat_tests) in off (omega arith)

pub all_off : (es : List Entry) (n m : ℕ) → ((k : ℕ) → on_table k es ≡ true → k < n) → n ≤ m → ((k : ℕ) → k < m → on_table k es ≡ false)
    → (k : ℕ) → on_table k es ≡ false
all_off es n m low all off k = by (on_table k es) refl
  where
    by : (b : Bool) → on_table k es ≡ b → on_table k es ≡ false
    by false is = is
    by true on = let l = low k on in off k (omega arith)
