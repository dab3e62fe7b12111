-- How the rule begins, and how a view is cut.
use Rattle.wq_table.proofs.Common.{◌≡◌, ◌≢◌, ℕ, zero, suc, ◌+◌, ◌<◌, List, [], ◌∷◌, ◌++◌, length, map, set, replicate, Option, None, sym, refl, ap}
use Rattle.wq_table.proofs.Common.{◌∙◌, subst, ⊎_elim, arith, some, some-injective, some-ne-none, get_elem?, State, at_set, at_map, Layout}
use Rattle.wq_table.proofs.Common.{number_count, prefix_self, word_count, Machine, View, Kept, row, opening_view, Shelves, ValueView, plain_view}
use Rattle.wq_table.proofs.Common.{plain, AllKnow, KeptValues, telling, front_values, rest_values}
use Rattle.std.proofs.lemmas.List.{map-append}
use Rattle.atomic_table.specs.Table.{Splits, opening}
use Rattle.wq_words.proofs.Growing.{at_end}
use Rattle.wq_core.specs.Machine as machine
use Rattle.wq_table.proofs.Views.{front_of, rest_of, opens, opens_machine, blanks, blanks_machine, offs, offs_machine}
use Rattle.wq_table.specs.Slots.{opening_values}
use Rattle.wq_table.proofs.ValueRule.{map_set, plain_telling}

new_know : (V : Type 0) (l : Layout) (a m : ℕ) → AllKnow {V = V} [] (map (telling []) (row l a m))
new_know V l a zero = (record { begins = prefix_self []; as_many = refl }, tt)
new_know V l a (suc m) = (record { begins = prefix_self []; as_many = refl }, new_know V l (a + 1) m)

-- so many empty slots
abbrev nones : (V : Type 0) → ℕ → List (Option V)
nones V n = replicate n None

none_there : (V : Type 0) (n k : ℕ) → k < length (map some (nones V n)) → get_elem? (map some (nones V n)) k ≡ some (some None)
none_there V zero k low = absurd (omega arith)
none_there V (suc n) zero low = refl
none_there V (suc n) (suc k) low = none_there V n k (omega arith)

module _ {V : Type 0} where
  at_start : (l : Layout) (i : ℕ) (v : ValueView V) → get_elem? (opening_values l ∷ []) i ≡ some v → AllKnow [] v
  at_start l zero v at = subst (AllKnow []) (some-injective (opening_values l) v at) (new_know V l 0 l.senders)
  at_start l (suc i) v at = absurd (some-ne-none v (sym at))

  pub opens_slots : (l : Layout) (ws : List ℕ) (n : ℕ) → ws ≡ replicate (word_count (number_count l)) 0
      → KeptValues {V = V} l (opening ws (nones V n) (opening_values l))
  opens_slots l ws n is =
      let whole : (k : Kept l (plain (opening ws (nones V n) (opening_values l)))) × (k.machine ≡ machine.opening l) =
      subst (λ (v : View). (k : Kept l (record { words = ws; homes = []; views = v ∷ [] })) × (k.machine ≡ machine.opening l))
      (sym (plain_telling {V = V} [] (opening_view l))) (opens l ws is, opens_machine l ws is) in record {
        base = whole.0;
        brought = [];
        shelves = subst (λ (m : Machine). Shelves m [] (map some (nones V n))) (sym whole.1) record {
          as_many = refl;
          free = λ k low home. none_there V n k low;
          waits = λ place k y low late stands away has. absurd cc;
          away = λ k low is. ⊎_elim (λ x. absurd x) (λ n. absurd (omega (arith, n))) is;
          right = λ place k y some_slot stands has. absurd cc;
        };
        told = at_start l;
      }

  plain_front : (v : ValueView V) → plain_view (front_values v) ≡ front_of (plain_view v)
  plain_front [] = refl
  plain_front (t ∷ ts) = refl

  plain_rest : (v : ValueView V) → plain_view (rest_values v) ≡ rest_of (plain_view v)
  plain_rest [] = refl
  plain_rest (t ∷ ts) = refl

  front_knows : (brs : List (Option V)) (v : ValueView V) → AllKnow brs v → AllKnow brs (front_values v)
  front_knows brs [] all = tt
  front_knows brs (t ∷ ts) all = (all.0, tt)

  rest_knows : (brs : List (Option V)) (v : ValueView V) → AllKnow brs v → AllKnow brs (rest_values v)
  rest_knows brs [] all = tt
  rest_knows brs (t ∷ ts) all = all.1

  -- the view at a place is cut in two, and the machine stays
  cut_values : (l : Layout) (id : ℕ) (left right : ValueView V) (s : State (Option V) (ValueView V)) (r : KeptValues l s)
      → (k : Kept l (record { words = s.words; homes = []; views = set (map plain_view s.views) id (plain_view left) ++ plain_view right ∷ [] }))
      × (k.machine ≡ r.base.machine)
      → AllKnow r.brought left → AllKnow r.brought right
      → KeptValues l (record { words = s.words; homes = s.homes; views = set s.views id left ++ right ∷ [] })
  cut_values l id left right s r cut left_knows right_knows =
      let same : map plain_view (set s.views id left ++ right ∷ []) ≡ set (map plain_view s.views) id (plain_view left) ++ plain_view right ∷ [] =
      map-append plain_view (set s.views id left) (right ∷ []) ∙ ap (λ (vs : List View). vs ++ plain_view right ∷ []) (map_set plain_view s.views id left) in
      let whole : (k : Kept l (plain (record { words = s.words; homes = s.homes; views = set s.views id left ++ right ∷ [] }))) ×
      (k.machine ≡ r.base.machine) =
      subst (λ (vs : List View). (k : Kept l (record { words = s.words; homes = []; views = vs })) × (k.machine ≡ r.base.machine)) (sym same) cut in record {
        base = whole.0;
        brought = r.brought;
        shelves = subst (λ (m : Machine). Shelves m r.brought s.homes) (sym whole.1) r.shelves;
        told = λ j w there. ⊎_elim
            (λ (t : get_elem? (set s.views id left) j ≡ some w). ⊎_elim
            (λ (u : (j ≡ id) × (left ≡ w)). subst (AllKnow r.brought) u.1 left_knows)
            (λ (u : (j ≢ id) × (get_elem? s.views j ≡ some w)). r.told j w u.1) (at_set s.views id j left w t))
            (λ (t : (j ≡ length (set s.views id left)) × (right ≡ w)). subst (AllKnow r.brought) t.1 right_knows)
            (at_end (set s.views id left) right w j there);
      }

  pub offs_slots : (l : Layout) (id : ℕ) (v : ValueView V) → Splits (KeptValues l) id v (rest_values v) (front_values v)
  offs_slots l id v s r at =
      let pv : View = plain_view v in
      let plain_at : get_elem? (map plain_view s.views) id ≡ some pv = at_map plain_view s.views id v at in
      cut_values l id (rest_values v) (front_values v) s r
      (subst (λ (x : View × View). (k : Kept l (record { words = s.words; homes = []; views = set (map plain_view s.views) id x.0 ++ x.1 ∷ [] }))
      × (k.machine ≡ r.base.machine)) (λ i. (sym (plain_rest v) i, sym (plain_front v) i))
      (offs l id pv (plain s) r.base plain_at, offs_machine l id pv (plain s) r.base plain_at))
      (rest_knows r.brought v (r.told id v at)) (front_knows r.brought v (r.told id v at))

  pub blanks_slots : (l : Layout) (id : ℕ) (v : ValueView V) → Splits (KeptValues l) id v v []
  blanks_slots l id v s r at =
      let pv : View = plain_view v in
      let plain_at : get_elem? (map plain_view s.views) id ≡ some pv = at_map plain_view s.views id v at in
      cut_values l id v [] s r (blanks l id pv (plain s) r.base plain_at, blanks_machine l id pv (plain s) r.base plain_at) (r.told id v at) tt
