-- Views that are joined, and that see all.
use Rattle.wq_table.proofs.Common.{◌≡◌, ◌≢◌, ℕ, List, [], ◌∷◌, ◌++◌, map, get_or, set, Option, sym, refl, ap, ◌∙◌, subst, ⊎_elim, arith, some, none}
use Rattle.wq_table.proofs.Common.{get_elem?, keeps, at_set, set_else, at_map, Layout, Event, Machine, ValuePart, View, Kept, all_see, Shelves}
use Rattle.wq_table.proofs.Common.{ValueView, plain_view, plain, AllKnow, KeptValues, telling, ValueSat}
use Rattle.std.proofs.lemmas.List.{map-append}
use Rattle.atomic_table.specs.Table.{step, Allows, Joins}
use Rattle.wq_table.specs.SlotSteps.{meets_values}
use Rattle.wq_table.proofs.Places.{seeing_seen}
use Rattle.wq_table.proofs.Views.{boths, boths_machine, kept_meeting, all_of}
use Rattle.wq_table.proofs.ValueRule.{map_set, plain_telling, told_know}

module _ {V : Type 0} where
  both_know : (brs : List (Option V)) (w v : ValueView V) → AllKnow brs w → AllKnow brs v → AllKnow brs (w ++ v)
  both_know brs [] v a b = b
  both_know brs (t ∷ ts) v a b = (a.0, both_know brs ts v a.1 b)

  pub boths_slots : (l : Layout) (id : ℕ) (v : ValueView V) (other : ℕ) (w : ValueView V) → Joins (KeptValues l) id v other w (w ++ v) []
  boths_slots l id v other w s r at apart there =
      let pv : View = plain_view v in let pw : View = plain_view w in
      let views : List View = map plain_view s.views in
      let plain_at : get_elem? views id ≡ some pv = at_map plain_view s.views id v at in
      let joined : plain_view (w ++ v) ≡ pw ++ pv = map-append (λ (t : ValuePart V). t.part) w v in
      let first : map plain_view (set s.views id (w ++ v)) ≡ set views id (pw ++ pv) = map_set plain_view s.views id (w ++ v) ∙ ap (set views id) joined in
      let plain_there : get_elem? (set views id (pw ++ pv)) other ≡ some pw =
      subst (λ (vs : List View). get_elem? vs other ≡ some pw) first (at_map plain_view (set s.views id (w ++ v)) other w there) in
      let same : map plain_view (set (set s.views id (w ++ v)) other []) ≡ set (set views id (pw ++ pv)) other [] =
      map_set plain_view (set s.views id (w ++ v)) other [] ∙ ap (λ (vs : List View). set vs other []) first in
      let cut = boths l id pv other pw (plain s) r.base plain_at apart plain_there in
      let whole : (k : Kept l (plain (record { words = s.words; homes = s.homes; views = set (set s.views id (w ++ v)) other [] }))) ×
      (k.machine ≡ r.base.machine) =
      subst (λ (vs : List View). (k : Kept l (record { words = s.words; homes = []; views = vs })) × (k.machine ≡ r.base.machine)) (sym same)
      (cut, boths_machine l id pv other pw (plain s) r.base plain_at apart plain_there) in
      let at_other : get_elem? s.views other ≡ some w = sym (set_else s.views id other (w ++ v) apart) ∙ there in record {
        base = whole.0;
        brought = r.brought;
        shelves = subst (λ (m : Machine). Shelves m r.brought s.homes) (sym whole.1) r.shelves;
        told = λ j u here. ⊎_elim (λ (t : (j ≡ other) × ([] ≡ u)). subst (AllKnow r.brought) t.1 tt)
            (λ (t : (j ≢ other) × (get_elem? (set s.views id (w ++ v)) j ≡ some u)). ⊎_elim
            (λ (x : (j ≡ id) × (w ++ v ≡ u)). subst (AllKnow r.brought) x.1 (both_know r.brought w v (r.told other w at_other) (r.told id v at)))
            (λ (x : (j ≢ id) × (get_elem? s.views j ≡ some u)). r.told j u x.1) (at_set s.views id j (w ++ v) u t.1))
            (at_set (set s.views id (w ++ v)) other j [] u here);
      }

  pub meets_slots : (l : Layout) (slots id i : ℕ) (me : ValueSat V) → Allows (KeptValues l) slots id me i (λ n. n) (meets_values (step slots i 0 0 none) me)
  meets_slots l slots id i me s r deep at small =
      let m = r.base.machine in let h : List Event = m.history in
      let views : List View = map plain_view s.views in let pv : View = plain_view me.0 in
      let plain_at : get_elem? views id ≡ some pv = at_map plain_view s.views id me.0 at in
      let seen : ValueView V = map (telling r.brought) (all_see h pv) in
      let same : map plain_view (set s.views id seen) ≡ set views id (all_see h pv) =
      map_set plain_view s.views id seen ∙ ap (set views id) (plain_telling r.brought (all_see h pv)) in
      let whole : (k : Kept l (plain (record { words = set s.words i (get_or s.words i 0); homes = s.homes; views = set s.views id seen }))) ×
      (k.machine ≡ m) =
      subst (λ (vs : List View). (k : Kept l (record { words = set s.words i (get_or s.words i 0); homes = []; views = vs })) × (k.machine ≡ m)) (sym same)
      (kept_meeting l id i pv (plain s) r.base plain_at) in (
        seen,
        keeps,
        tt,
        record {
          base = whole.0;
          brought = r.brought;
          shelves = subst (λ (z : Machine). Shelves z r.brought s.homes) (sym whole.1) r.shelves;
          told = λ j v there. ⊎_elim
              (λ (t : (j ≡ id) × (seen ≡ v)). subst (AllKnow r.brought) t.1 (told_know h r.brought (all_see h pv) r.shelves.as_many (seeing_seen h pv)))
              (λ (t : (j ≢ id) × (get_elem? s.views j ≡ some v)). r.told j v t.1) (at_set s.views id j seen v there);
        },
        record {
          machine = m;
          sound = r.base.sound;
          all = all_of m r.base.who id pv (r.base.seats id pv plain_at);
          brought = r.brought;
          as_many = r.shelves.as_many;
          right = λ some_slot. record {
            as_many = r.shelves.as_many;
            carries = λ place k y stands has. r.shelves.right place k y (omega (arith, some_slot, deep)) stands has;
          };
          know = r.told id me.0 at;
          is = refl;
          hand = refl;
        },
      )
