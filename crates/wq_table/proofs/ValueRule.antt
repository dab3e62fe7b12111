-- A step that the machine makes, and that moves its slot, keeps the rule, and tells its seats what it was.
use Rattle.wq_table.proofs.Common.{◌≡◌, ◌≢◌, ℕ, zero, suc, arith, List, [], ◌∷◌, length, length-set, map, get_or, set, sym, refl, ap, ◌∙◌, subst}
use Rattle.wq_table.proofs.Common.{⊎_elim, Option, some, none, IsPrefix, get_elem?, keeps, takes, at_set, at_map, Layout, Event, accepted, AreBrought}
use Rattle.wq_table.proofs.Common.{prefix_self, Step, Machine, after, Part, ValuePart, View, seat_at, IsPartOf, Kept, word_found, Performs, chosen}
use Rattle.wq_table.proofs.Common.{Shelves, ValueView, plain_view, plain, AllKnow, KeptValues, telling, Hand, ValueSat, MovesSlot, GoesBy, AllTold}
use mathlib.Core.Option as maybe
use Rattle.atomic_table.specs.Table.{Act, gives, chain, Allows, homes_after, carried_after}
use Rattle.wq_words.proofs.Prefixes.{prefix_on}
use Rattle.wq_table.specs.SlotSteps.{ValueMakes}
use Rattle.wq_table.proofs.Places.{chosen_fits, AllSeen}
use Rattle.wq_table.proofs.Rule.{stepped}

pub map_set : {A B : Type 0} (f : A → B) (l : List A) (i : ℕ) (a : A) → map f (set l i a) ≡ set (map f l) i (f a)
map_set f [] i a = refl
map_set f (x ∷ xs) zero a = refl
map_set f (x ∷ xs) (suc i) a = ap (λ l. f x ∷ l) (map_set f xs i a)

-- a slot that moves is a slot still
homes_many : {S : Type 0} (hs : List (maybe.Option S)) (c : List (ℕ × S)) (a : Act S) → length (homes_after hs c a) ≡ length hs
homes_many hs c keeps = refl
homes_many hs c (takes k y) = length-set hs k none
homes_many hs [] gives = refl
homes_many hs (x ∷ xs) gives = length-set hs x.0 (some x.1)
homes_many hs c (chain a b) = homes_many (homes_after hs c a) (carried_after c a) b ∙ homes_many hs c a

module _ {V : Type 0} where
  pub all_more : (brs brs' : List (Option V)) → IsPrefix brs brs' → (v : ValueView V) → AllKnow brs v → AllKnow brs' v
  all_more brs brs' more [] all = tt
  all_more brs brs' more (t ∷ ts) all =
      (record { begins = prefix_on t.brought brs brs' all.0.begins more; as_many = all.0.as_many }, all_more brs brs' more ts all.1)

  -- seats that were told the same, without it
  pub plain_telling : (brs : List (Option V)) (v : View) → plain_view (map (telling brs) v) ≡ v
  plain_telling brs [] = refl
  plain_telling brs (p ∷ ps) = ap (λ (l : View). p ∷ l) (plain_telling brs ps)

  pub told_know : (h : List Event) (brs : List (Option V)) (v : View) → length brs ≡ length (accepted h) → AllSeen h v → AllKnow brs (map (telling brs) v)
  told_know h brs [] many seen = tt
  told_know h brs (p ∷ ps) many seen =
      (record { begins = prefix_self brs; as_many = many ∙ ap (λ (l : List Event). length (accepted l)) (sym seen.0) }, told_know h brs ps many seen.1)

  pub told_all : (h : List Event) (brs : List (Option V)) (v : View) → length brs ≡ length (accepted h) → AllSeen h v → AllTold brs (map (telling brs) v)
  told_all h brs [] many seen = tt
  told_all h brs (p ∷ ps) many seen = (refl, many ∙ ap (λ (l : List Event). length (accepted l)) (sym seen.0), told_all h brs ps many seen.1)

  module _ (layout : Layout) (slots id at : ℕ) (t : ValuePart V) (ts : ValueView V) (c : Hand V) (σ : Layout → Step) (i : ℕ) (f g : ℕ → ℕ) (said : Option V)
      (performs : Performs (chosen at t.part (plain_view ts)) (σ (chosen at t.part (plain_view ts)).layout) i f g)
      (goes : GoesBy slots (chosen at t.part (plain_view ts)) said (σ (chosen at t.part (plain_view ts)).layout) c) where
    stepping_values : Allows (KeptValues layout) slots id (t ∷ ts, c) i f (λ n. ValueMakes slots at said σ (t ∷ ts, c) (g n))
    stepping_values s r deep there small =
        let m = r.base.machine in let ps : View = plain_view ts in let p : Part = chosen at t.part ps in let step : Step = σ p.layout in
        let views : List View = map plain_view s.views in
        let plain_at : get_elem? views id ≡ some (t.part ∷ ps) = at_map plain_view s.views id (t ∷ ts) there in
        let fits : IsPartOf m p = (chosen_fits m r.base.who id at t.part ps (r.base.seats id (t.part ∷ ps) plain_at)).0 in
        let done = stepped layout id at t.part ps σ i f g performs (plain s) r.base plain_at in
        let next : Machine = after m (seat_at p.seat p.stage) step in
        let it = goes m r.brought s.homes r.base.sound fits deep r.shelves in
        let now : ValueView V = map (telling it.brs') (done.first ∷ done.rest) in
        let now_is : plain_view now ≡ done.first ∷ done.rest = plain_telling it.brs' (done.first ∷ done.rest) in
        let views_are : map plain_view (set s.views id now) ≡ set views id (done.first ∷ done.rest) = map_set plain_view s.views id now ∙
        ap (set views id) now_is in
        let whole : (k : Kept layout (plain (record {
          words = set s.words i (f
              (get_or s.words i 0));
          homes = homes_after s.homes c it.act;
          views = set s.views id now;
        })))
        × (k.machine ≡ next) =
        subst (λ (vs : List View). (k : Kept layout (record { words = set s.words i (f (get_or s.words i 0)); homes = []; views = vs })) ×
        (k.machine ≡ next))
        (sym views_are) (done.kept, done.machine_is) in
        let seen : AllSeen next.history (done.first ∷ done.rest) =
        subst (λ (z : Machine). AllSeen z.history (done.first ∷ done.rest)) done.machine_is done.all_seen in
        let found : g (get_or s.words i 0) ≡ word_found m p.seat step =
        done.moves.makes.word_is ∙ ap (λ (z : Machine). word_found z p.seat step) done.before_is in
        let many : length it.brs' ≡ length (accepted next.history) = it.shelves.as_many in (
          now,
          it.act,
          it.valid,
          record {
            base = whole.0;
            brought = it.brs';
            shelves = subst (λ (z : Machine). Shelves z it.brs' (homes_after s.homes c it.act)) (sym whole.1) it.shelves;
            told = λ j v other. ⊎_elim
                (λ (u : (j ≡ id) × (now ≡ v)). subst (AllKnow it.brs') u.1 (told_know next.history it.brs' (done.first ∷ done.rest) many seen))
                (λ (u : (j ≢ id) × (get_elem? s.views j ≡ some v)). all_more r.brought it.brs' it.more v (r.told j v u.1))
                (at_set s.views id j now v other);
          },
          record {
            plain = record { part = t.part; others = ps; part' = done.first; others' = done.rest; was = refl; is = now_is; moves = done.moves };
            brought = r.brought;
            know = r.told id (t ∷ ts) there;
            as_many = r.shelves.as_many ∙ ap (λ (z : Machine). length (accepted z.history)) (sym done.before_is);
            brought' = it.brs';
            more = it.more;
            told = told_all next.history it.brs' (done.first ∷ done.rest) many seen;
            right = λ some_slot. let makes = done.moves.makes in
                subst (λ (z : Layout × List Event). AreBrought z.0.items (accepted z.1) it.brs') (λ k. (
                  sym (makes.fits_after.layout_is ∙ ap (λ (z : Machine). (after z (seat_at p.seat p.stage) step).layout) done.before_is) k,
                  sym (makes.seen_is ∙ ap (λ (z : Machine). (after z (seat_at p.seat p.stage) step).history) done.before_is) k,
                )) (record {
                  as_many = many;
                  carries = λ place k y stands has. it.shelves.right place k y (omega (arith, some_slot, deep, homes_many s.homes c it.act)) stands has;
                });
            moves = λ some_slot. subst (λ (z : Machine × ℕ). MovesSlot said step p z.0 z.1 r.brought c it.brs' (carried_after c it.act))
                (λ k. (sym done.before_is k, sym found k)) (it.moved (omega (arith, some_slot, deep)));
            hand_same = λ none_there. it.hand_same (deep ∙ none_there);
          },
        )

  -- the same of a seat that is known to have this view and this hand
  pub goes_values : (layout : Layout) (slots id at : ℕ) (t : ValuePart V) (ts : ValueView V) (c : Hand V) (me : ValueSat V) (σ : Layout
      → Step) (i : ℕ) (f g : ℕ → ℕ) (said : Option V)
      → me ≡ (t ∷ ts, c) → Performs (chosen at t.part (plain_view ts)) (σ (chosen at t.part (plain_view ts)).layout) i f g
      → GoesBy slots (chosen at t.part (plain_view ts)) said (σ (chosen at t.part (plain_view ts)).layout) c
      → Allows (KeptValues layout) slots id me i f (λ n. ValueMakes slots at said σ me (g n))
  goes_values layout slots id at t ts c me σ i f g said is performs goes =
      subst (λ (z : ValueSat V). Allows (KeptValues layout) slots id z i f (λ n. ValueMakes slots at said σ z (g n))) (sym is)
      (stepping_values layout slots id at t ts c σ i f g said performs goes)
