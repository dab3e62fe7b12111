-- A step that the machine makes keeps the rule of the table, and tells its view what it was.
use Rattle.wq_table.proofs.Common.{◌≡◌, ℕ, ◌≢◌, List, [], ◌∷◌, get_or, set, sym, refl, ap, ◌∙◌, subst, ⊎_elim, some, get_elem?, State, at_set, Layout}
use Rattle.wq_table.proofs.Common.{Step, Machine, link, after, StandsIn, IsSound, Part, owner_seat, View, part, seat_at, IsPartOf, ArePartsAt}
use Rattle.wq_table.proofs.Common.{HasPartOf, HasSeenAll, Kept, word_found, Performs, all_see, AllOf, chosen, besides, prefix_self}
use Rattle.wq_core.specs.Made.{IsMade}
use Rattle.wq_table.specs.Plays.{stage_after, Makes}
use Rattle.wq_table.specs.Places.{MakesAt}
use Rattle.wq_core.proofs.Sound.{sound_after}
use Rattle.wq_table.proofs.Present.{stands_put, put_in}
use Rattle.wq_table.proofs.Changes.{Change, changes, fits_other, keeps_after, links_known, links_spared}
use Rattle.wq_table.proofs.Places.{moved_first, moved_rest, moved_chosen, moved_besides, chosen_fits, moved_fit, still_fits, seat_moved, seen_moved}
use Rattle.wq_table.proofs.Places.{AllSeen, all_moved}

abbrev Table : Type 0
Table = State (Unit {0}) View

-- the parts of another view still fit
all_other : (m n : Machine) (who : ℕ → ℕ) (c i j : ℕ) (v : View) → Change m n c
    → (c ≢ owner_seat → (k : ℕ) → StandsIn m.walked m.batch k → link n k ≡ link m k) → who c ≡ i → j ≢ i → ArePartsAt m who j v → ArePartsAt n who j v
all_other m n who c i j [] change spared here away all = tt
all_other m n who c i j (q ∷ qs) change spared here away all =
    (fits_other m n c q change spared (λ e. away (sym all.1 ∙ (ap who e ∙ here))) all.0, all.1, all.2, all_other m n who c i j qs change spared here away all.3)

-- the part after the step
abbrev pub next_part : Machine → Part → Step → Part
next_part m p step = part p.seat p.layout (after m (seat_at p.seat p.stage) step).history (after m (seat_at p.seat p.stage) step).words
    (stage_after p.stage step (word_found m p.seat step))

next_fits : (m : Machine) (p : Part) (step : Step) → IsSound m → IsPartOf m p → IsMade m (seat_at p.seat p.stage) step
    → IsPartOf (after m (seat_at p.seat p.stage) step) (next_part m p step)
next_fits m p step sound fits made = record {
  layout_is = fits.layout_is ∙ sym (changes m p.seat p.stage step fits.keeps).layout_is;
  begins = prefix_self (after m (seat_at p.seat p.stage) step).history;
  mine = refl;
  keeps = keeps_after m p.seat p.stage step sound fits.keeps made;
  links = links_known (after m (seat_at p.seat p.stage) step) (stage_after p.stage step (word_found m p.seat step));
}

-- the step as a fact about the parts before and after, where the part that acts is q then
makes_at : (at : ℕ) (step : Step) (word : ℕ) (p : Part) (ps : View) (q a : Part) (bs : View) → q ≡ chosen at a bs → (m : Makes step word (chosen at p ps) q)
    → AllOf (after m.before (seat_at (chosen at p ps).seat (chosen at p ps).stage) step) (besides at p ps)
    → besides at a bs ≡ all_see q.seen (besides at p ps) → (makes : MakesAt at step word p ps a bs) × (makes.makes.before ≡ m.before)
makes_at at step word p ps q a bs is = subst (λ (x : Part). (m : Makes step word (chosen at p ps) x)
    → AllOf (after m.before (seat_at (chosen at p ps).seat (chosen at p ps).stage) step) (besides at p ps)
    → besides at a bs ≡ all_see x.seen (besides at p ps) → (makes : MakesAt at step word p ps a bs) × (makes.makes.before ≡ m.before)) (sym is)
    (λ m fit are. (record { makes = m; still_fit = fit; others_are = are }, refl))

module _ (layout : Layout) (id at : ℕ) (p : Part) (ps : View) (σ : Layout → Step) (i : ℕ) (f g : ℕ → ℕ)
    (performs : Performs (chosen at p ps) (σ (chosen at p ps).layout) i f g) where
  -- what the step leaves: the parts that stand at the place of its view, the rule with its machine, and what it was
  pub record Stepped (s : Table) (r : Kept layout s) : Type 0 where
    pub first : Part
    pub rest : View
    pub kept : Kept layout (record { words = set s.words i (f (get_or s.words i 0)); homes = s.homes; views = set s.views id (first ∷ rest) })
    pub machine_is : kept.machine ≡ after r.machine (seat_at (chosen at p ps).seat (chosen at p ps).stage) (σ (chosen at p ps).layout)
    pub moves : MakesAt at (σ (chosen at p ps).layout) (g (get_or s.words i 0)) p ps first rest
    pub before_is : moves.makes.before ≡ r.machine
    pub all_seen : AllSeen kept.machine.history (first ∷ rest)

  pub stepped : (s : Table) (r : Kept layout s) → get_elem? s.views id ≡ some (p ∷ ps) → Stepped s r
  stepped s r there =
      let m = r.machine in let c : Part = chosen at p ps in let step : Step = σ c.layout in
      let all = r.seats id (p ∷ ps) there in let mine = chosen_fits m r.who id at p ps all in let fits : IsPartOf m c = mine.0 in
      let made = performs.made m r.sound fits in let next = after m (seat_at c.seat c.stage) step in
      let sound = sound_after m (seat_at c.seat c.stage) step r.sound made in
      let found : g (get_or s.words i 0) ≡ word_found m c.seat step = ap (λ (ws : List ℕ). g (get_or ws i 0)) r.words_are ∙
      performs.finds m r.sound fits in
      let q : Part = next_part m c step in let q_fits = next_fits m c step r.sound fits made in
      let change = changes m c.seat c.stage step fits.keeps in
      let spared = links_spared m c.seat c.stage step r.sound fits.keeps made in
      let first : Part = moved_first at next.history q p ps in let rest : View = moved_rest at next.history q p ps in
      let now : View = first ∷ rest in
      let all_now : ArePartsAt next r.who id now = moved_fit m next r.who id c.seat change spared at p ps q refl refl q_fits all in
      let told = makes_at at step (g (get_or s.words i 0)) p ps q first rest (sym (moved_chosen at next.history q p ps)) (record {
        before = m;
        sound = r.sound;
        fits = fits;
        word_is = found;
        sound_after = sound;
        fits_after = q_fits;
        seat_is = refl;
        seen_is = refl;
        words_are = refl;
        stage_is = ap (stage_after c.stage step) (sym found);
      }) (still_fits m next r.who id c.seat change spared at p ps refl all) (moved_besides at next.history q p ps) in record {
        first = first;
        rest = rest;
        kept = record {
          machine = next;
          who = r.who;
          sound = sound;
          layout_is = change.layout_is ∙ r.layout_is;
          words_are = ap (λ (ws : List ℕ). set ws i (f (get_or ws i 0))) r.words_are ∙ sym (performs.writes m r.sound fits);
          seats = λ j v other. ⊎_elim
              (λ (t : (j ≡ id) × (now ≡ v)). subst (λ (z : ℕ × View). ArePartsAt next r.who z.0 z.1) (λ k. (sym t.0 k, t.1 k)) all_now)
              (λ (t : (j ≢ id) × (get_elem? s.views j ≡ some v)). all_other m next r.who c.seat id j v change spared mine.1 t.0 (r.seats j v t.1))
              (at_set s.views id j now v other);
          present = λ d seat. stands_put s.views (HasPartOf d) id (p ∷ ps) now (r.who d) there (seat_moved d next.history q at p ps refl) (r.present d seat);
          longest = (id, put_in s.views (HasSeenAll next.history) id (p ∷ ps) now there (seen_moved next.history q at p ps refl));
        };
        machine_is = refl;
        moves = told.0;
        before_is = told.1;
        all_seen = all_moved next.history q at p ps refl;
      }
