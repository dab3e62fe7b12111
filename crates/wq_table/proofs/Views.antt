-- Views that are cut, joined and made.
use Rattle.wq_table.proofs.Common.{◌≡◌, ℕ, zero, suc, ◌+◌, ◌-◌, ◌<◌, ◌≤◌, ◌≢◌, cond, eqb, List, [], ◌∷◌, ◌++◌, length, get_or, set, replicate, sym}
use Rattle.wq_table.proofs.Common.{refl, ap, ◌∙◌, subst, ⊎_elim, arith, length-set, some, some-injective, some-ne-none, get_elem?, State, at_set}
use Rattle.wq_table.proofs.Common.{set_else, Layout, number_count, word_count, Machine, nothing_seen, StandsIn, owner_seat, View, IsPartOf}
use Rattle.wq_table.proofs.Common.{ArePartsAt, HasPartOf, HasSeenAll, Kept, sender_part, row, opening_view, all_see, AllOf, prefix_self}
use Rattle.std.proofs.Common.{eq-eqb, ne_eqb}
use lib.Seq.{set-get_or}
use Rattle.atomic_table.specs.Table.{Splits, Joins, opening}
use Rattle.wq_core.specs.Machine.{opening as opening_machine}
use Rattle.wq_table.proofs.Present.{stands_put, stands_behind, cut_present, cut_longest, joined_at, seat_both, seen_both, seat_meets, seen_meets}
use Rattle.wq_table.proofs.Present.{present_open, longest_open}
use Rattle.wq_table.specs.Law.{Apart, owner_part}
use Rattle.wq_core.proofs.Sound.{sound_opening}
use Rattle.wq_words.proofs.Growing.{at_end}

-- the first part is cut off
abbrev pub front_of : View → View
front_of [] = []
front_of (p ∷ ps) = p ∷ []

abbrev pub rest_of : View → View
rest_of [] = []
rest_of (p ∷ ps) = ps

module _ (m : Machine) where
  -- the seats of a view may be placed anew
  refit : (who who' : ℕ → ℕ) (i i' : ℕ) (v : View) → ((c : ℕ) → who c ≡ i → who' c ≡ i') → ArePartsAt m who i v → ArePartsAt m who' i' v
  refit who who' i i' [] new all = tt
  refit who who' i i' (p ∷ ps) new all = (all.0, new p.seat all.1, all.2, refit who who' i i' ps new all.3)

  refit_apart : (who who' : ℕ → ℕ) (i c : ℕ) (v : View) → Apart c v → ((d : ℕ) → d ≢ c → who' d ≡ who d) → ArePartsAt m who i v → ArePartsAt m who' i v
  refit_apart who who' i c [] apart same all = tt
  refit_apart who who' i c (p ∷ ps) apart same all = (all.0, same p.seat apart.0 ∙ all.1, all.2, refit_apart who who' i c ps apart.1 same all.3)

  apart_from : (who : ℕ → ℕ) (j c : ℕ) → who c ≢ j → (v : View) → ArePartsAt m who j v → Apart c v
  apart_from who j c away [] all = tt
  apart_from who j c away (p ∷ ps) all = ((λ same. away (sym (ap who same) ∙ all.1)), apart_from who j c away ps all.3)

  apart_join : (c : ℕ) (v w : View) → Apart c v → Apart c w → Apart c (v ++ w)
  apart_join c [] w a b = b
  apart_join c (p ∷ ps) w a b = (a.0, apart_join c ps w a.1 b)

  -- one view after the other, where their seats are others
  fit_both : (who who' : ℕ → ℕ) (id other : ℕ) → other ≢ id → ((c : ℕ) → who c ≡ other → who' c ≡ id) → (w v : View) → ArePartsAt m who other w
      → ArePartsAt m who id v → ArePartsAt m who' id v → ArePartsAt m who' id (w ++ v)
  fit_both who who' id other apart new [] v all old rest = rest
  fit_both who who' id other apart new (p ∷ ps) v all old rest = (
    all.0,
    new p.seat all.1,
    apart_join p.seat ps v all.2 (apart_from who id p.seat (λ same. apart (sym all.1 ∙ same)) v old),
    fit_both who who' id other apart new ps v all.3 old rest,
  )

-- a seat that speaks for nobody is cut off
pub blanks : (l : Layout) (id : ℕ) (v : View) → Splits (Kept l) id v v []
blanks l id v s r at = let m = r.machine in record {
  machine = m;
  who = r.who;
  sound = r.sound;
  layout_is = r.layout_is;
  words_are = r.words_are;
  seats = λ j w there. ⊎_elim
      (λ (t : get_elem? (set s.views id v) j ≡ some w). ⊎_elim
      (λ (u : (j ≡ id) × (v ≡ w)). subst (λ (z : ℕ × View). ArePartsAt m r.who z.0 z.1) (λ i. (sym u.0 i, u.1 i)) (r.seats id v at))
      (λ (u : (j ≢ id) × (get_elem? s.views j ≡ some w)). r.seats j w u.1) (at_set s.views id j v w t))
      (λ (t : (j ≡ length (set s.views id v)) × ([] ≡ w)). subst (λ (z : View). ArePartsAt m r.who j z) t.1 tt) (at_end (set s.views id v) [] w j there);
  present = λ c seat. stands_behind (set s.views id v) (HasPartOf c) [] (r.who c)
      (stands_put s.views (HasPartOf c) id v v (r.who c) at (λ has. has) (r.present c seat));
  longest = (
    r.longest.0,
    stands_behind (set s.views id v) (HasSeenAll m.history) [] r.longest.0
        (stands_put s.views (HasSeenAll m.history) id v v r.longest.0 at (λ has. has) r.longest.1),
  );
}

-- the machine is the same
pub blanks_machine : (l : Layout) (id : ℕ) (v : View) (s : State (Unit {0}) View) (r : Kept l s) (at : get_elem? s.views id ≡ some v)
    → (blanks l id v s r at).machine ≡ r.machine
unfolding blanks
blanks_machine l id v s r at = refl

pub offs : (l : Layout) (id : ℕ) (v : View) → Splits (Kept l) id v (rest_of v) (front_of v)
offs l id [] s r at = blanks l id [] s r at
offs l id (p ∷ ps) s r at =
    let m = r.machine in let n : ℕ = length s.views in let c : ℕ = p.seat in let who' : ℕ → ℕ = λ d. cond (eqb d c) n (r.who d) in
    let all = r.seats id (p ∷ ps) at in
    let same : (d : ℕ) → d ≢ c → who' d ≡ r.who d = λ d ne. ap (λ b. cond b n (r.who d)) (ne_eqb d c ne) in record {
      machine = m;
      who = who';
      sound = r.sound;
      layout_is = r.layout_is;
      words_are = r.words_are;
      seats = λ j w there. ⊎_elim (λ (t : get_elem? (set s.views id ps) j ≡ some w). ⊎_elim
          (λ (u : (j ≡ id) × (ps ≡ w)). subst (λ (z : ℕ × View). ArePartsAt m who' z.0 z.1) (λ i. (
            sym u.0 i,
            u.1 i,
          )) (refit_apart m r.who who' id c ps all.2 same all.3))
          (λ (u : (j ≢ id) × (get_elem? s.views j ≡ some w)). let away = u.0 in let old = r.seats j w u.1 in
          refit_apart m r.who who' j c w (apart_from m r.who j c (λ e. away (sym e ∙ all.1)) w old) same old) (at_set s.views id j ps w t))
          (λ (t : (j ≡ length (set s.views id ps)) × (p ∷ [] ≡ w)). subst (λ (z : ℕ × View). ArePartsAt m who' z.0 z.1)
          (λ i. (sym (t.0 ∙ length-set s.views id ps) i, t.1 i))
          (all.0, ap (λ b. cond b n (r.who c)) (eq-eqb c c refl), tt, tt)) (at_end (set s.views id ps) (p ∷ []) w j there);
      present = λ d seat. cut_present s.views id p ps at r.who d (r.present d seat);
      longest = cut_longest s.views id p ps at m.history r.longest.0 r.longest.1;
    }

pub offs_machine : (l : Layout) (id : ℕ) (v : View) (s : State (Unit {0}) View) (r : Kept l s) (at : get_elem? s.views id ≡ some v)
    → (offs l id v s r at).machine ≡ r.machine
unfolding offs
offs_machine l id [] s r at = blanks_machine l id [] s r at
offs_machine l id (p ∷ ps) s r at = refl

pub boths : (l : Layout) (id : ℕ) (v : View) (other : ℕ) (w : View) → Joins (Kept l) id v other w (w ++ v) []
boths l id v other w s r at apart there =
    let m = r.machine in let who' : ℕ → ℕ = λ d. cond (eqb (r.who d) other) id (r.who d) in
    let at_other : get_elem? s.views other ≡ some w = sym (set_else s.views id other (w ++ v) apart) ∙ there in
    let stays : (j : ℕ) → j ≢ other → (c : ℕ) → r.who c ≡ j
    → who' c ≡ j = λ j ne c is. ap (λ b. cond b id (r.who c)) (ne_eqb (r.who c) other (λ e. ne (sym is ∙ e))) ∙ is in
    let goes : (c : ℕ) → r.who c ≡ other → who' c ≡ id = λ c is. ap (λ b. cond b id (r.who c)) (eq-eqb (r.who c) other is) in
    let mine = r.seats id v at in record {
      machine = m;
      who = who';
      sound = r.sound;
      layout_is = r.layout_is;
      words_are = r.words_are;
      seats = λ j u here. ⊎_elim (λ (t : (j ≡ other) × ([] ≡ u)). subst (λ (z : View). ArePartsAt m who' j z) t.1 tt)
          (λ (t : (j ≢ other) × (get_elem? (set s.views id (w ++ v)) j ≡ some u)). let ne = t.0 in ⊎_elim
          (λ (x : (j ≡ id) × (w ++ v ≡ u)). subst (λ (z : ℕ × View). ArePartsAt m who' z.0 z.1) (λ i. (sym x.0 i, x.1 i))
          (fit_both m r.who who' id other apart goes w v (r.seats other w at_other) mine (refit m r.who who' id id v (stays id (λ e. apart (sym e))) mine)))
          (λ (x : (j ≢ id) × (get_elem? s.views j ≡ some u)). refit m r.who who' j j u (stays j ne) (r.seats j u x.1)) (at_set s.views id j (w ++ v) u t.1))
          (at_set (set s.views id (w ++ v)) other j [] u here);
      present = λ c seat. joined_at s.views (HasPartOf c) id other v w apart at at_other (seat_both c w v) (r.who c) (r.present c seat);
      longest = (
        cond (eqb r.longest.0 other) id r.longest.0,
        joined_at s.views (HasSeenAll m.history) id other v w apart at at_other (seen_both m.history w v) r.longest.0 r.longest.1,
      );
    }

pub boths_machine : (l : Layout) (id : ℕ) (v : View) (other : ℕ) (w : View) (s : State (Unit {0}) View) (r : Kept l s) (at : get_elem? s.views id ≡ some v)
    (apart : ¬ (other ≡ id)) (there : get_elem? (set s.views id (w ++ v)) other ≡ some w) → (boths l id v other w s r at apart there).machine ≡ r.machine
unfolding boths
boths_machine l id v other w s r at apart there = refl

module _ (m : Machine) where
  pub apart_all : (c : ℕ) (v : View) → Apart c v → Apart c (all_see m.history v)
  apart_all c [] a = tt
  apart_all c (p ∷ ps) a = (a.0, apart_all c ps a.1)

  -- all parts of a view see the history so far
  pub fit_all : (who : ℕ → ℕ) (i : ℕ) (v : View) → ArePartsAt m who i v → ArePartsAt m who i (all_see m.history v)
  fit_all who i [] all = tt
  fit_all who i (p ∷ ps) all = let fits : IsPartOf m p = all.0 in (
    record { layout_is = fits.layout_is; begins = prefix_self m.history; mine = refl; keeps = fits.keeps; links = fits.links },
    all.1,
    apart_all p.seat ps all.2,
    fit_all who i ps all.3,
  )

  pub all_of : (who : ℕ → ℕ) (i : ℕ) (v : View) → ArePartsAt m who i v → AllOf m v
  all_of who i [] all = tt
  all_of who i (p ∷ ps) all = (all.0, all_of who i ps all.3)

-- what a meeting leaves, with its machine
pub kept_meeting : (l : Layout) (id i : ℕ) (v : View) (s : State (Unit {0}) View) (r : Kept l s) → get_elem? s.views id ≡ some v
    → (k : Kept l (record { words = set s.words i (get_or s.words i 0); homes = s.homes; views = set s.views id (all_see r.machine.history v) }))
    × (k.machine ≡ r.machine)
kept_meeting l id i v s r at = let m = r.machine in let all = r.seats id v at in let seen : View = all_see m.history v in (
  record {
    machine = m;
    who = r.who;
    sound = r.sound;
    layout_is = r.layout_is;
    words_are = set-get_or s.words i 0 ∙ r.words_are;
    seats = λ j w there. ⊎_elim
        (λ (t : (j ≡ id) × (seen ≡ w)). subst (λ (x : ℕ × View). ArePartsAt m r.who x.0 x.1) (λ i. (sym t.0 i, t.1 i)) (fit_all m r.who id v all))
        (λ (t : (j ≢ id) × (get_elem? s.views j ≡ some w)). r.seats j w t.1) (at_set s.views id j seen w there);
    present = λ c seat. stands_put s.views (HasPartOf c) id v seen (r.who c) at (seat_meets c m.history v) (r.present c seat);
    longest = (r.longest.0, stands_put s.views (HasSeenAll m.history) id v seen r.longest.0 at (seen_meets m.history v) r.longest.1);
  },
  refl,
)

row_apart : (l : Layout) (c a m : ℕ) → c < a → a + m ≤ owner_seat → Apart c (row l a m)
row_apart l c a zero less small = ((λ e. omega arith), tt)
row_apart l c a (suc m) less small = ((λ e. omega arith), row_apart l c (a + 1) m (omega arith) (omega arith))

private_opening : (n s : ℕ) → get_or (replicate n nothing_seen) s nothing_seen ≡ nothing_seen
private_opening zero s = refl
private_opening (suc n) zero = refl
private_opening (suc n) (suc s) = private_opening n s

opening_sender : (l : Layout) (c : ℕ) → c < l.senders → IsPartOf (opening_machine l) (sender_part l c)
opening_sender l c below = record { layout_is = refl; begins = prefix_self []; mine = refl; keeps = (below, private_opening l.senders c); links = tt }

-- nothing stands in two empty lists
pub none_stands : (k : ℕ) → StandsIn [] [] k → ⊥
none_stands k = ⊎_elim (λ there. let lt = there.1 in omega arith) (λ there. let lt = there.1 in omega arith)

opening_owner : (l : Layout) → IsPartOf (opening_machine l) (owner_part l)
opening_owner l = record {
  layout_is = refl;
  begins = prefix_self [];
  mine = refl;
  keeps = (refl, refl, refl, refl);
  links = λ k there. absurd (none_stands k there);
}

row_fits : (l : Layout) (a m : ℕ) → a + m ≤ l.senders → ArePartsAt (opening_machine l) (λ _. 0) 0 (row l a m)
row_fits l a zero small = (opening_owner l, refl, tt, tt)
row_fits l a (suc m) small = (
  opening_sender l a (omega arith),
  refl,
  row_apart l a (a + 1) m (omega arith) (omega (arith, l.in_limits)),
  row_fits l (a + 1) m (omega arith),
)

seats_open : (l : Layout) (i : ℕ) (v : View) → get_elem? (opening_view l ∷ []) i ≡ some v → ArePartsAt (opening_machine l) (λ _. 0) i v
seats_open l zero v at = subst (ArePartsAt (opening_machine l) (λ _. 0) 0) (some-injective (opening_view l) v at) (row_fits l 0 l.senders (omega arith))
seats_open l (suc i) v at = absurd (some-ne-none v (sym at))

pub opens : (l : Layout) (ws : List ℕ) → ws ≡ replicate (word_count (number_count l)) 0 → Kept l (opening ws [] (opening_view l))
opens l ws is = record {
  machine = opening_machine l;
  who = λ _. 0;
  sound = sound_opening l;
  layout_is = refl;
  words_are = is;
  seats = seats_open l;
  present = present_open l;
  longest = (0, longest_open l);
}

-- and its machine is the opening one
pub opens_machine : (l : Layout) (ws : List ℕ) (is : ws ≡ replicate (word_count (number_count l)) 0) → (opens l ws is).machine ≡ opening_machine l
unfolding opens
opens_machine l ws is = refl

-- the first of a row, and what is left of it
pub row_more : (l : Layout) (a n : ℕ) → a < n → row l a (n - a) ≡ sender_part l a ∷ row l (a + 1) (n - (a + 1))
row_more l a n less = let e : n - a ≡ suc (n - (a + 1)) = omega arith in ap (row l a) e
