-- Steps one after another, as the other parts of a chair see them.
use Rattle.wq_table.proofs.Common.{◌≡◌, ℕ, List, [], ◌∷◌, ⊎_elim, refl, sym, ap, ◌∙◌, subst, Event, Step, Machine, after, Part, View, seat_at}
use Rattle.wq_table.proofs.Common.{IsPartOf, see, all_see, AllOf, chosen, besides, part_at}
use Rattle.wq_words.proofs.Prefixes.{prefix_on}
use Rattle.wq_table.specs.Chair.{Standing, besides_at, Steps}
use Rattle.std.specs.Prelude.{◌⊎◌}
use Rattle.wq_table.specs.Beside.{OthersFollow}

-- it made steps, or none
abbrev pub Beside : ℕ → Standing → Standing → Type 0
Beside at old new = (new ≡ old) ⊎ OthersFollow at old new

-- one step
pub follow_step : (at : ℕ) (step : Step) (word : ℕ) (old new : Standing) → Steps at step word old new → OthersFollow at old new
follow_step at step word old new steps = let moves = steps.moves in let makes = moves.makes in record {
  machine = after makes.before (seat_at (part_at at old).seat (part_at at old).stage) step;
  sound = makes.sound_after;
  queue_is = steps.queue_is;
  seen_is = makes.seen_is;
  fit = moves.still_fit;
  others_are = moves.others_are ∙ ap (λ (h : List Event). all_see h (besides_at at old)) makes.seen_is;
}

-- a part that was of a machine, and after it has seen all was of another, was of the other as it was at first
fit_on : (m n : Machine) (p : Part) → IsPartOf m p → IsPartOf n (see m.history p) → IsPartOf n p
fit_on m n p a b = record {
  layout_is = b.layout_is;
  begins = prefix_on p.seen m.history n.history a.begins b.begins;
  mine = b.mine ∙ a.mine;
  keeps = b.keeps;
  links = b.links;
}

all_on : (m n : Machine) (v : View) → AllOf m v → AllOf n (all_see m.history v) → AllOf n v
all_on m n [] a b = tt
all_on m n (p ∷ ps) a b = (fit_on m n p a.0 b.0, all_on m n ps a.1 b.1)

see_twice : (g h : List Event) (v : View) → all_see h (all_see g v) ≡ all_see h v
see_twice g h [] = refl
see_twice g h (p ∷ ps) = ap (λ (v : View). see h p ∷ v) (see_twice g h ps)

pub follow_on : (at : ℕ) (a b c : Standing) → OthersFollow at a b → OthersFollow at b c → OthersFollow at a c
follow_on at a b c x y = record {
  machine = y.machine;
  sound = y.sound;
  queue_is = y.queue_is ∙ x.queue_is;
  seen_is = y.seen_is;
  fit = all_on x.machine y.machine (besides_at at a) x.fit (subst (AllOf y.machine) x.others_are y.fit);
  others_are = y.others_are ∙ (ap (all_see y.machine.history) x.others_are ∙ see_twice x.machine.history y.machine.history (besides_at at a));
}

pub beside_queue : (at : ℕ) (a b : Standing) → Beside at a b → b.queue ≡ a.queue
beside_queue at a b x = ⊎_elim (λ (e : b ≡ a). ap (λ (z : Standing). z.queue) e) (λ (f : OthersFollow at a b). f.queue_is) x

-- a chair of one part is still one
pub alone_follow : (a b : Standing) → OthersFollow 0 a b → a.others ≡ [] → b.others ≡ []
alone_follow a b f none = f.others_are ∙ ap (all_see f.machine.history) none

-- a part that was of the machine, and has then seen its whole history
pub record Saw (m : Machine) (p q : Part) : Type 0 where
  pub fits : IsPartOf m p
  pub is : q ≡ see m.history p

-- of a chair of two parts the first made steps
module _ (a b : Standing) (two : a.others ≡ part_at 1 a ∷ []) (f : OthersFollow 0 a b) where
  others_then : b.others ≡ see f.machine.history (part_at 1 a) ∷ []
  others_then = f.others_are ∙ ap (all_see f.machine.history) two

  pub second_saw : Saw f.machine (part_at 1 a) (part_at 1 b)
  second_saw = record { fits = (subst (AllOf f.machine) two f.fit).0; is = ap (chosen 1 b.part) others_then }

  pub still_two : b.others ≡ part_at 1 b ∷ []
  still_two = others_then ∙ ap (λ (p : Part). p ∷ []) (sym second_saw.is)

only_first : (p x : Part) (v : View) → besides 1 p v ≡ x ∷ [] → (v ≡ chosen 1 p v ∷ []) × (p ≡ x)
only_first p x [] is = absurd (cc)
only_first p x (r ∷ rs) is = let none : rs ≡ [] = cc in let same : p ≡ x = cc in (ap (λ (w : View). r ∷ w) none, same)

-- or the second
module _ (a b : Standing) (two : a.others ≡ part_at 1 a ∷ []) (f : OthersFollow 1 a b) where
  one_then : (b.others ≡ part_at 1 b ∷ []) × (b.part ≡ see f.machine.history a.part)
  one_then = only_first b.part (see f.machine.history a.part) b.others (f.others_are ∙ ap (λ (v : View). all_see f.machine.history (besides 1 a.part v)) two)

  pub first_saw : Saw f.machine a.part b.part
  first_saw = record { fits = (subst (λ (v : View). AllOf f.machine (besides 1 a.part v)) two f.fit).0; is = one_then.1 }

  pub two_still : b.others ≡ part_at 1 b ∷ []
  two_still = one_then.0
