-- What the parts of a chair were told of what is brought, from one of its steps to the next.
use Rattle.wq_table.proofs.Common.{◌≡◌, ℕ, List, ◌∷◌, length, Option, inl, inr, ⊎_elim, refl, sym, ap, ◌∙◌, subst, arith, ◌<◌, IsPrefix, Event}
use Rattle.wq_table.proofs.Common.{accepted, AreBrought, Layout, Step, Machine, IsSound, View, all_see, part_at, plain_view, AllKnow}
use Rattle.wq_table.proofs.Common.{AllTold, ValueStanding, standing_of, ValueSteps}
use Rattle.wq_table.specs.Chair.{SeatedIn}
use Rattle.wq_table.specs.SlotChairs.{knowing, ValueMeet}
use Rattle.wq_table.specs.Beside.{Learns, LearnsOrStays}
use Rattle.wq_table.proofs.Places.{seeing_seen}
use Rattle.wq_table.proofs.ValueRule.{all_more, plain_telling, told_all}
use Rattle.wq_table.proofs.Beside.{Beside, follow_step, follow_on}

module _ {V : Type 0} where
  -- one step
  pub learns_step : (at : ℕ) (said : Option V) (step : Step) (word : ℕ) (old new : ValueStanding V) → ValueSteps at said step word old new → Learns at old new
  learns_step at said step word old new s = record {
    follow = follow_step at step word (standing_of old) (standing_of new) s.steps;
    brought = s.brought';
    know = all_more s.brought s.brought' s.more (old.first ∷ old.others) s.know;
    told = s.told;
    right = s.right;
  }

  pub learns_on : (at : ℕ) (a b c : ValueStanding V) → Learns at a b → Learns at b c → Learns at a c
  learns_on at a b c x y = record {
    follow = follow_on at (standing_of a) (standing_of b) (standing_of c) x.follow y.follow;
    brought = y.brought;
    know = all_more x.brought y.brought (subst (λ (l : List (Option V)). IsPrefix l y.brought) x.told.0 y.know.0.begins) (a.first ∷ a.others) x.know;
    told = y.told;
    right = λ some_slot. y.right (omega (arith, some_slot, ap (λ q. q.slots) x.follow.queue_is));
  }

  -- no step
  pub learns_none : (at : ℕ) (a : ValueStanding V) → LearnsOrStays at a a
  learns_none at a = inl refl

  -- steps, or none, and then some
  pub or_learns : (at : ℕ) (a b c : ValueStanding V) → LearnsOrStays at a b → Learns at b c → Learns at a c
  or_learns at a b c x y = ⊎_elim
      (λ (e : b ≡ a). subst (λ (z : ValueStanding V). Learns at z c) e y) (λ (l : Learns at a b). learns_on at a b c l y) x

  -- steps, and maybe more
  pub learns_or : (at : ℕ) (a b c : ValueStanding V) → Learns at a b → LearnsOrStays at b c → Learns at a c
  learns_or at a b c x y = ⊎_elim
      (λ (e : c ≡ b). subst (Learns at a) (sym e) x) (λ (l : Learns at b c). learns_on at a b c x l) y

  pub or_or : (at : ℕ) (a b c : ValueStanding V) → LearnsOrStays at a b → LearnsOrStays at b c → LearnsOrStays at a c
  or_or at a b c x y = ⊎_elim
      (λ (e : c ≡ b). subst (LearnsOrStays at a) (sym e) x) (λ (l : Learns at b c). inr (or_learns at a b c x l)) y

  -- steps, and then one
  pub learns_then : (at : ℕ) (said : Option V) (step : Step) (word : ℕ) (a b c : ValueStanding V) → Learns at a b → ValueSteps at said step word b c
      → Learns at a c
  learns_then at said step word a b c x s = learns_on at a b c x (learns_step at said step word b c s)

  -- steps, or none, and then one
  pub or_then : (at : ℕ) (said : Option V) (step : Step) (word : ℕ) (a b c : ValueStanding V) → LearnsOrStays at a b → ValueSteps at said step word b c
      → Learns at a c
  or_then at said step word a b c x s = or_learns at a b c x (learns_step at said step word b c s)

  -- a step, and maybe more
  pub step_or : (at : ℕ) (said : Option V) (step : Step) (word : ℕ) (a b c : ValueStanding V) → ValueSteps at said step word a b → LearnsOrStays at b c
      → Learns at a c
  step_or at said step word a b c s y = learns_or at a b c (learns_step at said step word a b s) y

  -- a chair that has seen all that has happened, and knows all that was brought
  pub learns_knowing : (m : Machine) (brs : List (Option V)) (it it' : ValueStanding V) → IsSound m → length brs ≡ length (accepted m.history)
      → (0 < it.queue.slots → AreBrought m.layout.items (accepted m.history) brs) → SeatedIn m (standing_of it) → AllKnow brs (it.first ∷ it.others)
      → it' ≡ knowing m brs it → Learns 0 it it'
  learns_knowing m brs it it' sound many right fits know is =
      let h : List Event = m.history in let v : View = it.first.part ∷ plain_view it.others in record {
        follow = record {
          machine = m;
          sound = sound;
          queue_is = ap (λ (z : ValueStanding V). z.queue) is;
          seen_is = ap (λ (z : ValueStanding V). z.first.part.seen) is;
          fit = fits.others_fit;
          others_are = ap (λ (z : ValueStanding V). plain_view z.others) is ∙ plain_telling brs (all_see h (plain_view it.others));
        };
        brought = brs;
        know = know;
        right = λ some_slot. subst (λ (z : Layout × List Event). AreBrought z.0.items (accepted z.1) brs)
            (λ i. (
              sym (ap (λ (z : ValueStanding V). z.first.part.layout) is ∙ fits.fits.layout_is) i,
              sym (ap (λ (z : ValueStanding V). z.first.part.seen) is) i,
            ))
            (right some_slot);
        told = subst (λ (z : ValueStanding V). AllTold brs (z.first ∷ z.others)) (sym is) (told_all h brs (all_see h v) many (seeing_seen h v));
      }

  -- the first of two that meet
  module _ (this that this' that' : ValueStanding V) (meet : ValueMeet this that this' that') where
    pub learns_meet : Learns 0 this this'
    learns_meet = learns_knowing meet.machine meet.brought this this' meet.sound meet.as_many meet.right meet.this_fits meet.this_knows meet.this_is

  -- without what was brought
  pub learns_follow : (at : ℕ) (a b : ValueStanding V) → LearnsOrStays at a b → Beside at (standing_of a) (standing_of b)
  learns_follow at a b x = ⊎_elim (λ (e : b ≡ a). inl (ap standing_of e)) (λ (l : Learns at a b). inr l.follow) x

  module _ (at : ℕ) (old new : ValueStanding V) (l : Learns at old new) where
    -- the first part was told more
    pub learns_more : IsPrefix old.first.brought new.first.brought
    learns_more = subst (λ (x : List (Option V)). IsPrefix old.first.brought x) (sym l.told.0) l.know.0.begins

    -- and knows what each accepted number brought, where there are slots an item a value
    pub learns_right : at ≡ 0 → 0 < old.queue.slots → AreBrought new.first.part.layout.items (accepted new.first.part.seen) new.first.brought
    learns_right first some_slot = subst (λ (z : ℕ × List (Option V)). AreBrought (part_at z.0 (standing_of new)).layout.items
        (accepted (part_at z.0 (standing_of new)).seen) z.1) (λ i. (first i, sym l.told.0 i)) (l.right some_slot)

    pub learns_many : length new.first.brought ≡ length (accepted new.first.part.seen)
    learns_many = ap length l.told.0 ∙ l.told.1
