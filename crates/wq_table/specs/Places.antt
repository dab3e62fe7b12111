-- A view of several parts: the one at a place makes the step, and all others see all that has happened.
use Rattle.std.specs.Prelude.{◌≡◌, ℕ, zero, suc, [], ◌∷◌}
use Rattle.wq_words.specs.declared.layout.Layout.{Layout}
use Rattle.wq_core.specs.declared.step.Step.{Step}
use Rattle.wq_core.specs.Machine.{after}
use Rattle.wq_table.specs.declared.table.Part.{Part}
use Rattle.wq_table.specs.Law.{View, seat_at}
use Rattle.wq_table.specs.Plays.{Makes, all_see, AllOf}

-- of a view whose first part is p and whose others are ps, the part at this place, or the last where there are not so many
abbrev pub chosen : ℕ → Part → View → Part
chosen zero p ps = p
chosen (suc n) p [] = p
chosen (suc n) p (q ∷ qs) = chosen n q qs

-- all parts but that one
abbrev pub besides : ℕ → Part → View → View
besides zero p ps = ps
besides (suc n) p [] = []
besides (suc n) p (q ∷ qs) = p ∷ besides n q qs

-- The part at this place makes the step and finds this word, where the parts were p and ps and are q and qs. Each other part is
-- still of the machine just after, then sees all that has happened, and keeps all else.
pub record MakesAt (at : ℕ) (step : Step) (word : ℕ) (p : Part) (ps : View) (q : Part) (qs : View) : Type 0 where
  pub makes : Makes step word (chosen at p ps) (chosen at q qs)
  pub still_fit : AllOf (after makes.before (seat_at (chosen at p ps).seat (chosen at p ps).stage) step) (besides at p ps)
  pub others_are : besides at q qs ≡ all_see (chosen at q qs).seen (besides at p ps)

-- the same, as a step of a view
pub record ViewMakes (at : ℕ) (step : Layout → Step) (old : View) (word : ℕ) (new : View) : Type 0 where
  pub part : Part
  pub others : View
  pub part' : Part
  pub others' : View
  pub was : old ≡ part ∷ others
  pub is : new ≡ part' ∷ others'
  pub moves : MakesAt at (step (chosen at part others).layout) word part others part' others'
