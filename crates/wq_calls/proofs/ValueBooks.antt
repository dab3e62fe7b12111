-- What a book has of what was brought, as more is seen.
use Rattle.wq_calls.proofs.Common.{◌≡◌, ℕ, List, [], length, Option, refl, sym, ap, ◌∙◌, arith, Event, accepted, own}
use Rattle.wq_calls.specs.Laws.{IsStillEnd}
use Rattle.wq_calls.specs.OwnBrought.{own_brought}
use Rattle.wq_words.specs.Seen.{Grows}
use mathlib.Core.List.{IsPrefix}
use Rattle.wq_words.proofs.Appended.{accepted-append}
use Rattle.wq_words.proofs.Prefixes.{nothing_more}
use Rattle.wq_words.proofs.Seen.{own-append}
use Rattle.wq_calls.proofs.OwnBrought.{own_still}

-- where nothing more was accepted of a seat, its queueings brought what they had brought
pub brought_still : {V : Type 0} (s c n : ℕ) (v w : List Event) (bs cs : List (Option V)) → Grows c [] n v w → IsStillEnd v w → IsPrefix bs cs
    → length bs ≡ length (accepted v) → own_brought s w cs ≡ own_brought s v bs
brought_still s c n v w bs cs g still front many =
    own_still s (own s g.new) 0 v w bs cs none (record { new = g.new; is = g.is; mine = refl; theirs = omega arith }) front many
  where
    none : accepted (own s g.new) ≡ []
    none = nothing_more (accepted (own s v)) (accepted (own s g.new))
        (sym (accepted-append (own s v) (own s g.new)) ∙ (ap accepted (sym (own-append s v g.new)) ∙
        (ap (λ (h : List Event). accepted (own s h)) (sym g.is) ∙ still.of_each s)))
