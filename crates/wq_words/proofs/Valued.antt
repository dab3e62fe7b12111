-- The events of a history, with their values.
use Rattle.std.proofs.Common.{◌≡◌, ℕ, zero, suc, ◌≤◌, List, [], ◌∷◌, length, take, slice_get, Option, Some, sym, refl, ap, ◌∙◌, subst, arith}
use Rattle.wq_words.specs.declared.layout.Layout.{Layout}
use Rattle.wq_words.specs.declared.event.Event.{Event}
use Rattle.wq_words.specs.declared.event.Event.TheVariants.{Hold, Busy, Push, Back, Take, Close, Drain, Resume, Begin, End, Chain, ChainBusy, Rest}
use Rattle.wq_words.specs.History.{accepted, begun}
use Rattle.wq_words.specs.Legal.{IsLegal}
use Rattle.wq_words.specs.Valued.{AreBrought, events_of, brought, handed, IsLegalWith, left_of, paired, with_values}
use Rattle.wq_words.proofs.Order.{in_order}
use Rattle.wq_words.proofs.Prefixes.{prefix_length}

module _ {V : Type 0} where
  events_paired : (es : List Event) (bs hs : List (Option V)) → events_of (paired es bs hs) ≡ es
  events_paired [] bs hs = refl
  events_paired (e ∷ es) bs hs = ap (λ (l : List Event). e ∷ l) (events_paired es _ _)

  brought_paired : (es : List Event) (bs hs : List (Option V)) → length (accepted es) ≤ length bs → brought (paired es bs hs) ≡ take (length (accepted es)) bs
  brought_paired [] bs hs le = refl
  brought_paired (Push s k ∷ es) [] hs le = absurd (omega arith)
  brought_paired (Push s k ∷ es) (y ∷ ys) hs le = ap (λ (l : List (Option V)). y ∷ l) (brought_paired es ys hs (omega arith))
  brought_paired (Chain k ∷ es) [] hs le = absurd (omega arith)
  brought_paired (Chain k ∷ es) (y ∷ ys) hs le = ap (λ (l : List (Option V)). y ∷ l) (brought_paired es ys hs (omega arith))
  brought_paired (Begin k ∷ es) bs hs le = brought_paired es bs (left_of (Some k) hs) le
  brought_paired (Hold s k ∷ es) bs hs le = brought_paired es bs hs le
  brought_paired (Busy s k ∷ es) bs hs le = brought_paired es bs hs le
  brought_paired (Back s k why ∷ es) bs hs le = brought_paired es bs hs le
  brought_paired (Take ∷ es) bs hs le = brought_paired es bs hs le
  brought_paired (Close ∷ es) bs hs le = brought_paired es bs hs le
  brought_paired (Drain ∷ es) bs hs le = brought_paired es bs hs le
  brought_paired (Resume ∷ es) bs hs le = brought_paired es bs hs le
  brought_paired (End k ∷ es) bs hs le = brought_paired es bs hs le
  brought_paired (ChainBusy k ∷ es) bs hs le = brought_paired es bs hs le
  brought_paired (Rest ∷ es) bs hs le = brought_paired es bs hs le

  handed_paired : (es : List Event) (bs hs : List (Option V)) → length (begun es) ≤ length hs → handed (paired es bs hs) ≡ take (length (begun es)) hs
  handed_paired [] bs hs le = refl
  handed_paired (Begin k ∷ es) bs [] le = absurd (omega arith)
  handed_paired (Begin k ∷ es) bs (y ∷ ys) le = ap (λ (l : List (Option V)). y ∷ l) (handed_paired es bs ys (omega arith))
  handed_paired (Push s k ∷ es) bs hs le = handed_paired es (left_of (Some k) bs) hs le
  handed_paired (Chain k ∷ es) bs hs le = handed_paired es (left_of (Some k) bs) hs le
  handed_paired (Hold s k ∷ es) bs hs le = handed_paired es bs hs le
  handed_paired (Busy s k ∷ es) bs hs le = handed_paired es bs hs le
  handed_paired (Back s k why ∷ es) bs hs le = handed_paired es bs hs le
  handed_paired (Take ∷ es) bs hs le = handed_paired es bs hs le
  handed_paired (Close ∷ es) bs hs le = handed_paired es bs hs le
  handed_paired (Drain ∷ es) bs hs le = handed_paired es bs hs le
  handed_paired (Resume ∷ es) bs hs le = handed_paired es bs hs le
  handed_paired (End k ∷ es) bs hs le = handed_paired es bs hs le
  handed_paired (ChainBusy k ∷ es) bs hs le = handed_paired es bs hs le
  handed_paired (Rest ∷ es) bs hs le = handed_paired es bs hs le

  take_whole : (ys : List (Option V)) → take (length ys) ys ≡ ys
  take_whole [] = refl
  take_whole (y ∷ ys) = ap (λ (l : List (Option V)). y ∷ l) (take_whole ys)

  at_in_take : (n : ℕ) (ys : List (Option V)) (i : ℕ) (y : Option V) → slice_get (take n ys) i ≡ Some y → slice_get ys i ≡ Some y
  at_in_take zero ys i y at = absurd cc
  at_in_take (suc n) [] i y at = absurd cc
  at_in_take (suc n) (x ∷ xs) zero y at = at
  at_in_take (suc n) (x ∷ xs) (suc i) y at = at_in_take n xs i y at

  pub events_with : (h : List Event) (values : List (Option V)) → events_of (with_values h values) ≡ h
  events_with h values = events_paired h values values

  pub brought_with : (h : List Event) (values : List (Option V)) → length values ≡ length (accepted h) → brought (with_values h values) ≡ values
  brought_with h values many = brought_paired h values values (omega (arith, many)) ∙ (ap (λ (n : ℕ). take n values) (sym many) ∙ take_whole values)

  pub handed_with : (layout : Layout) (h : List Event) (values : List (Option V)) → IsLegal layout h → length values ≡ length (accepted h)
      → handed (with_values h values) ≡ take (length (begun h)) values
  handed_with layout h values legal many =
      let some = prefix_length (begun h) (accepted h) (in_order layout h legal).begun_first in handed_paired h values values (omega (arith, many, some))

  pub legal_with : (layout : Layout) (h : List Event) (values : List (Option V)) → IsLegal layout h → AreBrought layout.items (accepted h) values
      → IsLegalWith layout (with_values h values)
  legal_with layout h values legal are =
      let events = events_with h values in let b = brought_with h values are.as_many in let d = handed_with layout h values legal are.as_many in record {
        legal = subst (IsLegal layout) (sym events) legal;
        carries = subst (λ (l : List Event). AreBrought layout.items (accepted l) (brought (with_values h values))) (sym events)
            (subst (AreBrought layout.items (accepted h)) (sym b) are);
        own_value = λ place y at. subst (λ (l : List (Option V)). slice_get l place ≡ Some y) (sym b)
            (at_in_take (length (begun h)) values place y (subst (λ (l : List (Option V)). slice_get l place ≡ Some y) d at));
      }

  -- what was brought, one for each accepted number
  pub are_brought : (layout : Layout) (h : List Event) (values : List (Option V)) → length values ≡ length (accepted h)
      → IsLegalWith layout (with_values h values) → AreBrought layout.items (accepted h) values
  are_brought layout h values many whole = subst (AreBrought layout.items (accepted h)) (brought_with h values many)
      (subst (λ (l : List Event). AreBrought layout.items (accepted l) (brought (with_values h values))) (events_with h values) whole.carries)
