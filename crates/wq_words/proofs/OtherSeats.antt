-- What stays while every seat but the owner adds events.
use Rattle.wq_words.proofs.Common.{◌≡◌, ℕ, ◌==◌, Bool, true, false, cond, List, [], ◌∷◌, ◌++◌, None, sym, refl, ap, ◌∙◌, subst, append_assoc, append-nil}
use Rattle.wq_words.proofs.Common.{Layout, Event, Hold, Busy, Push, Back, accepted_by, accepted, taken, IsLegal, owner_seat, seat_of, own, IsShut}
use Rattle.wq_words.specs.declared.event.Why.{Why}
use Rattle.wq_words.proofs.Closed.{shut_from_open, shut_quiet, shut_from_IsShut, IsShut_from_shut}
use Rattle.wq_words.proofs.Legal.{legal_front, legal_next, legal_rest}
use Rattle.wq_words.proofs.Listed.{accepted_push_none, quiet, CutsNothing, taken_push_same, taken_push_push}
use Rattle.wq_words.proofs.Seen.{own_rest}

-- what each event of a sender keeps
pub record OthersKeep (layout : Layout) (P : List Event → Type 0) : Type 0 where
  pub push : (v : List Event) (s k : ℕ) → IsLegal layout (v ++ Push s k ∷ []) → P v → P (v ++ Push s k ∷ [])
  pub hold : (v : List Event) (s k : ℕ) → P v → P (v ++ Hold s k ∷ [])
  pub busy : (v : List Event) (s k : ℕ) → P v → P (v ++ Busy s k ∷ [])
  pub back : (v : List Event) (s k : ℕ) (why : Why) → P v → P (v ++ Back s k why ∷ [])

module _ (layout : Layout) (P : List Event → Type 0) (keep : OthersKeep layout P) where
  -- all the events of others keep
  pub others_keep : (v new : List Event) → IsLegal layout (v ++ new) → own owner_seat new ≡ [] → P v → P (v ++ new)
  others_keep v [] legal none p = subst P (sym (append-nil v)) p
  others_keep v (Push s k ∷ new) legal none p =
      let l = legal_rest layout v (Push s k) new legal in
      subst P (append_assoc v (Push s k ∷ []) new)
      (others_keep (v ++ Push s k ∷ []) new l (own_rest owner_seat (Push s k) new none) (keep.push v s k (legal_front layout (v ++ Push s k ∷ []) new l) p))
  others_keep v (Hold s k ∷ new) legal none p =
      subst P (append_assoc v (Hold s k ∷ []) new)
      (others_keep (v ++ Hold s k ∷ []) new (legal_rest layout v (Hold s k) new legal) (own_rest owner_seat (Hold s k) new none) (keep.hold v s k p))
  others_keep v (Busy s k ∷ new) legal none p =
      subst P (append_assoc v (Busy s k ∷ []) new)
      (others_keep (v ++ Busy s k ∷ []) new (legal_rest layout v (Busy s k) new legal) (own_rest owner_seat (Busy s k) new none) (keep.busy v s k p))
  others_keep v (Back s k why ∷ new) legal none p =
      subst P (append_assoc v (Back s k why ∷ []) new)
      (others_keep (v ++ Back s k why ∷ []) new (legal_rest layout v (Back s k why) new legal) (own_rest owner_seat (Back s k why) new none)
      (keep.back v s k why p))
  others_keep v (_ ∷ new) legal none p = absurd (cc)

-- no other seat takes
pub taken_still : (layout : Layout) (v new : List Event) → IsLegal layout (v ++ new) → own owner_seat new ≡ [] → taken (v ++ new) ≡ taken v
taken_still layout v new legal none =
    others_keep layout (λ w. taken w ≡ taken v) (record {
      push = λ w s k l same. taken_push_push w s k (shut_from_open w (legal_next layout w (Push s k) [] l).2.1) ∙ same;
      hold = λ w s k same. taken_push_same w (Hold s k) (quiet refl refl refl refl) refl ∙ same;
      busy = λ w s k same. taken_push_same w (Busy s k) (quiet refl refl refl refl) refl ∙ same;
      back = λ w s k why same. taken_push_same w (Back s k why) (quiet refl refl refl refl) refl ∙ same;
    }) v new legal none refl

-- a queue that is shut accepts nothing but by its owner
pub accepted_shut : (layout : Layout) (v new : List Event) → IsLegal layout (v ++ new) → IsShut v → own owner_seat new ≡ []
    → accepted (v ++ new) ≡ accepted v
accepted_shut layout v new legal shut none =
    (others_keep layout (λ w. IsShut w × (accepted w ≡ accepted v)) (record {
      push = λ w s k l p. absurd ((legal_next layout w (Push s k) [] l).2.1 p.0);
      hold = λ w s k. still w (Hold s k) (quiet refl refl refl refl) refl;
      busy = λ w s k. still w (Busy s k) (quiet refl refl refl refl) refl;
      back = λ w s k why. still w (Back s k why) (quiet refl refl refl refl) refl;
    }) v new legal none (shut, refl)).1
  where
    still : (w : List Event) (e : Event) → CutsNothing e → accepted_by e ≡ None → IsShut w × (accepted w ≡ accepted v)
        → IsShut (w ++ e ∷ []) × (accepted (w ++ e ∷ []) ≡ accepted v)
    still w e q passes p = (
      IsShut_from_shut (w ++ e ∷ []) (shut_quiet w e q.no_resume q.no_drain q.no_close ∙ shut_from_IsShut w p.0),
      accepted_push_none w e passes ∙ p.1,
    )

-- where the one event of a seat stands among others'
pub record Surrounds (c : ℕ) (e : Event) (new : List Event) : Type 0 where
  pub front : List Event
  pub behind : List Event
  pub is : new ≡ front ++ e ∷ behind
  pub front_none : own c front ≡ []
  pub behind_none : own c behind ≡ []

abbrev first : Event → List Event → Event
first d [] = d
first d (e ∷ es) = e

abbrev behind_first : List Event → List Event
behind_first [] = []
behind_first (e ∷ es) = es

pub surrounds : (c : ℕ) (e : Event) (new : List Event) → own c new ≡ e ∷ [] → Surrounds c e new
surrounds c e [] one = absurd (cc)
surrounds c e (d ∷ new) one = each (seat_of d == c) refl one (surrounds c e new)
  where
    each : (b : Bool) → (seat_of d == c) ≡ b → cond b (d ∷ own c new) (own c new) ≡ e ∷ [] → (own c new ≡ e ∷ [] → Surrounds c e new)
        → Surrounds c e (d ∷ new)
    each true mine is go = record {
      front = [];
      behind = new;
      is = ap (λ (x : Event). x ∷ new) (ap (first e) is);
      front_none = refl;
      behind_none = ap behind_first is;
    }
    each false other is go =
        let later = go is in
        record {
          front = d ∷ later.front;
          behind = later.behind;
          is = ap (λ (x : List Event). d ∷ x) later.is;
          front_none = ap (λ (b : Bool). cond b (d ∷ own c later.front) (own c later.front)) other ∙ later.front_none;
          behind_none = later.behind_none;
        }
