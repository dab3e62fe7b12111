-- The owner's events say whether the queue takes no push.
use Rattle.wq_words.proofs.Common.{◌≡◌, Bool, true, false, cond, eqb, List, [], ◌∷◌, ◌++◌, refl, sym, ap, ◌∙◌, subst, arith, append_assoc, count_by}
use Rattle.wq_words.proofs.Common.{after_last, append-nil, Event, Drain, Resume, is_close, is_drain, is_resume, shuts, IsShut, owner_seat, seat_of, own}
use Rattle.wq_words.proofs.Seen.{own-append, count_own, close_own}
use Rattle.wq_words.proofs.Lasts.{after_last_push_yes, after_last_push_no}

pub drain_own : (e : Event) → eqb (seat_of e) owner_seat ≡ false → is_drain e ≡ false
drain_own Drain is = is
drain_own _ is = refl

resume_own : (e : Event) → eqb (seat_of e) owner_seat ≡ false → is_resume e ≡ false
resume_own Resume is = is
resume_own _ is = refl

abbrev Alike : List Event → Type 0
Alike h = own owner_seat (after_last is_resume h) ≡ after_last is_resume (own owner_seat h)

-- with one more event, of the owner or of another seat, which resumes or does not
module _ (h : List Event) (e : Event) where
  one_more : (mine resumes : Bool) → eqb (seat_of e) owner_seat ≡ mine → is_resume e ≡ resumes → Alike h → Alike (h ++ e ∷ [])
  one_more true true is ends o =
      let it : own owner_seat (e ∷ []) ≡ e ∷ [] = ap (λ (b : Bool). cond b (e ∷ []) []) is in
      ap (own owner_seat) (after_last_push_yes is_resume h e ends)
      ∙ sym (ap (after_last is_resume) (own-append owner_seat h (e ∷ []) ∙ ap (λ (x : List Event). own owner_seat h ++ x) it)
      ∙ after_last_push_yes is_resume (own owner_seat h) e ends)
  one_more true false is stays o =
      let it : own owner_seat (e ∷ []) ≡ e ∷ [] = ap (λ (b : Bool). cond b (e ∷ []) []) is in
      ap (own owner_seat) (after_last_push_no is_resume h e stays)
      ∙ own-append owner_seat (after_last is_resume h) (e ∷ [])
      ∙ (λ i. o i ++ it i)
      ∙ sym (ap (after_last is_resume) (own-append owner_seat h (e ∷ []) ∙ ap (λ (x : List Event). own owner_seat h ++ x) it)
      ∙ after_last_push_no is_resume (own owner_seat h) e stays)
  one_more false true is ends o = absurd (cc (ends, resume_own e is))
  one_more false false is stays o =
      let it : own owner_seat (e ∷ []) ≡ [] = ap (λ (b : Bool). cond b (e ∷ []) []) is in
      ap (own owner_seat) (after_last_push_no is_resume h e stays)
      ∙ own-append owner_seat (after_last is_resume h) (e ∷ [])
      ∙ (λ i. o i ++ it i)
      ∙ append-nil (after_last is_resume (own owner_seat h))
      ∙ sym (ap (after_last is_resume) (own-append owner_seat h (e ∷ []) ∙ ap (λ (x : List Event). own owner_seat h ++ x) it ∙ append-nil (own owner_seat h)))

alike : (seen rest : List Event) → Alike seen → Alike (seen ++ rest)
alike seen [] o = subst Alike (sym (append-nil seen)) o
alike seen (e ∷ rest) o =
    subst Alike (append_assoc seen (e ∷ []) rest) (alike (seen ++ e ∷ []) rest (one_more seen e (eqb (seat_of e) owner_seat) (is_resume e) refl refl o))

shuts_own : (h : List Event) → shuts h ≡ shuts (own owner_seat h)
shuts_own h =
    let closes = count_own is_close owner_seat close_own h in
    let drains = count_own is_drain owner_seat drain_own (after_last is_resume h) in
    let behind = ap (count_by is_drain) (alike [] h refl) in
    omega (arith, closes, drains, behind)

pub shut_same : (v w : List Event) → own owner_seat w ≡ own owner_seat v → IsShut v → IsShut w
shut_same v w is have = omega (arith, have, shuts_own v, shuts_own w, ap shuts is)
