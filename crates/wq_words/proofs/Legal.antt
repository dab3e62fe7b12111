-- Legal histories, an event at a time.
use Rattle.wq_words.proofs.Common.{ℕ, List, [], ◌∷◌, ◌++◌, length, take, get_or, ◌<◌, ◌+◌, inl, inr, sym, subst, append_assoc, append-nil, take_more, Layout}
use Rattle.wq_words.proofs.Common.{Event, IsAllowed, IsLegal}
use Rattle.wq_words.proofs.Growing.{slice_get_push, slice_get_last, slice_get_append, take_append, take_length}

pub legal_nil : (layout : Layout) → IsLegal layout []
legal_nil layout place e h = absurd cc

-- one more event that is allowed
pub legal_push : (layout : Layout) (h : List Event) (e : Event) → IsLegal layout h → IsAllowed layout h e → IsLegal layout (h ++ e ∷ [])
legal_push layout h e legal allowed place f at =
    elim (slice_get_push h e f place at) [
      | inl old ↦ rw (take_append h (e ∷ []) place f old) (legal place f old)
      | inr new ↦ rw (new.0, take_length h (e ∷ []), ← new.1) allowed
    ]

-- a beginning of a legal history is legal
pub legal_front : (layout : Layout) (h rest : List Event) → IsLegal layout (h ++ rest) → IsLegal layout h
legal_front layout h rest legal place e at =
    rw (take_append h rest place e at) at (legal place e (slice_get_append h rest place e at))

pub legal_rest : (layout : Layout) (h : List Event) (e : Event) (rest : List Event) → IsLegal layout (h ++ e ∷ rest) → IsLegal layout ((h ++ e ∷ []) ++ rest)
legal_rest layout h e rest legal = subst (IsLegal layout) (sym (append_assoc h (e ∷ []) rest)) legal

pub legal_next : (layout : Layout) (h : List Event) (e : Event) (rest : List Event) → IsLegal layout (h ++ e ∷ rest) → IsAllowed layout h e
legal_next layout h e rest legal = rw (take_length h (e ∷ rest)) at (legal (length h) e (slice_get_last h e rest))

-- what holds at first, and after each event that is allowed, holds of each legal history
pub legal_induction : (layout : Layout) (P : List Event → Type 0) → P []
    → ((h : List Event) (e : Event) → IsLegal layout h → IsAllowed layout h e → P h → P (h ++ e ∷ []))
    → (h : List Event) → IsLegal layout h → P h
legal_induction layout P none more h legal = go [] h none legal
  where
    go : (seen rest : List Event) → P seen → IsLegal layout (seen ++ rest) → P (seen ++ rest)
    go seen [] p l = subst P (sym (append-nil seen)) p
    go seen (e ∷ rest) p l =
        let l' : IsLegal layout ((seen ++ e ∷ []) ++ rest) = rw append_assoc l in
        rw append_assoc at (go (seen ++ e ∷ []) rest (more seen e (legal_front layout seen (e ∷ rest) l) (legal_next layout seen e rest l) p) l')

pub legal_take_more : (layout : Layout) (h : List Event) (i : ℕ) (d : Event) → i < length h → IsLegal layout (take i h)
    → IsAllowed layout (take i h) (get_or h i d) → IsLegal layout (take (i + 1) h)
legal_take_more layout h i d lt legal allowed = rw (take_more h i d lt) (legal_push layout (take i h) (get_or h i d) legal allowed)
