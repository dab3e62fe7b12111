-- Legal ready histories, an event at a time.
use Rattle.wq_words.proofs.Growing.{slice_get_push, slice_get_last, slice_get_append, take_append, take_length}
use Rattle.wq_words.proofs.Ranks.{ComesFrom, comes_from}
use Rattle.wq_ready.proofs.Common.{◌≡◌, ℕ, ◌<◌, List, [], ◌∷◌, ◌++◌, length, take, drop, slice_get, Some, sym, refl, ap, ◌∙◌, subst, inl, inr, append_assoc}
use Rattle.wq_ready.proofs.Common.{arith, take-append-drop, append-nil, Size, ReadyEvent, Announce, Pick, announced, announced_by, IsReadyAllowed, IsReadyLegal}

pub legal_nil : (size : Size) → IsReadyLegal size []
legal_nil size = record { allows = λ place e at. absurd cc }

-- one more event that is allowed
pub legal_push : (size : Size) (h : List ReadyEvent) (e : ReadyEvent) → IsReadyLegal size h → IsReadyAllowed size h e → IsReadyLegal size (h ++ e ∷ [])
legal_push size h e legal allowed = record { allows = each }
  where
    each : (place : ℕ) (f : ReadyEvent) → slice_get (h ++ e ∷ []) place ≡ Some f → IsReadyAllowed size (take place (h ++ e ∷ [])) f
    each place f at = elim (slice_get_push h e f place at) [
      | inl old ↦ rw (take_append h (e ∷ []) place f old) (legal.allows place f old)
      | inr new ↦ rw (new.0, take_length h (e ∷ []), ← new.1) allowed
    ]

-- a beginning of a legal history is legal
pub legal_front : (size : Size) (h rest : List ReadyEvent) → IsReadyLegal size (h ++ rest) → IsReadyLegal size h
legal_front size h rest legal = record {
  allows = λ place e at. rw (take_append h rest place e at) at (legal.allows place e (slice_get_append h rest place e at));
}

pub legal_take : (size : Size) (h : List ReadyEvent) (n : ℕ) → IsReadyLegal size h → IsReadyLegal size (take n h)
legal_take size h n legal = legal_front size (take n h) (drop n h) (rw take-append-drop legal)

pub legal_next : (size : Size) (h : List ReadyEvent) (e : ReadyEvent) (rest : List ReadyEvent) → IsReadyLegal size (h ++ e ∷ rest) → IsReadyAllowed size h e
legal_next size h e rest legal = rw (take_length h (e ∷ rest)) at (legal.allows (length h) e (slice_get_last h e rest))

-- where there is no queue nothing happens
pub legal_none : (size : Size) (h : List ReadyEvent) → IsReadyLegal size h → size.queues ≡ 0 → h ≡ []
legal_none size [] legal none = refl
legal_none size (e ∷ es) legal none = let less = (legal.allows 0 e refl).has_queue in absurd (omega (arith, none, less))

-- only an Announce announces, and only a Pick picks
pub announce_from : (e : ReadyEvent) (q : ℕ) → announced_by e ≡ Some q → (c : ℕ) × (e ≡ Announce c q)
announce_from (Announce c r) q is = (c, cc)
announce_from (Pick c r) q is = absurd cc

-- what was announced is a queue
pub announced_below : (size : Size) (h : List ReadyEvent) (n q : ℕ) → IsReadyLegal size h → slice_get (announced h) n ≡ Some q → q < size.queues
announced_below size h n q legal at = found (comes_from announced_by h n q at)
  where
    found : ComesFrom announced_by h n q → q < size.queues
    found f =
        let event = announce_from f.1 q f.3 in
        (legal.allows f.0 (Announce event.0 q) (f.2 ∙ ap Some event.1)).has_queue

-- what holds at first, and after each event that is allowed, holds of each legal history
pub legal_induction : (size : Size) (P : List ReadyEvent → Type 0) → P []
    → ((h : List ReadyEvent) (e : ReadyEvent) → IsReadyAllowed size h e → P h → P (h ++ e ∷ [])) → (h : List ReadyEvent) → IsReadyLegal size h → P h
legal_induction size P none more h legal = go [] h none legal
  where
    go : (seen rest : List ReadyEvent) → P seen → IsReadyLegal size (seen ++ rest) → P (seen ++ rest)
    go seen [] p l = subst P (sym (append-nil seen)) p
    go seen (e ∷ rest) p l =
        let l' : IsReadyLegal size ((seen ++ e ∷ []) ++ rest) = rw append_assoc l in
        rw append_assoc at (go (seen ++ e ∷ []) rest (more seen e (legal_next size seen e rest l) p) l')
