-- The head that a history leaves.
use Rattle.wq_core.proofs.Common.{◌≡◌, ℕ, ◌+◌, ◌<◌, Bool, true, false, List, [], ◌∷◌, ◌++◌, length, Option, Some, None, unwrap_or, ◌==◌, if◌then◌else◌, refl}
use Rattle.wq_core.proofs.Common.{sym, ap, ◌∙◌, arith, ne_eqb, append-nil, fold_push, Layout, Event, number_count, head_word, busy_word, is_rest, wakes, ended}
use Rattle.wq_core.proofs.Common.{ended_by, closed, is_close, IsClosed, listed_after, listed, filter_map_push_none, closed_from_IsClosed, closed_from_open}
use Rattle.wq_core.proofs.Common.{IsClosed_from_closed, closed_push_no, wakes_quiet, closed_word, link_word, link_to, Machine, head, head_of_list, head_of}
use Rattle.wq_core.proofs.Common.{marked, head_word_of, IsChain, IsSound, is_drain, is_resume, is_work, shut, IsShut, IsDraining, IsCause, HasSeenCause, Why}
use Rattle.wq_core.proofs.Common.{Closed, Draining, Drain, listed-shut, inl, inr, ◌⊎◌, closed_shuts, shut_from_IsShut, shut_from_open, IsShut_from_shut}
use Rattle.wq_core.proofs.Common.{open_from_shut, open_from_closed, shut_quiet, has_drained, draining_word, TakesPushes, item_of, said_at, head_at, number_at}

-- the event leaves the list, the close, the drain and the rest as they are
pub record LeavesHead (e : Event) : Type 0 where
  pub no_close : is_close e ≡ false
  pub no_resume : is_resume e ≡ false
  pub no_rest : is_rest e ≡ false
  pub no_work : is_work e ≡ false

pub quiet : {e : Event} → is_close e ≡ false → is_resume e ≡ false → is_rest e ≡ false → is_work e ≡ false → LeavesHead e
quiet no_close no_resume no_rest no_work = record { no_close = no_close; no_resume = no_resume; no_rest = no_rest; no_work = no_work }

-- a Drain sets the queue to work
no_drain : (e : Event) → is_work e ≡ false → is_drain e ≡ false
no_drain Drain is = is
no_drain _ is = refl

-- the queue is closed, or drains, or takes pushes
pub closed_draining_or_open : (h : List Event) → IsClosed h ⊎ (IsDraining h ⊎ (¬ IsShut h))
closed_draining_or_open h = go (closed h) (shut h) refl refl
  where
    go : (q r : Bool) → closed h ≡ q → shut h ≡ r → IsClosed h ⊎ (IsDraining h ⊎ (¬ IsShut h))
    go true r e f = inl (IsClosed_from_closed h e)
    go false true e f = inr (inl (IsShut_from_shut h f, open_from_closed h e))
    go false false e f = inr (inr (open_from_shut h f))

-- the head that a history leaves, with one more event
pub head_of_open : (h : List Event) → ¬ IsShut h → head_of h ≡ head_of_list (listed h)
head_of_open h opens = rw (closed_from_open h (λ closes. opens (closed_shuts h closes)), shut_from_open h opens) refl

pub head_of_closed : (h : List Event) → IsClosed h → head_word_of h ≡ closed_word
head_of_closed h is = rw (closed_from_IsClosed h is) refl

pub head_of_draining : (h : List Event) → IsDraining h → head_word_of h ≡ draining_word
head_of_draining h is = rw (closed_from_open h is.1, shut_from_IsShut h is.0) refl

pub head_word_open : (h : List Event) → ¬ IsShut h → head_word_of h ≡ marked (wakes h) (head_of_list (listed h))
head_word_open h opens = ap (marked (wakes h)) (head_of_open h opens)

pub head_word_unshut : (h : List Event) → shut h ≡ false → head_word_of h ≡ marked (wakes h) (head_of_list (listed h))
head_word_unshut h is = head_word_open h (open_from_shut h is)

pub head_word_quiet : (h : List Event) (e : Event) → LeavesHead e → listed_after (listed h) e ≡ listed h → head_word_of (h ++ e ∷ []) ≡ head_word_of h
head_word_quiet h e q no_list =
    let list : listed (h ++ e ∷ []) ≡ listed h = fold_push listed_after [] h e ∙ no_list in
    let still : closed (h ++ e ∷ []) ≡ closed h = closed_push_no h e q.no_close in
    let shut_still : shut (h ++ e ∷ []) ≡ shut h = shut_quiet h e q.no_resume (no_drain e q.no_work) q.no_close in
    let rest : wakes (h ++ e ∷ []) ≡ wakes h = wakes_quiet h e q.no_rest q.no_work in
    rw (still, shut_still, list, rest) refl

-- a queue that rests has nothing on its list, also after such an event
pub rests_quiet : (h : List Event) (e : Event) → LeavesHead e → listed_after (listed h) e ≡ listed h → (wakes h ≡ true → listed h ≡ [])
    → wakes (h ++ e ∷ []) ≡ true → listed (h ++ e ∷ []) ≡ []
rests_quiet h e q no_list rests on =
    let list : listed (h ++ e ∷ []) ≡ listed h = fold_push listed_after [] h e ∙ no_list in
    list ∙ rests (sym (wakes_quiet h e q.no_rest q.no_work) ∙ on)

pub ended_quiet : (h : List Event) (e : Event) → ended_by e ≡ None → length (ended (h ++ e ∷ [])) ≡ length (ended h)
ended_quiet h e none = ap length (filter_map_push_none ended_by h e none ∙ append-nil (ended h))

-- the word of a list is that of a queue that takes pushes
pub list_takes : (layout : Layout) (ws : List ℕ) (q : Bool) (ks : List ℕ) → IsChain (number_count layout) ws (head_word (head_of_list ks)) ks
    → TakesPushes (marked q (head_of_list ks))
list_takes layout ws true [] c = (λ e. omega (arith, e), λ e. omega (arith, e))
list_takes layout ws false [] c = (λ e. omega (arith, e), λ e. omega (arith, e))
list_takes layout ws q (k ∷ ks) c = (λ e. omega (arith, layout.in_limits, c.1, e), λ e. omega (arith, layout.in_limits, c.1, e))

-- the link to the word of an open head
pub link_marked : (n : ℕ) (ws : List ℕ) (q : Bool) (ks : List ℕ) → n < busy_word → IsChain n ws (head_word (head_of_list ks)) ks
    → link_word (marked q (head_of_list ks)) ≡ head_word (head_of_list ks)
link_marked n ws true [] small c = refl
link_marked n ws false [] small c = refl
link_marked n ws q (k ∷ ks) small c = let other : ((k + 1) == busy_word) ≡ false = ne_eqb (k + 1) busy_word (λ e. omega (arith, e, c.1, small)) in rw other refl

-- a number's word is not that of an empty list
pub small_count : (layout : Layout) → number_count layout < busy_word
small_count layout = omega (arith, layout.in_limits)

-- the link to the head of a queue that takes pushes is no mark of one that takes none
pub link_open : (w : ℕ) → TakesPushes w → TakesPushes (link_word w)
link_open w takes = go (w == busy_word) refl
  where
    go : (q : Bool) → (w == busy_word) ≡ q → TakesPushes (if q then 0 else w)
    go true e = (λ is. omega (arith, is), λ is. omega (arith, is))
    go false e = takes

-- and what stands at it is the number that this link leads to
pub item_linked : (w : ℕ) → TakesPushes w → item_of (head_at w) ≡ number_at (link_word w)
item_linked w takes = (let t = link_open w takes in go (link_word w) (link_word w == 0) refl (ne_eqb _ closed_word t.0) (ne_eqb _ draining_word t.1))
  where
    go : (v : ℕ) (q : Bool) → (v == 0) ≡ q → (v == closed_word) ≡ false → (v == draining_word) ≡ false → item_of (said_at v) ≡ number_at v
    go v true e no_close no_drain = rw e refl
    go v false e no_close no_drain = rw (e, no_close, no_drain) refl

-- what a push to the head that was seen links to
pub link_seen : (p : Option ℕ) (v : ℕ) → link_to p ≡ Some v → link_word (unwrap_or p 0) ≡ v
link_seen None v e = absurd cc
link_seen (Some w) v e = cc e

module _ (m : Machine) (o : IsSound m) where
  pub head_marked : ¬ IsShut m.history → head m ≡ marked (wakes m.history) (head_of_list (listed m.history))
  head_marked opens = o.head_is ∙ head_word_open m.history opens

  pub head_open : ¬ IsShut m.history → link_word (head m) ≡ head_word (head_of_list (listed m.history))
  head_open opens =
      ap link_word (head_marked opens)
      ∙ link_marked (number_count m.layout) m.words (wakes m.history) (listed m.history) (small_count m.layout) o.chains.list_chain

  -- the head says whether the queue is closed, drains, or takes pushes
  pub head_takes : ¬ IsShut m.history → TakesPushes (head m)
  head_takes opens = rw (head_marked opens) (list_takes m.layout m.words (wakes m.history) (listed m.history) o.chains.list_chain)

  pub head_closed : IsClosed m.history → head m ≡ closed_word
  head_closed is = o.head_is ∙ head_of_closed m.history is

  pub head_draining : IsDraining m.history → head m ≡ draining_word
  head_draining is = o.head_is ∙ head_of_draining m.history is

  pub closed_from_head : head m ≡ closed_word → IsClosed m.history
  closed_from_head is = elim (closed_draining_or_open m.history) [
    | inl closes ↦ closes
    | inr (inl drains) ↦ absurd (omega (arith, is, head_draining drains))
    | inr (inr opens) ↦ absurd ((head_takes opens).0 is)
  ]

  pub draining_from_head : head m ≡ draining_word → IsDraining m.history
  draining_from_head is = elim (closed_draining_or_open m.history) [
    | inl closes ↦ absurd (omega (arith, is, head_closed closes))
    | inr (inl drains) ↦ drains
    | inr (inr opens) ↦ absurd ((head_takes opens).1 is)
  ]

  pub open_from_link : TakesPushes (link_word (head m)) → ¬ IsShut m.history
  open_from_link takes shuts = elim (closed_draining_or_open m.history) [
    | inl closes ↦ takes.0 (ap link_word (head_closed closes))
    | inr (inl drains) ↦ takes.1 (ap link_word (head_draining drains))
    | inr (inr opens) ↦ opens shuts
  ]

  -- what the head shows as a cause to give a number back is one
  pub cause_from_head : (why : Why) → HasSeenCause why (Some (head m)) → IsCause m.history why
  cause_from_head Closed is = closed_from_head (cc is)
  cause_from_head Draining is = has_drained m.history (draining_from_head (cc is))
  cause_from_head _ is = tt

  -- a busy head has an empty list
  pub busy_list : ¬ IsShut m.history → head m ≡ busy_word → listed m.history ≡ []
  busy_list opens is = go (listed m.history) refl
    where
      go : (ks : List ℕ) → listed m.history ≡ ks → ks ≡ []
      go [] same = refl
      go (k ∷ ks) same =
          let h : busy_word ≡ k + 1 = sym is ∙ head_marked opens ∙ ap (λ (js : List ℕ). marked (wakes m.history) (head_of_list js)) same in
          let c = rw same at o.chains.list_chain in
          absurd (omega (arith, h, c.1, small_count m.layout))

  -- until the close, what stands at the head is the first of what is listed
  pub cursor_swapped : ¬ IsClosed m.history → item_of (head_at (head m)) ≡ number_at (head_word (head_of_list (listed m.history)))
  cursor_swapped unclosed = elim (closed_draining_or_open m.history) [
    | inl closes ↦ absurd (unclosed closes)
    | inr (inl drains) ↦
        let none : listed m.history ≡ [] = listed-shut m.layout m.history o.legal drains.0 in
        rw (head_draining drains, none) refl
    | inr (inr opens) ↦ item_linked (head m) (head_takes opens) ∙ ap number_at (head_open opens)
  ]
