-- What a Take, a Drain or a Close leaves as the batch.
use Rattle.wq_calls.proofs.Common.{◌≡◌, ℕ, ◌+◌, List, [], ◌∷◌, ◌++◌, length, Option, None, take, sym, refl, ap, ◌∙◌, subst, arith, append_assoc}
use Rattle.wq_calls.proofs.Common.{length-append, append-nil, filter_map-append, Layout, Event, Take, Drain, Close, number_count, accepted}
use Rattle.wq_calls.proofs.Common.{accepted_by, begun, IsClosed, IsShut, listed, IsLegal, legal_front, legal_next, closed_shuts, Machine, IsSound}
use Rattle.wq_calls.proofs.Common.{owner_seat, seat_of, own, Grows, own-append, own_one, batch, TakesAll}
use Rattle.std.proofs.Common.{drop, length-drop}
use Rattle.std.specs.Prelude.{reverse}
use Rattle.std.proofs.lemmas.List.{length-reverse}
use mathlib.Core.List.{reverse_aux}
use Rattle.wq_words.specs.History.{fresh, taken}
use Rattle.wq_words.specs.Legal.{MayFollow}
use Rattle.wq_words.proofs.Growing.{take_length}
use Rattle.wq_words.proofs.Legal.{legal_rest}
use Rattle.wq_words.proofs.Closed.{shut_close}
use Rattle.wq_words.proofs.Listed.{accepted_push_none, taken_shut, taken_cut}
use Rattle.wq_words.proofs.OtherSeats.{taken_still}
use Rattle.wq_core.specs.Words.{word_at}
use Rattle.wq_core.specs.Sound.{IsChain}
use Rattle.wq_core.proofs.Chains.{chain_zero}
use Rattle.wq_calls.proofs.Owned.{begun_on}
use Rattle.wq_words.proofs.Fresh.{fresh_unclosed}

-- what is accepted has begun, is in the batch, or is on the list
pub walked_lengths : (m : Machine) → IsSound m → m.cursor ≡ None
    → length (accepted m.history) ≡ length (begun m.history) + length m.batch + length (listed m.history)
walked_lengths m o still =
    let a = o.chains in let done : m.walked ≡ [] = a.none_walked still in
    let none : a.remaining ≡ [] = chain_zero (number_count m.layout) m.words a.remaining
    (subst (λ (c : Option ℕ). IsChain (number_count m.layout) m.words (word_at c) a.remaining) still a.walk_chain) in
    let mid : reverse_aux a.remaining m.walked ≡ [] = λ i. reverse_aux (none i) (done i) in
    omega (
      arith,
      ap (λ (x : List ℕ). length x) a.order,
      length-append (begun m.history ++ (m.batch ++ reverse_aux a.remaining m.walked)) (reverse (listed m.history)),
      length-append (begun m.history) (m.batch ++ reverse_aux a.remaining m.walked),
      length-append m.batch (reverse_aux a.remaining m.walked),
      length-reverse (listed m.history),
      ap (λ (x : List ℕ). length x) mid,
    )

-- what the owner's event e leaves, where it takes all that was accepted before it
cuts_all : (layout : Layout) (e : Event) (before after h : List Event) (ks js : List ℕ) (count : ℕ) → IsLegal layout h → h ≡ before ++ e ∷ after
    → own owner_seat after ≡ [] → seat_of e ≡ owner_seat → begun (e ∷ []) ≡ []
    → taken (before ++ e ∷ []) ≡ length (accepted before) → fresh before ≡ length (listed before)
    → length (accepted before) ≡ length (begun before) + length ks + length (listed before) → js ≡ batch h → count + length ks ≡ length js
    → TakesAll e count h
cuts_all layout e before after h ks js count legal is none seat quiet takes fresh_is sum batch_is total = record {
  before = before;
  after = after;
  is = is;
  last = none;
  count_is = let long = ap (λ (x : List ℕ). length x) (batch_is ∙ left) in
      let cut = length-drop (length (begun before)) (accepted before) in omega arith;
  batch_is = left;
}
  where
    grows : Grows owner_seat (e ∷ []) 0 before h
    grows = record {
      new = e ∷ after;
      is = is;
      mine = own-append owner_seat (e ∷ []) after ∙ (λ i. own_one owner_seat e seat i ++ none i);
      theirs = omega arith;
    }

    same : begun h ≡ begun before
    same = begun_on (e ∷ []) 0 before h grows ∙ (ap (λ (x : List ℕ). begun before ++ x) quiet ∙ append-nil (begun before))

    took : taken h ≡ length (accepted before)
    took = ap taken (is ∙ sym (append_assoc before (e ∷ []) after)) ∙
        (taken_still layout (before ++ e ∷ []) after (legal_rest layout before e after (subst (IsLegal layout) is legal)) none ∙ takes)

    all : take (taken h) (accepted h) ≡ accepted before
    all = (λ i. take (took i) ((ap accepted is ∙ filter_map-append accepted_by before (e ∷ after)) i)) ∙
        take_length (accepted before) (accepted (e ∷ after))

    left : batch h ≡ drop (length (begun before)) (accepted before)
    left = λ i. drop (length (same i)) (all i)

-- the owner's event e takes all that was accepted before it
abbrev pub CutsAll : Event → Type 0
CutsAll e = (layout : Layout) (before after h : List Event) (ks js : List ℕ) (count : ℕ) → IsLegal layout h → h ≡ before ++ e ∷ after
    → own owner_seat after ≡ []
    → length (accepted before) ≡ length (begun before) + length ks + length (listed before) → js ≡ batch h → count + length ks ≡ length js
    → TakesAll e count h

-- each of the three does that may come before the close
module _ (layout : Layout) (e : Event) (before after h : List Event) (ks js : List ℕ) (count : ℕ) (legal : IsLegal layout h)
    (is : h ≡ before ++ e ∷ after) where
  whole : IsLegal layout (before ++ e ∷ after)
  whole = subst (IsLegal layout) is legal

  allowed : MayFollow before e
  allowed = (legal_next layout before e after whole).2

  takes_cut : own owner_seat after ≡ [] → seat_of e ≡ owner_seat → begun (e ∷ []) ≡ [] → taken (before ++ e ∷ []) ≡ length (accepted before)
      → ¬ IsClosed before
      → length (accepted before) ≡ length (begun before) + length ks + length (listed before) → js ≡ batch h → count + length ks ≡ length js
      → TakesAll e count h
  takes_cut none seat quiet takes unclosed sum batch_is total = cuts_all layout e before after h ks js count legal is none seat quiet takes
      (fresh_unclosed layout before (legal_front layout before (e ∷ after) whole) unclosed) sum batch_is total

pub takes_all : CutsAll Take
takes_all layout before after h ks js count legal is none =
    let opens : ¬ IsShut before = allowed layout Take before after h ks js count legal is in
    takes_cut layout Take before after h ks js count legal is none refl refl (taken_cut before Take refl refl) (λ closed. opens (closed_shuts before closed))

pub drains_all : CutsAll Drain
drains_all layout before after h ks js count legal is none =
    let opens : ¬ IsShut before = allowed layout Drain before after h ks js count legal is in
    takes_cut layout Drain before after h ks js count legal is none refl refl (taken_cut before Drain refl refl) (λ closed. opens (closed_shuts before closed))

pub closes_all : CutsAll Close
closes_all layout before after h ks js count legal is none =
    let unclosed : ¬ IsClosed before = allowed layout Close before after h ks js count legal is in
    takes_cut layout Close before after h ks js count legal is none refl refl
    (taken_shut (before ++ Close ∷ []) (shut_close before Close refl) ∙ ap (λ (x : List ℕ). length x) (accepted_push_none before Close refl)) unclosed
