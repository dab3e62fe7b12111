-- The senders and the owner of a new queue.
use Rattle.wq_calls.proofs.Common.{◌≡◌, ℕ, zero, suc, ◌+◌, ◌<◌, List, [], ◌∷◌, ◌++◌, length, map, None, sym, refl, ap, ◌∙◌, subst, arith}
use Rattle.wq_calls.proofs.Common.{length-append, All, TableId, Layout, Standing, ValueStanding, standing_of, value_senders, Open, running, owner_seat}
use Rattle.wq_calls.proofs.Common.{Known, new_senders, KnownWith, knowing_nothing, sender_with, Sent, OwnerSeat}
use Rattle.wq_calls.proofs.Common.{sender_counts, Row, IsRowOf, Owning, owning, owner_view, Sending, sending_in, alone_at, sender_view, Sends, Stands}
use Rattle.wq_calls.proofs.Common.{OwnsQueue, phase}
use Rattle.std.proofs.Common.{get_or}
use Rattle.std.proofs.lemmas.List.{map-append, length-map}
use Rattle.std.proofs.lemmas.List.Elements.{All-map}
use Rattle.wq_words.proofs.Legal.{legal_nil}
use Rattle.wq_words.proofs.Written.{each_more}
use Rattle.wq_core.specs.Machine.{opening}
use Rattle.wq_core.proofs.Sound.{sound_opening}
use Rattle.wq_table.proofs.NewChairs.{owner_chair, sender_chair}
use Rattle.wq_table.specs.SlotChairs.{value_sender, value_owner}
use Rattle.wq_calls.specs.Known.{new_sender, new_owner}
use Rattle.wq_calls.specs.Counts.{owner_counts}
use Rattle.wq_table.proofs.Views.{none_stands}
use Rattle.wq_calls.proofs.Seated.{all_new, length-new_senders}
use Rattle.wq_calls.proofs.Linking.{has_row}

pub length-value_senders : (V : Type 0) (q : TableId) (l : Layout) (n : ℕ) → length (value_senders {V = V} q l n) ≡ n
length-value_senders V q l zero = refl
length-value_senders V q l (suc m) = omega (arith, length-append (value_senders {V = V} q l m) (value_sender q l m ∷ []), length-value_senders V q l m)

module _ {V : Type 0} where
  get_or-value_senders : (q : TableId) (l : Layout) (n i : ℕ) (d : ValueStanding V) → i < n → get_or (value_senders q l n) i d ≡ value_sender q l i
  get_or-value_senders q l zero i d less = absurd (omega arith)
  get_or-value_senders q l (suc m) i d less =
      each_more (λ (k : ℕ) (x : ValueStanding V). x ≡ value_sender q l k) (value_senders q l m) (value_sender q l m)
      (λ k e low. get_or-value_senders q l m k e (omega (arith, low, length-value_senders V q l m)))
      (ap (value_sender q l) (sym (length-value_senders V q l m))) i d
      (omega (arith, less, length-append (value_senders {V = V} q l m) (value_sender q l m ∷ []), length-value_senders V q l m))

  -- the seat that comes next
  pub chair_at : (q : TableId) (l : Layout) (n : ℕ) (items : List (ValueStanding V)) (i number : ℕ) (chair : ValueStanding V) → items ≡ value_senders q l n
      → number ≡ i → (i < length items) × (chair ≡ get_or items i chair) → chair ≡ value_sender q l number
  chair_at q l n items i number chair is same turn =
      let less : i < n = omega (arith, turn.0, ap (λ (xs : List (ValueStanding V)). length xs) is, length-value_senders V q l n) in
      turn.1 ∙ (ap (λ (xs : List (ValueStanding V)). get_or xs i chair) is ∙
      (get_or-value_senders q l n i chair less ∙ ap (value_sender q l) (sym same)))

  -- which is one of the senders
  pub chair_low : (q : TableId) (l : Layout) (items : List (ValueStanding V)) (i number : ℕ) (chair : ValueStanding V)
      → items ≡ value_senders q l l.senders → number ≡ i → (i < length items) × (chair ≡ get_or items i chair) → number < l.senders
  chair_low q l items i number chair is same turn =
      omega (arith, turn.0, same, ap (λ (xs : List (ValueStanding V)). length xs) is, length-value_senders V q l l.senders)

  -- a sender that has seen nothing
  module _ (q : TableId) (layout : Layout) (number : ℕ) (chair : ValueStanding V) (sent : Sent) (is : chair ≡ value_sender q layout number)
      (made : (sent.layout ≡ layout) × (sent.number ≡ number) × (sent.counts ≡ sender_counts number [])) where
    abbrev sending_nothing : Sending
    sending_nothing = record { chair = sender_chair q layout number; layout = layout; number = number; counts = sender_counts number [] }

    sending_new : sending_in 0 chair sent ≡ sending_nothing
    sending_new = λ i. record { chair = alone_at 0 (standing_of (is i)); layout = made.0 i; number = made.1 i; counts = made.2 i }

    pub sends_new : number < layout.senders → Sends (sending_in 0 chair sent)
    sends_new low = subst Sends (sym sending_new)
        (record { layout_is = refl; number_is = refl; low = low; stage = tt; legal = legal_nil layout; counts_are = refl })

    pub view_new : sender_view (sending_in 0 chair sent) ≡ new_sender q layout number
    view_new = ap sender_view sending_new

    pub with_new : sender_with 0 chair sent ≡ knowing_nothing (new_sender q layout number)
    with_new = λ i. record { known = view_new i; brought = (is i).first.brought }

  -- the owner that has seen nothing, and the senders beside it
  module _ (layout : Layout) (chair : ValueStanding V) (seat : OwnerSeat V) (is : chair ≡ value_owner chair.queue layout) (same : seat.chair ≡ chair)
      (size : seat.layout ≡ layout) where
    pub seat_new : seat.chair ≡ value_owner seat.chair.queue layout
    seat_new = subst (λ (x : ValueStanding V). x ≡ value_owner x.queue layout) (sym same) is

    pub owner_new : owner_view (owning seat) ≡ new_owner seat.chair.queue layout
    owner_new = λ i. record { queue = (seat_new i).queue; layout = size i; number = owner_seat; seen = (seat_new i).first.part.seen }

    pub senders_new : (xs : List Known) → xs ≡ new_senders chair.queue layout layout.senders → xs ≡ new_senders seat.chair.queue layout layout.senders
    senders_new xs made = made ∙ ap (λ (x : ValueStanding V). new_senders x.queue layout layout.senders) (sym same)

    pub values_new : (xs : List (KnownWith V)) → xs ≡ map knowing_nothing (new_senders chair.queue layout layout.senders)
        → xs ≡ map knowing_nothing (new_senders seat.chair.queue layout layout.senders)
    values_new xs made = made ∙ ap (λ (x : ValueStanding V). map (knowing_nothing {V = V}) (new_senders x.queue layout layout.senders)) (sym same)

  -- what holds of each new sender holds of all
  pub all_values : (P : KnownWith V → Type 0) (q : TableId) (l : Layout) (xs : List (KnownWith V)) → xs ≡ map knowing_nothing (new_senders q l l.senders)
      → ((s : ℕ) → P (knowing_nothing (new_sender q l s))) → All P xs
  all_values P q l xs made each =
      subst (All P) (sym made) (All-map P knowing_nothing (new_senders q l l.senders) (all_new (λ s. P (knowing_nothing s)) q l l.senders each))

  pub length_values : (q : TableId) (l : Layout) (xs : List (KnownWith V)) → xs ≡ map knowing_nothing (new_senders q l l.senders) → length xs ≡ l.senders
  length_values q l xs made = ap length made ∙ (length-map (new_senders q l l.senders) (knowing_nothing {V = V}) ∙ length-new_senders q l l.senders)

-- without what was brought they are those of any new queue
pub values_known : (V : Type 0) (xs : List Known) → map (λ (s : KnownWith V). s.known) (map knowing_nothing xs) ≡ xs
values_known V [] = refl
values_known V (x ∷ xs) = ap (λ (ks : List Known). x ∷ ks) (values_known V xs)

pub new_senders-more : (q : TableId) (l : Layout) (n : ℕ) → new_senders q l n ++ new_sender q l n ∷ [] ≡ new_senders q l (n + 1)
new_senders-more q l n = let e : n + 1 ≡ suc n = omega arith in sym (ap (new_senders q l) e)

pub values-more : (V : Type 0) (q : TableId) (l : Layout) (n : ℕ)
    → map (knowing_nothing {V = V}) (new_senders q l n) ++ knowing_nothing (new_sender q l n) ∷ [] ≡ map knowing_nothing (new_senders q l (n + 1))
values-more V q l n = sym (map-append (knowing_nothing {V = V}) (new_senders q l n) (new_sender q l n ∷ [])) ∙
    ap (map (knowing_nothing {V = V})) (new_senders-more q l n)

pub stands_new : (l : Layout) (p : Standing) → p ≡ owner_chair p.queue l → Stands p.part
stands_new l p is = subst (λ (x : Standing). Stands x.part) (sym is) record {
  machine = opening l;
  sound = sound_opening l;
  fits = record { layout_is = refl; begins = ([], refl); mine = refl; keeps = (refl, refl, refl, refl); links = λ k there. absurd (none_stands k there) };
  seen_is = refl;
}

-- the owner of a new queue
pub executes_new : (s : Owning) → s.chair ≡ owner_chair s.chair.queue s.layout → s.row ≡ record { front = 0; last = 0; count = 0 }
    → s.running ≡ None → s.phase ≡ Open → s.counts ≡ record { chained = 0; chain_busy = 0; ended = 0 } → OwnsQueue s
executes_new s is row runs opens counts = let seen : s.chair.part.seen ≡ [] = ap (λ (x : Standing). x.part.seen) is in record {
  layout_is = ap (λ (x : Standing). x.part.layout) is;
  number_is = ap (λ (x : Standing). x.part.seat) is;
  stands = stands_new s.layout s.chair is;
  has_row =
      has_row s.chair.part s.row [] (ap (λ (x : Standing). x.part.stage) is)
      (subst (λ (r : Row). IsRowOf s.chair.part.words r []) (sym row) (record { count_is = refl; spells = tt }));
  running_is = runs ∙ ap running (sym seen);
  phase_is = opens ∙ ap phase (sym seen);
  counts_are = counts ∙ ap owner_counts (sym seen);
}
