-- Events by which a worker sends nothing, chains nothing and asks for nothing.
use Rattle.std.proofs.Common.{Option, Some, None}
use Rattle.wq_worker.proofs.Common.{◌≡◌, ℕ, ◌+◌, Bool, true, false, List, [], ◌∷◌, ◌++◌, refl, ◌∙◌, arith, count_by, Event, Take, Begin, shut, owner_seat}
use Rattle.wq_worker.proofs.Common.{own, taking, count_by-append, seat_of, sym, subst}
use Rattle.std.proofs.Common.{◌≢◌}
use Rattle.wq_words.specs.History.{is_close, is_drain}
use Rattle.wq_words.proofs.Seen.{own-append, own_none}
use Rattle.wq_words.specs.Counting.{is_chain, is_chain_busy}
use Rattle.wq_worker.specs.Seats.{taking_of}
use Rattle.wq_live.specs.Batch.{next_of}

-- the sender s made none of these events, and the owner chained nothing by them, began no drain, and closed so often
pub record Still (s n : ℕ) (xs : List Event) : Type 0 where
  pub unsent : own s xs ≡ []
  pub unchained : count_by is_chain xs ≡ 0
  pub unasked : count_by is_chain_busy xs ≡ 0
  pub closes_is : count_by is_close xs ≡ n
  pub undrained : count_by is_drain xs ≡ 0

pub still_none : (s : ℕ) → Still s 0 []
still_none s = record { unsent = refl; unchained = refl; unasked = refl; closes_is = refl; undrained = refl }

pub still_on : (s m n : ℕ) (xs ys : List Event) → Still s m xs → Still s n ys → Still s (m + n) (xs ++ ys)
still_on s m n xs ys a b = record {
  unsent = own-append s xs ys ∙ (λ i. a.unsent i ++ b.unsent i);
  unchained = omega (arith, count_by-append is_chain xs ys, a.unchained, b.unchained);
  unasked = omega (arith, count_by-append is_chain_busy xs ys, a.unasked, b.unasked);
  closes_is = omega (arith, count_by-append is_close xs ys, a.closes_is, b.closes_is);
  undrained = omega (arith, count_by-append is_drain xs ys, a.undrained, b.undrained);
}

-- an event of the owner that chains nothing and begins no drain
pub still_one : (s n : ℕ) (e : Event) → s ≢ owner_seat → seat_of e ≡ owner_seat → count_by is_chain (e ∷ []) ≡ 0 → count_by is_chain_busy (e ∷ []) ≡ 0
    → count_by is_close (e ∷ []) ≡ n → count_by is_drain (e ∷ []) ≡ 0 → Still s n (e ∷ [])
still_one s n e not at chains asks closes drains =
    record { unsent = own_none owner_seat e at s not; unchained = chains; unasked = asks; closes_is = closes; undrained = drains }

pub still_taking : (s : ℕ) → s ≢ owner_seat → (h : List Event) → Still s 0 (taking h)
still_taking s not h = each (next_of h) (shut h)
  where
    each : (o : Option ℕ) (b : Bool) → Still s 0 (taking_of o b)
    each None true = still_none s
    each None false = still_one s 0 Take not refl refl refl refl refl
    each (Some k) b = still_none s

-- an execution's beginning
pub still_begun : (s k : ℕ) → s ≢ owner_seat → (h es : List Event) → es ≡ taking h ++ Begin k ∷ [] → Still s 0 es
still_begun s k not h es is = subst (Still s 0) (sym is)
    (still_on s 0 0 (taking h) (Begin k ∷ []) (still_taking s not h) (still_one s 0 (Begin k) not refl refl refl refl refl))
