-- What a word says as a head.
use Rattle.wq_core.proofs.Common.{draining_word, TakesPushes, ◌≡◌, ◌≢◌, ℕ, ◌-◌, ◌^◌, ◌≤◌, ◌==◌, Bool, true, false, if◌then◌else◌, refl, inl, inr, arith}
use Rattle.wq_core.proofs.Common.{eqb-true, eqb-false, Empty, Item, busy_word, IsWordOf, IsCodable, closed_word, link_word, said_at, head_at}
use Rattle.wq_words.specs.declared.head.Head.{Head}
use Rattle.wq_words.specs.declared.head.Head.TheVariants.{Closed, Draining}

module _ (w : ℕ) where
  -- a word is the empty one, the closed one, the draining one, or a number's
  split : (P : Head → Type 0) → (w ≡ 0 → P Empty) → (w ≡ closed_word → P Closed) → (w ≡ draining_word → P Draining)
      → (w ≢ 0 → TakesPushes w → P (Item (w - 1))) → P (said_at w)
  split P empty closed draining item = go (w == 0) (w == closed_word) (w == draining_word) refl refl refl
    where
      go : (p q r : Bool) → (w == 0) ≡ p → (w == closed_word) ≡ q → (w == draining_word) ≡ r
          → P (if p then Empty else (if q then Closed else (if r then Draining else Item (w - 1))))
      go true q r e f g = empty (eqb-true w 0 e)
      go false true r e f g = closed (eqb-true w closed_word f)
      go false false true e f g = draining (eqb-true w draining_word g)
      go false false false e f g = item (eqb-false w 0 e) (eqb-false w closed_word f, eqb-false w draining_word g)

  said_coded : (TakesPushes w → w ≤ 2 ^ 32) → IsCodable (said_at w) × IsWordOf (said_at w) w
  said_coded small =
      split (λ x. IsCodable x × IsWordOf x w) (λ e. (tt, inl e)) (λ e. (tt, e)) (λ e. (tt, e))
      (λ ne takes. (omega (arith, ne, small takes), omega (arith, ne)))

  pub head_coded : (TakesPushes w → link_word w ≤ 2 ^ 32) → IsCodable (head_at w) × IsWordOf (head_at w) w
  head_coded small = go (w == busy_word) refl small
    where
      go : (q : Bool) → (w == busy_word) ≡ q → (TakesPushes w → (if q then 0 else w) ≤ 2 ^ 32)
          → IsCodable (said_at (if q then 0 else w)) × IsWordOf (said_at (if q then 0 else w)) w
      go true e small' = (tt, inr (eqb-true w busy_word e))
      go false e small' = said_coded small'
