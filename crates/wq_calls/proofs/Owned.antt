-- What the owner's own events say of a history.
use Rattle.wq_calls.proofs.Common.{◌≡◌, ℕ, ◌+◌, List, [], ◌∷◌, ◌++◌, length, Some, None, sym, ap, ◌∙◌, arith, length-append, subst, count_by}
use Rattle.wq_calls.proofs.Common.{slice_get, append-nil, filter_map-append, slice_get_last, Event, Begin, End, begun, begun_by, ended, running}
use Rattle.wq_calls.proofs.Common.{is_close, IsRunning, owner_seat, Grows, is_chain, is_chain_busy, capped}
use Rattle.std.proofs.lemmas.Option.{slice_get_past}
use Rattle.wq_words.specs.History.{ended_by}
use Rattle.wq_calls.specs.declared.counts.OwnerCounts.{OwnerCounts}
use Rattle.wq_words.proofs.Counting.{chain_own, chain_busy_own}
use Rattle.wq_words.proofs.Seen.{map_own, begun_own, ended_own, close_own}
use Rattle.wq_calls.specs.Counts.{owner_counts}
use Rattle.wq_calls.proofs.Counting.{count_on, more_capped, same_capped}

module _ (xs : List Event) (n : ℕ) (v w : List Event) (g : Grows owner_seat xs n v w) where
  pub begun_on : begun w ≡ begun v ++ begun xs
  begun_on = ap begun g.is ∙ (filter_map-append begun_by v g.new ∙ ap (λ (x : List ℕ). begun v ++ x) (map_own begun_by begun_own g.new ∙ ap begun g.mine))

  pub ended_on : ended w ≡ ended v ++ ended xs
  ended_on = ap ended g.is ∙ (filter_map-append ended_by v g.new ∙ ap (λ (x : List ℕ). ended v ++ x) (map_own ended_by ended_own g.new ∙ ap ended g.mine))

  pub closes_on : count_by is_close w ≡ count_by is_close v + count_by is_close xs
  closes_on = count_on is_close owner_seat close_own xs n v w g

  chains_on : count_by is_chain w ≡ count_by is_chain v + count_by is_chain xs
  chains_on = count_on is_chain owner_seat chain_own xs n v w g

  busy_on : count_by is_chain_busy w ≡ count_by is_chain_busy v + count_by is_chain_busy xs
  busy_on = count_on is_chain_busy owner_seat chain_busy_own xs n v w g

  -- what runs is the same where nothing begins or ends
  pub running_quiet : begun xs ≡ [] → ended xs ≡ [] → running w ≡ running v
  running_quiet b e =
      let bs : begun w ≡ begun v = begun_on ∙ (ap (λ (x : List ℕ). begun v ++ x) b ∙ append-nil (begun v)) in
      let es : ended w ≡ ended v = ended_on ∙ (ap (λ (x : List ℕ). ended v ++ x) e ∙ append-nil (ended v)) in λ i. slice_get (bs i) (length (es i))

  pub counts_on : (a b d : ℕ) → count_by is_chain xs ≡ a → count_by is_chain_busy xs ≡ b → length (ended xs) ≡ d → (old : OwnerCounts) → old ≡ owner_counts v
      → ◌≡◌ {A = OwnerCounts}
      (record { chained = capped (old.chained + a); chain_busy = capped (old.chain_busy + b); ended = capped (old.ended + d) }) (owner_counts w)
  counts_on a b d ca cb cd old is =
      let ea = more_capped (count_by is_chain v) a old.chained (count_by is_chain w) (ap (λ (x : OwnerCounts). x.chained) is) (omega (arith, chains_on)) in
      let eb = more_capped (count_by is_chain_busy v) b old.chain_busy (count_by is_chain_busy w) (ap (λ (x : OwnerCounts). x.chain_busy) is) (omega (
        arith,
        busy_on,
      )) in
      let ed = more_capped (length (ended v)) d old.ended (length (ended w)) (ap (λ (x : OwnerCounts). x.ended) is) (omega (
        arith,
        ap (λ (x : List ℕ). length x) ended_on,
        length-append (ended v) (ended xs),
      )) in
      λ i. record { chained = ea i; chain_busy = eb i; ended = ed i }

  -- what is not counted stays
  as_before : (old : OwnerCounts) → old ≡ owner_counts v
      → (old.chained ≡ capped (old.chained + 0)) × (old.chain_busy ≡ capped (old.chain_busy + 0)) × (old.ended ≡ capped (old.ended + 0))
  as_before old is = (
    sym (same_capped old.chained (count_by is_chain v) (ap (λ (x : OwnerCounts). x.chained) is)),
    sym (same_capped old.chain_busy (count_by is_chain_busy v) (ap (λ (x : OwnerCounts). x.chain_busy) is)),
    sym (same_capped old.ended (length (ended v)) (ap (λ (x : OwnerCounts). x.ended) is)),
  )

  pub counts_quiet : count_by is_chain xs ≡ 0 → count_by is_chain_busy xs ≡ 0 → length (ended xs) ≡ 0 → (old : OwnerCounts) → old ≡ owner_counts v
      → old ≡ owner_counts w
  counts_quiet ca cb cd old is = let k = as_before old is in
      (λ i. record { chained = k.0 i; chain_busy = k.1 i; ended = k.2 i }) ∙ counts_on 0 0 0 ca cb cd old is

  pub counts_ended : count_by is_chain xs ≡ 0 → count_by is_chain_busy xs ≡ 0 → length (ended xs) ≡ 1 → (old : OwnerCounts) → old ≡ owner_counts v
      → (x : ℕ) → x ≡ capped (old.ended + 1) → record old { ended = x } ≡ owner_counts w
  counts_ended ca cb cd old is x e = let k = as_before old is in
      (λ i. record { chained = k.0 i; chain_busy = k.1 i; ended = e i }) ∙ counts_on 0 0 1 ca cb cd old is

  pub counts_chained : count_by is_chain xs ≡ 1 → count_by is_chain_busy xs ≡ 0 → length (ended xs) ≡ 0 → (old : OwnerCounts) → old ≡ owner_counts v
      → (x : ℕ) → x ≡ capped (old.chained + 1) → record old { chained = x } ≡ owner_counts w
  counts_chained ca cb cd old is x e = let k = as_before old is in
      (λ i. record { chained = e i; chain_busy = k.1 i; ended = k.2 i }) ∙ counts_on 1 0 0 ca cb cd old is

  pub counts_busy : count_by is_chain xs ≡ 0 → count_by is_chain_busy xs ≡ 1 → length (ended xs) ≡ 0 → (old : OwnerCounts) → old ≡ owner_counts v
      → (x : ℕ) → x ≡ capped (old.chain_busy + 1) → record old { chain_busy = x } ≡ owner_counts w
  counts_busy ca cb cd old is x e = let k = as_before old is in
      (λ i. record { chained = k.0 i; chain_busy = e i; ended = k.2 i }) ∙ counts_on 0 1 0 ca cb cd old is

-- nothing runs where nothing ran before and no own event came
pub idle_still : (n : ℕ) (v w : List Event) → Grows owner_seat [] n v w → ¬ IsRunning v → ¬ IsRunning w
idle_still n v w g rests runs =
    let bs = ap (λ (xs : List ℕ). length xs) (begun_on [] n v w g ∙ append-nil (begun v)) in
    let es = ap (λ (xs : List ℕ). length xs) (ended_on [] n v w g ∙ append-nil (ended v)) in
    rests (omega (arith, runs, bs, es))

pub rests_on : (c : ℕ) (v w : List Event) → c ≡ owner_seat → Grows c [] 0 v w → ¬ IsRunning v → ¬ IsRunning w
rests_on c v w mine grows = idle_still 0 v w (subst (λ (d : ℕ). Grows d [] 0 v w) mine grows)

-- what runs once k began, and once what ran has ended
pub running_begun : (k n : ℕ) (v w : List Event) → Grows owner_seat (Begin k ∷ []) n v w → length (ended v) ≡ length (begun v) → running w ≡ Some k
running_begun k n v w g idle =
    let bs : begun w ≡ begun v ++ k ∷ [] = begun_on (Begin k ∷ []) n v w g in
    let es : ended w ≡ ended v = ended_on (Begin k ∷ []) n v w g ∙ append-nil (ended v) in
    (λ i. slice_get (bs i) (length (es i))) ∙ (ap (slice_get (begun v ++ k ∷ [])) idle ∙ slice_get_last (begun v) k [])

pub running_ended : (k n : ℕ) (v w : List Event) → Grows owner_seat (End k ∷ []) n v w → length (begun v) ≡ length (ended v) + 1 → running w ≡ None
running_ended k n v w g runs =
    let bs : begun w ≡ begun v = begun_on (End k ∷ []) n v w g ∙ append-nil (begun v) in
    let es : ended w ≡ ended v ++ k ∷ [] = ended_on (End k ∷ []) n v w g in
    (λ i. slice_get (bs i) (length (es i))) ∙ slice_get_past (begun v) (length (ended v ++ k ∷ [])) (omega (arith, length-append (ended v) (k ∷ [])))
