-- How many numbers wait: each waits once, and is below the count of numbers.
use Rattle.wq_calls.proofs.Common.{◌≡◌, ℕ, ◌+◌, ◌<◌, ◌≤◌, List, [], ◌∷◌, ◌++◌, length, Option, Some, None, ap, subst, arith, length-append}
use Rattle.wq_calls.proofs.Common.{number_count, accepted, begun, listed, kept, times, times-append, Machine, IsSound, Part, Owns, HasStage, Stands}
use Rattle.std.specs.Prelude.{reverse}
use mathlib.Core.List.{reverse_aux}
use Rattle.wq_words.specs.Keeper.{keeper}
use Rattle.wq_words.proofs.Keepers.{queue_bit}
use Rattle.wq_words.proofs.Times.{length-distinct_below}
use Rattle.wq_words.proofs.Accepted.{accepted_below, queue_once}
use Rattle.wq_core.specs.Words.{word_at}
use Rattle.wq_core.specs.Sound.{IsChain}

length_onto : (xs ys : List ℕ) → length (reverse_aux xs ys) ≡ length xs + length ys
length_onto [] ys = omega arith
length_onto (x ∷ xs) ys = omega (arith, length_onto xs (x ∷ ys))

-- what waits, between what has begun and what is listed
abbrev mid_of : (m : Machine) (o : IsSound m) → List ℕ
mid_of m o = m.batch ++ reverse_aux o.chains.remaining m.walked

split_of : (m : Machine) (o : IsSound m) (q : ℕ)
    → times q (accepted m.history) ≡ times q (begun m.history) + times q (mid_of m o) + times q (reverse (listed m.history))
split_of m o q =
    let e = ap (times q) o.chains.order in let x = times-append q (begun m.history ++ mid_of m o) (reverse (listed m.history)) in
    let y = times-append q (begun m.history) (mid_of m o) in omega arith

-- what the owner took and has not begun is at most all numbers
pub waits_few : (m : Machine) (o : IsSound m) → length m.batch + (length o.chains.remaining + length m.walked) ≤ number_count m.layout
waits_few m o =
    let h = m.history in let a = o.chains in let mid = mid_of m o in
    let keeps : (q : ℕ) → times q (accepted h) ≡ times q (begun h) + queue_bit (keeper h q) = λ q. (kept m.layout h o.legal 0 q).2 in
    let less = length-distinct_below mid (number_count m.layout) (λ q. omega (
      arith,
      split_of m o q,
      keeps q,
      queue_once (keeper h q),
    )) (λ q is. accepted_below m.layout h o.legal q (omega (arith, split_of m o q, is))) in
    omega (arith, less, length-append m.batch (reverse_aux a.remaining m.walked), length_onto a.remaining m.walked)

first_of_chain : (n : ℕ) (ws : List ℕ) (k : ℕ) (ks : List ℕ) → IsChain n ws (k + 1) ks → (k < n) × (1 ≤ length ks)
first_of_chain n ws k [] chain = absurd (omega (arith, chain))
first_of_chain n ws k (j ∷ js) chain = let same = chain.0 in let small = chain.1 in (omega arith, omega arith)

-- the owner that walks k
pub stands_walking : (p : Part) (k : ℕ) (walked batch : List ℕ) → Stands p → p.stage ≡ Owns (Some k) walked batch
    → (k < number_count p.layout) × (length batch + length walked < number_count p.layout)
stands_walking p k walked batch stands is =
    let m = stands.machine in let o = stands.sound in
    let keeps : HasStage m p.seat (Owns (Some k) walked batch) = subst (HasStage m p.seat) is stands.fits.keeps in
    let chain : IsChain (number_count m.layout) m.words (k + 1) o.chains.remaining = subst
    (λ (c : Option ℕ). IsChain (number_count m.layout) m.words (word_at c) o.chains.remaining) keeps.1 o.chains.walk_chain in
    let first = first_of_chain (number_count m.layout) m.words k o.chains.remaining chain in
    let layout : number_count p.layout ≡ number_count m.layout = ap number_count stands.fits.layout_is in (
      omega (arith, layout, first.0),
      omega (
        arith,
        layout,
        first.1,
        waits_few m o,
        ap (λ (x : List ℕ). length x) keeps.2,
        ap (λ (x : List ℕ). length x) keeps.3,
      ),
    )

-- the owner that has walked all
pub stands_walked : (p : Part) (batch : List ℕ) → Stands p → p.stage ≡ Owns None [] batch → length batch ≤ number_count p.layout
stands_walked p batch stands is =
    let m = stands.machine in let o = stands.sound in let keeps : HasStage m p.seat (Owns None [] batch) = subst (HasStage m p.seat) is stands.fits.keeps in
    let layout : number_count p.layout ≡ number_count m.layout = ap number_count stands.fits.layout_is in
    omega (arith, layout, waits_few m o, ap (λ (x : List ℕ). length x) keeps.3)
