-- Rows that the links spell.
use Rattle.wq_calls.proofs.Common.{◌≡◌, ◌≢◌, ℕ, ◌+◌, ◌<◌, ◌≤◌, Bool, cond, List, [], ◌∷◌, ◌++◌, sym, ap, ◌∙◌, subst, arith, eqb, eq-eqb}
use Rattle.wq_calls.proofs.Common.{times, times-cons, times-first, Row, link_in, LinksOn, IsRowOf}

-- where no link of the row has changed
pub on_same : (ws ws' : List ℕ) (k last : ℕ) (ks : List ℕ) → ((j : ℕ) → 0 < times j (k ∷ ks) → link_in ws' j ≡ link_in ws j) → LinksOn ws k last ks
    → LinksOn ws' k last ks
on_same ws ws' k last [] same on = on
on_same ws ws' k last (j ∷ js) same on =
    (same k (omega (arith, times-first k (j ∷ js))) ∙ on.0, on_same ws ws' j last js (λ i there. same i (omega (arith, there, times-cons i k (j ∷ js)))) on.1)

pub row_same : (ws ws' : List ℕ) (row : Row) (ks : List ℕ) → ((j : ℕ) → 0 < times j ks → link_in ws' j ≡ link_in ws j) → IsRowOf ws row ks → IsRowOf ws' row ks
row_same ws ws' row [] same is = record { count_is = is.count_is; spells = tt }
row_same ws ws' row (k ∷ ks) same is = record { count_is = is.count_is; spells = (is.spells.0, on_same ws ws' k row.last ks same is.spells.1) }

-- the last number stands in the row
pub last_in : (ws : List ℕ) (k last : ℕ) (ks : List ℕ) → LinksOn ws k last ks → 0 < times last (k ∷ ks)
last_in ws k last [] on = subst (λ (j : ℕ). 0 < times j (k ∷ [])) (sym on) (omega (arith, times-first k []))
last_in ws k last (j ∷ js) on = omega (arith, last_in ws j last js on.1, times-cons last k (j ∷ js))

-- one row behind the other, once the last link of the first leads to the front of the second
pub on_hung : (ws ws' : List ℕ) (k last : ℕ) (ks : List ℕ) (j last' : ℕ) (js : List ℕ) → times last (k ∷ ks) ≤ 1
    → ((i : ℕ) → i ≢ last → 0 < times i (k ∷ ks) → link_in ws' i ≡ link_in ws i) → link_in ws' last ≡ j + 1 → LinksOn ws k last ks → LinksOn ws' j last' js
    → LinksOn ws' k last' (ks ++ j ∷ js)
on_hung ws ws' k last [] j last' js once same hung on behind = (ap (link_in ws') (sym on) ∙ hung, behind)
on_hung ws ws' k last (i ∷ is) j last' js once same hung on behind =
    let there = last_in ws i last is on.1 in
    let apart : k ≢ last = λ e. (let one : ◌≡◌ {A = ℕ} (cond (eqb k last) 1 0) 1 = ap (λ (b : Bool). cond b 1 0) (eq-eqb k last e) in
    omega (arith, once, there, times-cons last k (i ∷ is), one)) in (
      same k apart (omega (arith, times-first k (i ∷ is))) ∙ on.0,
      on_hung ws ws' i last is j last' js (omega (arith, once, times-cons last k (i ∷ is)))
          (λ a ne in'. same a ne (omega (arith, in', times-cons a k (i ∷ is)))) hung on.1 behind,
    )
