-- The two chains and the batch, a step at a time.
use Rattle.wq_core.proofs.Common.{◌≡◌, ◌≢◌, ℕ, ◌+◌, ◌<◌, ◌==◌, Bool, true, false, List, [], ◌∷◌, ◌++◌, length, get_or, set, Option, Some, None}
use Rattle.wq_core.proofs.Common.{slice_get, refl, sym, ap, ◌∙◌, arith, append_assoc, reverse, append-nil, get_or-set_other}
use Rattle.wq_core.proofs.Common.{eqb-false, eqb-true, reverse_onto, reverse_aux, head_word, slice_get_last, link_place, number_at}
use Rattle.wq_core.proofs.Common.{word_at, head_of_list, IsChain, AreChained}
use Rattle.wq_words.proofs.Times.{times, times-cons, times-append, times-reverse_aux, times-first}

-- the word that links to the number at a word is this word
pub word_at-number_at : (w : ℕ) → word_at (number_at w) ≡ w
word_at-number_at w = go (w == 0) refl
  where
    go : (q : Bool) → (w == 0) ≡ q → word_at (number_at w) ≡ w
    go true e = rw e (sym (eqb-true w 0 e))
    go false e = let ne = eqb-false w 0 e in rw e (omega (arith, ne))

pub number_at-some : (w : ℕ) → w ≢ 0 → number_at w ≢ None
number_at-some w ne e = ne (sym (word_at-number_at w) ∙ ap word_at e)

pub number_at-none : (w : ℕ) → number_at w ≡ None → w ≡ 0
number_at-none w e = sym (word_at-number_at w) ∙ ap word_at e

-- a write to a word that is no link of the chain leaves the chain
pub chain_set : (n : ℕ) (ws : List ℕ) (i v w : ℕ) (ks : List ℕ) → ((j : ℕ) → j < n → 0 < times j ks → i ≢ link_place j) → IsChain n ws w ks
    → IsChain n (set ws i v) w ks
chain_set n ws i v w [] spared c = c
chain_set n ws i v w (j ∷ ks) spared c =
    let here : i ≢ link_place j = spared j c.1 (omega (arith, times-first j ks)) in
    let other : get_or (set ws i v) (link_place j) 0 ≡ get_or ws (link_place j) 0 = get_or-set_other ws i (link_place j) v 0 (λ e. here (sym e)) in
    (c.0, c.1, rw other (chain_set n ws i v (get_or ws (link_place j) 0) ks (λ k lt in'. spared k lt (omega (arith, in', times-cons k j ks))) c.2))

pub chain_zero : (n : ℕ) (ws : List ℕ) (ks : List ℕ) → IsChain n ws 0 ks → ks ≡ []
chain_zero n ws [] c = refl
chain_zero n ws (k ∷ ks) c = absurd (omega (arith, c.0))

module _ (n : ℕ) (ws : List ℕ) where
  -- a number that was accepted and has not begun as often alone stands in a chain or in the batch
  pub chained_set : (cursor : Option ℕ) (walked batch acc beg lst : List ℕ) (i v : ℕ) → ((j : ℕ) → j < n → times j beg < times j acc → i ≢ link_place j)
      → AreChained n ws cursor walked batch acc beg lst → AreChained n (set ws i v) cursor walked batch acc beg lst
  chained_set cursor walked batch acc beg lst i v spared a =
      let count : (j : ℕ) → times j acc ≡ times j beg + (times j batch + (times j a.remaining + times j walked)) + times j lst = λ j.
      omega (
        arith,
        ap (times j) a.order,
        times-append j (beg ++ (batch ++ reverse_aux a.remaining walked)) (reverse lst),
        times-append j beg (batch ++ reverse_aux a.remaining walked),
        times-append j batch (reverse_aux a.remaining walked),
        times-reverse_aux j a.remaining walked,
        times-reverse_aux j lst [],
      ) in
      record {
        remaining = a.remaining;
        list_chain = chain_set n ws i v _ lst (λ j lt in'. spared j lt (omega (arith, count j, in'))) a.list_chain;
        walk_chain = chain_set n ws i v _ a.remaining (λ j lt in'. spared j lt (omega (arith, count j, in'))) a.walk_chain;
        order = a.order;
        none_walked = a.none_walked;
      }

  pub chained_push : (cursor : Option ℕ) (walked batch acc beg lst : List ℕ) (k : ℕ) → k < n → get_or ws (link_place k) 0 ≡ head_word (head_of_list lst)
      → AreChained n ws cursor walked batch acc beg lst → AreChained n ws cursor walked batch (acc ++ k ∷ []) beg (k ∷ lst)
  chained_push cursor walked batch acc beg lst k lt spelled a = record {
    remaining = a.remaining;
    list_chain = (refl, lt, rw spelled a.list_chain);
    walk_chain = a.walk_chain;
    order =
        ap (λ l. l ++ k ∷ []) a.order ∙ append_assoc (beg ++ (batch ++ reverse_aux a.remaining walked)) (reverse lst) (k ∷ [])
        ∙ ap (λ l. (beg ++ (batch ++ reverse_aux a.remaining walked)) ++ l) (sym (reverse_onto lst k []));
    none_walked = a.none_walked;
  }

  pub chained_take : (walked batch acc beg lst : List ℕ) (w : ℕ) → w ≡ head_word (head_of_list lst)
      → AreChained n ws None walked batch acc beg lst → AreChained n ws (number_at w) [] batch acc beg []
  chained_take walked batch acc beg lst w is a =
      let none : a.remaining ≡ [] = chain_zero n ws a.remaining a.walk_chain in
      let done : walked ≡ [] = a.none_walked refl in
      let order' = rw (none, done) at a.order in
      record {
        remaining = lst;
        list_chain = refl;
        walk_chain = rw (word_at-number_at w, is) a.list_chain;
        order = order' ∙ simp (append-nil, append_assoc);
        none_walked = λ _. refl;
      }

  pub chained_begin : (walked rest acc beg lst : List ℕ) (k : ℕ)
      → AreChained n ws None walked (k ∷ rest) acc beg lst
      → AreChained n ws None walked rest acc (beg ++ k ∷ []) lst × (slice_get acc (length beg) ≡ Some k) × (times k beg < times k acc)
  chained_begin walked rest acc beg lst k a =
      let tail : List ℕ = (rest ++ reverse_aux a.remaining walked) ++ reverse lst in
      let o : acc ≡ beg ++ k ∷ ((rest ++ reverse_aux a.remaining walked) ++ reverse lst) =
      a.order ∙ append_assoc beg (k ∷ (rest ++ reverse_aux a.remaining walked)) (reverse lst) in
      let more : times k beg < times k acc = omega (arith, ap (times k) o, times-append k beg (k ∷ tail), times-first k tail) in (
        record {
          remaining = a.remaining;
          list_chain = a.list_chain;
          walk_chain = a.walk_chain;
          order = o ∙ simp append_assoc;
          none_walked = a.none_walked;
        },
        rw o (slice_get_last beg k ((rest ++ reverse_aux a.remaining walked) ++ reverse lst)),
        more,
      )

  -- the number at the cursor is one of the queue's
  pub cursor_number : (j : ℕ) (walked batch acc beg lst : List ℕ) → AreChained n ws (Some j) walked batch acc beg lst → j < n
  cursor_number j walked batch acc beg lst a = go a.remaining a.walk_chain
    where
      go : (remaining : List ℕ) → IsChain n ws (j + 1) remaining → j < n
      go [] c = absurd (omega (arith, c))
      go (i ∷ rest) c = omega (arith, c.0, c.1)

  pub chained_walk_on : (j : ℕ) (walked batch acc beg lst : List ℕ) → get_or ws (link_place j) 0 ≢ 0
      → AreChained n ws (Some j) walked batch acc beg lst → AreChained n ws (number_at (get_or ws (link_place j) 0)) (j ∷ walked) batch acc beg lst
  chained_walk_on j walked batch acc beg lst more a = go a.remaining a.walk_chain a.order
    where
      go : (remaining : List ℕ) → IsChain n ws (j + 1) remaining → acc ≡ beg ++ (batch ++ reverse_aux remaining walked) ++ reverse lst
          → AreChained n ws (number_at (get_or ws (link_place j) 0)) (j ∷ walked) batch acc beg lst
      go [] c o = absurd (omega (arith, c))
      go (i ∷ rest) c o =
          let i≡j : i ≡ j = omega (arith, c.0) in
          record {
            remaining = rest;
            list_chain = a.list_chain;
            walk_chain = rw (word_at-number_at (get_or ws (link_place j) 0)) (rw i≡j at c.2);
            order = rw i≡j at o;
            none_walked = λ e. absurd (number_at-some (get_or ws (link_place j) 0) more e);
          }

  pub chained_walk_end : (j : ℕ) (walked batch acc beg lst : List ℕ) → get_or ws (link_place j) 0 ≡ 0
      → AreChained n ws (Some j) walked batch acc beg lst → AreChained n ws None [] (batch ++ j ∷ walked) acc beg lst
  chained_walk_end j walked batch acc beg lst is a = go a.remaining a.walk_chain a.order
    where
      go : (remaining : List ℕ) → IsChain n ws (j + 1) remaining → acc ≡ beg ++ (batch ++ reverse_aux remaining walked) ++ reverse lst
          → AreChained n ws None [] (batch ++ j ∷ walked) acc beg lst
      go [] c o = absurd (omega (arith, c))
      go (i ∷ rest) c o =
          let i≡j : i ≡ j = omega (arith, c.0) in
          let c' = rw (i≡j, is) at c.2 in
          let none : rest ≡ [] = chain_zero n ws rest c' in
          record {
            remaining = [];
            list_chain = a.list_chain;
            walk_chain = refl;
            order = rw (none, i≡j) at o ∙ simp append-nil;
            none_walked = λ _. refl;
          }

  pub chained_chain : (batch acc beg : List ℕ) (k : ℕ)
      → AreChained n ws None [] batch acc beg [] → AreChained n ws None [] (batch ++ k ∷ []) (acc ++ k ∷ []) beg []
  chained_chain batch acc beg k a =
      let none : a.remaining ≡ [] = chain_zero n ws a.remaining a.walk_chain in
      record {
        remaining = [];
        list_chain = refl;
        walk_chain = refl;
        order = ap (λ l. l ++ k ∷ []) (rw none at a.order) ∙ simp (append-nil, append_assoc);
        none_walked = a.none_walked;
      }
