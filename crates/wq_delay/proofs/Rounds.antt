-- Rings after a place was put behind the last of one, and after one was taken out.
use Rattle.wq_delay.proofs.Common.{◌≡◌, ℕ, ◌<◌, ◌≤◌, Bool, true, false, ◌≢◌, ◌==◌, sym, refl, ap, ◌∙◌, subst, arith, eqb-true, nat_tests, AreRings}

-- a number is k or another
pub at_or : (P : ℕ → Type 0) (k x : ℕ) → P k → (x ≢ k → P x) → P x
at_or P k x at other = by (x == k) refl
  where
    by : (b : Bool) → (x == k) ≡ b → P x
    by true is = subst P (sym (eqb-true x k is)) at
    by false is = other (grind (arith, nat_tests))

three : (P : ℕ → Type 0) (k l x : ℕ) → P k → P l → (x ≢ k → x ≢ l → P x) → P x
three P k l x at also other = at_or P k x at (λ nk. at_or P l x also (λ nl. other nk nl))

-- rings that share no place: each place is alone
pub rings_alone : (next previous head number : ℕ → ℕ) (m : ℕ) → ((x : ℕ) → x < m → next x ≡ x) → ((x : ℕ) → x < m → previous x ≡ x)
    → ((x : ℕ) → head x ≡ x) → AreRings next previous head number m
rings_alone next previous head number m n p h = record {
  next_low = λ x low. let e = n x low in omega arith;
  previous_low = λ x low. let e = p x low in omega arith;
  back = λ x low. ap previous (n x low) ∙ p x low;
  forth = λ x low. ap next (p x low) ∙ n x low;
  head_low = λ x low. let e = h x in omega arith;
  one_head = λ x low. h (head x);
  stays = λ x low. ap head (n x low);
  least = λ x low other. absurd (other (h x));
  rises = λ x low other. absurd (other (n x low ∙ sym (h x)));
  nearest = λ x y low also same above. let e : x ≡ y = sym (h x) ∙ (same ∙ h y) in let f = ap number e in absurd (omega arith);
  apart = λ x y low also same equal. sym (h x) ∙ (same ∙ h y);
}

-- where a place is not its own neighbour
pub last_other : (n p h a : ℕ → ℕ) (m k t : ℕ) → AreRings n p h a m → t < m → h t ≡ t → h k ≡ k → k ≢ t → p t ≢ k
last_other n p h a m k t r low is_head k_head other is =
    other (sym k_head ∙ (ap h (sym is) ∙ (sym (r.stays (p t) (r.previous_low t low)) ∙ (ap h (r.forth t low) ∙ is_head))))

pub next_other : (n p h a : ℕ → ℕ) (m k : ℕ) → AreRings n p h a m → k < m → h k ≢ k → n k ≢ k
next_other n p h a m k r low away is = let f = ap a is in let g = r.rises k low (λ s. away (sym s ∙ is)) in omega arith

pub previous_other : (n p h a : ℕ → ℕ) (m k : ℕ) → AreRings n p h a m → k < m → h k ≢ k → p k ≢ k
previous_other n p h a m k r low away is = next_other n p h a m k r low away (ap n (sym is) ∙ r.forth k low)

-- the place k, which was alone, is put behind the last place l of the ring of h
module _ (n p h a : ℕ → ℕ) (m k t l : ℕ) (r : AreRings n p h a m) (k_low : k < m) (t_low : t < m) (other : k ≢ t) (l_is : l ≡ p t)
    (is_head : h t ≡ t) (alone : (x : ℕ) → x < m → h x ≡ k → x ≡ k) (k_head : h k ≡ k)
    (n' p' h' a' : ℕ → ℕ) (n_k : n' k ≡ t) (n_l : n' l ≡ k) (n_o : (x : ℕ) → x ≢ k → x ≢ l → n' x ≡ n x)
    (p_k : p' k ≡ l) (p_t : p' t ≡ k) (p_o : (x : ℕ) → x ≢ k → x ≢ t → p' x ≡ p x)
    (h_k : h' k ≡ t) (h_o : (x : ℕ) → x ≢ k → h' x ≡ h x) (a_o : (x : ℕ) → x ≢ k → a' x ≡ a x)
    (top : (x : ℕ) → x < m → h x ≡ t → a x < a' k) where
  l_low : l < m
  l_low = let q = r.previous_low t t_low in omega arith

  l_next : n l ≡ t
  l_next = ap n l_is ∙ r.forth t t_low

  l_head : h l ≡ t
  l_head = sym (r.stays l l_low) ∙ (ap h l_next ∙ is_head)

  l_other : l ≢ k
  l_other is = other (sym k_head ∙ (ap h (sym is) ∙ l_head))

  k_next : n k ≡ k
  k_next = alone (n k) (r.next_low k k_low) (r.stays k k_low ∙ k_head)

  k_previous : p k ≡ k
  k_previous = ap p (sym k_next) ∙ r.back k k_low

  -- no other place leads to k, and none but l to t
  not_k : (x : ℕ) → x < m → x ≢ k → n x ≢ k
  not_k x low ne is = ne (sym (r.back x low) ∙ (ap p is ∙ k_previous))

  not_t : (x : ℕ) → x < m → x ≢ l → n x ≢ t
  not_t x low ne is = ne (sym (r.back x low) ∙ (ap p is ∙ sym l_is))

  head_not_k : (x : ℕ) → x < m → x ≢ k → h x ≢ k
  head_not_k x low ne is = ne (alone x low is)

  h_t : h' t ≡ t
  h_t = h_o t (λ e. other (sym e)) ∙ is_head

  before_not_k : (x : ℕ) → x < m → x ≢ k → p x ≢ k
  before_not_k x low ne is = ne (sym (r.forth x low) ∙ (ap n is ∙ k_next))

  before_not_l : (x : ℕ) → x < m → x ≢ t → p x ≢ l
  before_not_l x low ne is = ne (sym (r.forth x low) ∙ (ap n is ∙ l_next))

  below_k : (x : ℕ) → x < m → x ≢ k → h' x ≡ h' k → (n' x ≢ h' x) × (a' (n' x) ≤ a' k)
  below_k x low ne same =
      at_or (λ z. z < m → z ≢ k → h' z ≡ h' k → (n' z ≢ h' z) × (a' (n' z) ≤ a' k)) l x
      (λ _ _ _. (λ s. other (sym n_l ∙ (s ∙ (h_o l l_other ∙ l_head))), let e = ap a' n_l in omega arith))
      (λ nl z nk is. let at = sym (h_o x nk) ∙ (is ∙ h_k) in (
        λ s. not_t x z nl (sym (n_o x nk nl) ∙ (s ∙ (h_o x nk ∙ at))),
        let e = ap a' (n_o x nk nl) in let f = a_o (n x) (not_k x z nk) in
            let g = top (n x) (r.next_low x z) (r.stays x z ∙ at) in omega arith,
      )) low ne same

  below_old : (x y : ℕ) → x < m → y < m → x ≢ k → y ≢ k → h' x ≡ h' y → a' x < a' y → (n' x ≢ h' x) × (a' (n' x) ≤ a' y)
  below_old x y low also nx ny same above =
      let f = a_o x nx in let g = a_o y ny in
      let old = r.nearest x y low also (sym (h_o x nx) ∙ (same ∙ h_o y ny)) (omega arith) in
      let nl : x ≢ l = λ is. old.0 (ap n is ∙ (l_next ∙ sym (ap h is ∙ l_head))) in (
        λ s. old.0 (sym (n_o x nx nl) ∙ (s ∙ h_o x nx)),
        let e = ap a' (n_o x nx nl) in let i = a_o (n x) (not_k x low nx) in let o = old.1 in omega arith,
      )

  behind_nearest : (x y : ℕ) → x < m → y < m → h' x ≡ h' y → a' x < a' y → (n' x ≢ h' x) × (a' (n' x) ≤ a' y)
  behind_nearest x y low also same above =
      at_or (λ z. z < m → h' z ≡ h' y → a' z < a' y → (n' z ≢ h' z) × (a' (n' z) ≤ a' y)) k x
      (λ _ s b. at_or (λ w. w < m → h' k ≡ h' w → a' k < a' w → (n' k ≢ h' k) × (a' (n' k) ≤ a' w)) k y
      (λ _ _ c. absurd (omega arith))
      (λ ny w q c. let e = a_o y ny in let f = top y w (sym (h_o y ny) ∙ (sym q ∙ h_k)) in absurd (omega arith)) also s b)
      (λ nx z s b. at_or (λ w. w < m → h' x ≡ h' w → a' x < a' w → (n' x ≢ h' x) × (a' (n' x) ≤ a' w)) k y
      (λ _ q _. below_k x z nx q)
      (λ ny w q c. below_old x y z w nx ny q c) also s b) low same above

  behind_apart : (x y : ℕ) → x < m → y < m → h' x ≡ h' y → a' x ≡ a' y → x ≡ y
  behind_apart x y low also same equal =
      at_or (λ z. z < m → h' z ≡ h' y → a' z ≡ a' y → z ≡ y) k x
      (λ _ s b. at_or (λ w. w < m → h' k ≡ h' w → a' k ≡ a' w → k ≡ w) k y
      (λ _ _ _. refl)
      (λ ny w q c. let e = a_o y ny in let f = top y w (sym (h_o y ny) ∙ (sym q ∙ h_k)) in absurd (omega arith)) also s b)
      (λ nx z s b. at_or (λ w. w < m → h' x ≡ h' w → a' x ≡ a' w → x ≡ w) k y
      (λ _ q c. let e = a_o x nx in let f = top x z (sym (h_o x nx) ∙ (q ∙ h_k)) in absurd (omega arith))
      (λ ny w q c. r.apart x y z w (sym (h_o x nx) ∙ (q ∙ h_o y ny)) (sym (a_o x nx) ∙ (c ∙ a_o y ny))) also s b) low same equal

  pub rings_behind : AreRings n' p' h' a' m
  rings_behind = record {
    next_low = λ x low. three (λ z. z < m → n' z < m) k l x (λ _. let e = n_k in omega arith) (λ _. let e = n_l in omega arith)
        (λ nk nl z. let e = n_o x nk nl in let f = r.next_low x z in omega arith) low;
    previous_low = λ x low. three (λ z. z < m → p' z < m) k t x (λ _. let e = p_k in let f = l_low in omega arith) (λ _. let e = p_t in omega arith)
        (λ nk nt z. let e = p_o x nk nt in let f = r.previous_low x z in omega arith) low;
    back = λ x low. three (λ z. z < m → p' (n' z) ≡ z) k l x (λ _. ap p' n_k ∙ p_t) (λ _. ap p' n_l ∙ p_k)
        (λ nk nl z. ap p' (n_o x nk nl) ∙ (p_o (n x) (not_k x z nk) (not_t x z nl) ∙ r.back x z)) low;
    forth = λ x low. three (λ z. z < m → n' (p' z) ≡ z) k t x (λ _. ap n' p_k ∙ n_l) (λ _. ap n' p_t ∙ n_k)
        (λ nk nt z. ap n' (p_o x nk nt) ∙ (n_o (p x) (before_not_k x z nk) (before_not_l x z nt) ∙ r.forth x z)) low;
    head_low = λ x low. at_or (λ z. z < m → h' z < m) k x (λ _. let e = h_k in omega arith)
        (λ nk z. let e = h_o x nk in let f = r.head_low x z in omega arith) low;
    one_head = λ x low. at_or (λ z. z < m → h' (h' z) ≡ h' z) k x (λ _. ap h' h_k ∙ (h_t ∙ sym h_k))
        (λ nk z. ap h' (h_o x nk) ∙ (h_o (h x) (head_not_k x z nk) ∙ (r.one_head x z ∙ sym (h_o x nk)))) low;
    stays = λ x low. three (λ z. z < m → h' (n' z) ≡ h' z) k l x (λ _. ap h' n_k ∙ (h_t ∙ sym h_k))
        (λ _. ap h' n_l ∙ (h_k ∙ sym (h_o l l_other ∙ l_head)))
        (λ nk nl z. ap h' (n_o x nk nl) ∙ (h_o (n x) (not_k x z nk) ∙ (r.stays x z ∙ sym (h_o x nk)))) low;
    least = λ x low. at_or (λ z. z < m → h' z ≢ z → a' (h' z) < a' z) k x
        (λ _ d. let e = ap a' h_k in let f = a_o t (λ s. other (sym s)) in let g = top t t_low is_head in omega arith)
        (λ nk z d. let e = ap a' (h_o x nk) in let f = a_o (h x) (head_not_k x z nk) in let g = a_o x nk in
        let i = r.least x z (λ s. d (h_o x nk ∙ s)) in omega arith) low;
    rises = λ x low. three (λ z. z < m → n' z ≢ h' z → a' z < a' (n' z)) k l x (λ _ d. absurd (d (n_k ∙ sym h_k)))
        (λ _ d. let e = ap a' n_l in let f = a_o l l_other in let g = top l l_low l_head in omega arith)
        (λ nk nl z d. let e = ap a' (n_o x nk nl) in let f = a_o (n x) (not_k x z nk) in let g = a_o x nk in
        let i = r.rises x z (λ s. d (n_o x nk nl ∙ (s ∙ sym (h_o x nk)))) in omega arith) low;
    nearest = behind_nearest;
    apart = behind_apart;
  }

-- the place k, which is no head, is taken out from between u and v, and is alone
module _ (n p h a : ℕ → ℕ) (m k u v : ℕ) (r : AreRings n p h a m) (k_low : k < m) (no_head : h k ≢ k) (u_is : u ≡ p k) (v_is : v ≡ n k)
    (n' p' h' a' : ℕ → ℕ) (n_k : n' k ≡ k) (n_u : n' u ≡ v) (n_o : (x : ℕ) → x ≢ k → x ≢ u → n' x ≡ n x)
    (p_k : p' k ≡ k) (p_v : p' v ≡ u) (p_o : (x : ℕ) → x ≢ k → x ≢ v → p' x ≡ p x)
    (h_k : h' k ≡ k) (h_o : (x : ℕ) → x ≢ k → h' x ≡ h x) (a_o : (x : ℕ) → x ≢ k → a' x ≡ a x) where
  u_low : u < m
  u_low = let q = r.previous_low k k_low in omega arith

  v_low : v < m
  v_low = let q = r.next_low k k_low in omega arith

  u_next : n u ≡ k
  u_next = ap n u_is ∙ r.forth k k_low

  v_previous : p v ≡ k
  v_previous = ap p v_is ∙ r.back k k_low

  v_other : v ≢ k
  v_other is = let e : n k ≡ k = sym v_is ∙ is in let f = ap a e in let g = r.rises k k_low (λ s. no_head (sym s ∙ e)) in omega arith

  u_other : u ≢ k
  u_other is = v_other (v_is ∙ (ap n (sym is) ∙ u_next))

  u_head : h u ≡ h k
  u_head = sym (r.stays u u_low) ∙ ap h u_next

  v_head : h v ≡ h k
  v_head = ap h v_is ∙ r.stays k k_low

  heads : (x : ℕ) → x < m → h x ≢ k
  heads x low is = no_head (sym (ap h is) ∙ (r.one_head x low ∙ is))

  next_not_k : (x : ℕ) → x < m → x ≢ u → n x ≢ k
  next_not_k x low ne is = ne (sym (r.back x low) ∙ (ap p is ∙ sym u_is))

  next_not_v : (x : ℕ) → x < m → x ≢ k → n x ≢ v
  next_not_v x low ne is = ne (sym (r.back x low) ∙ (ap p is ∙ v_previous))

  previous_not_k : (x : ℕ) → x < m → x ≢ v → p x ≢ k
  previous_not_k x low ne is = ne (sym (r.forth x low) ∙ (ap n is ∙ sym v_is))

  previous_not_u : (x : ℕ) → x < m → x ≢ k → p x ≢ u
  previous_not_u x low ne is = ne (sym (r.forth x low) ∙ (ap n is ∙ u_next))

  u_rises : a u < a k
  u_rises = let e = ap a u_next in let f = r.rises u u_low (λ s. heads u u_low (sym s ∙ u_next)) in omega arith

  v_rises : v ≢ h k → a k < a v
  v_rises ne = let e = ap a v_is in let f = r.rises k k_low (λ s. ne (v_is ∙ s)) in omega arith

  out_old : (x y : ℕ) → x < m → y < m → x ≢ k → y ≢ k → h x ≡ h y → a x < a y → (n' x ≢ h x) × (a' (n' x) ≤ a y)
  out_old x y low also nx ny same above =
      at_or (λ z. z < m → z ≢ k → h z ≡ h y → a z < a y → (n' z ≢ h z) × (a' (n' z) ≤ a y)) u x
      (λ z nk s b. let old = r.nearest u y z also s b in let e = ap a u_next in let o = old.1 in
      let ne : a k ≢ a y = λ d. ny (sym (r.apart k y k_low also (sym u_head ∙ s) d)) in
      let far = r.nearest k y k_low also (sym u_head ∙ s) (omega arith) in (
        λ q. far.0 (sym v_is ∙ (sym n_u ∙ (q ∙ u_head))),
        let f = ap a' n_u in let g = a_o v v_other in let i = ap a v_is in let w = far.1 in omega arith,
      ))
      (λ nu z nk s b. let old = r.nearest x y z also s b in (
        λ q. old.0 (sym (n_o x nk nu) ∙ q),
        let e = ap a' (n_o x nk nu) in let f = a_o (n x) (next_not_k x z nu) in let o = old.1 in omega arith,
      )) low nx same above

  out_nearest : (x y : ℕ) → x < m → y < m → h' x ≡ h' y → a' x < a' y → (n' x ≢ h' x) × (a' (n' x) ≤ a' y)
  out_nearest x y low also same above =
      at_or (λ z. z < m → h' z ≡ h' y → a' z < a' y → (n' z ≢ h' z) × (a' (n' z) ≤ a' y)) k x
      (λ _ s b. at_or (λ w. w < m → h' k ≡ h' w → a' k < a' w → (n' k ≢ h' k) × (a' (n' k) ≤ a' w)) k y
      (λ _ _ c. absurd (omega arith))
      (λ ny w q c. absurd (heads y w (sym (h_o y ny) ∙ (sym q ∙ h_k)))) also s b)
      (λ nx z s b. at_or (λ w. w < m → h' x ≡ h' w → a' x < a' w → (n' x ≢ h' x) × (a' (n' x) ≤ a' w)) k y
      (λ _ q _. absurd (heads x z (sym (h_o x nx) ∙ (q ∙ h_k))))
      (λ ny w q c. let e = a_o x nx in let f = a_o y ny in
      let old = out_old x y z w nx ny (sym (h_o x nx) ∙ (q ∙ h_o y ny)) (omega arith) in
      (λ o. old.0 (o ∙ h_o x nx), let o = old.1 in omega arith)) also s b) low same above

  out_apart : (x y : ℕ) → x < m → y < m → h' x ≡ h' y → a' x ≡ a' y → x ≡ y
  out_apart x y low also same equal =
      at_or (λ z. z < m → h' z ≡ h' y → a' z ≡ a' y → z ≡ y) k x
      (λ _ s b. at_or (λ w. w < m → h' k ≡ h' w → a' k ≡ a' w → k ≡ w) k y
      (λ _ _ _. refl)
      (λ ny w q c. absurd (heads y w (sym (h_o y ny) ∙ (sym q ∙ h_k)))) also s b)
      (λ nx z s b. at_or (λ w. w < m → h' x ≡ h' w → a' x ≡ a' w → x ≡ w) k y
      (λ _ q c. absurd (heads x z (sym (h_o x nx) ∙ (q ∙ h_k))))
      (λ ny w q c. r.apart x y z w (sym (h_o x nx) ∙ (q ∙ h_o y ny)) (sym (a_o x nx) ∙ (c ∙ a_o y ny))) also s b) low same equal

  pub rings_without : AreRings n' p' h' a' m
  rings_without = record {
    next_low = λ x low. three (λ z. z < m → n' z < m) k u x (λ _. let e = n_k in omega arith) (λ _. let e = n_u in let f = v_low in omega arith)
        (λ nk nu z. let e = n_o x nk nu in let f = r.next_low x z in omega arith) low;
    previous_low = λ x low. three (λ z. z < m → p' z < m) k v x (λ _. let e = p_k in omega arith) (λ _. let e = p_v in let f = u_low in omega arith)
        (λ nk nv z. let e = p_o x nk nv in let f = r.previous_low x z in omega arith) low;
    back = λ x low. three (λ z. z < m → p' (n' z) ≡ z) k u x (λ _. ap p' n_k ∙ p_k) (λ _. ap p' n_u ∙ p_v)
        (λ nk nu z. ap p' (n_o x nk nu) ∙ (p_o (n x) (next_not_k x z nu) (next_not_v x z nk) ∙ r.back x z)) low;
    forth = λ x low. three (λ z. z < m → n' (p' z) ≡ z) k v x (λ _. ap n' p_k ∙ n_k) (λ _. ap n' p_v ∙ n_u)
        (λ nk nv z. ap n' (p_o x nk nv) ∙ (n_o (p x) (previous_not_k x z nv) (previous_not_u x z nk) ∙ r.forth x z)) low;
    head_low = λ x low. at_or (λ z. z < m → h' z < m) k x (λ _. let e = h_k in omega arith)
        (λ nk z. let e = h_o x nk in let f = r.head_low x z in omega arith) low;
    one_head = λ x low. at_or (λ z. z < m → h' (h' z) ≡ h' z) k x (λ _. ap h' h_k)
        (λ nk z. ap h' (h_o x nk) ∙ (h_o (h x) (heads x z) ∙ (r.one_head x z ∙ sym (h_o x nk)))) low;
    stays = λ x low. three (λ z. z < m → h' (n' z) ≡ h' z) k u x (λ _. ap h' n_k)
        (λ _. ap h' n_u ∙ (h_o v v_other ∙ (v_head ∙ (sym u_head ∙ sym (h_o u u_other)))))
        (λ nk nu z. ap h' (n_o x nk nu) ∙ (h_o (n x) (next_not_k x z nu) ∙ (r.stays x z ∙ sym (h_o x nk)))) low;
    least = λ x low. at_or (λ z. z < m → h' z ≢ z → a' (h' z) < a' z) k x (λ _ d. absurd (d h_k))
        (λ nk z d. let e = ap a' (h_o x nk) in let f = a_o (h x) (heads x z) in let g = a_o x nk in
        let i = r.least x z (λ s. d (h_o x nk ∙ s)) in omega arith) low;
    rises = λ x low. three (λ z. z < m → n' z ≢ h' z → a' z < a' (n' z)) k u x (λ _ d. absurd (d (n_k ∙ sym h_k)))
        (λ _ d. let e = ap a' n_u in let f = a_o v v_other in let g = a_o u u_other in let i = u_rises in
        let o = v_rises (λ s. d (n_u ∙ (s ∙ (sym u_head ∙ sym (h_o u u_other))))) in omega arith)
        (λ nk nu z d. let e = ap a' (n_o x nk nu) in let f = a_o (n x) (next_not_k x z nu) in let g = a_o x nk in
        let i = r.rises x z (λ s. d (n_o x nk nu ∙ (s ∙ sym (h_o x nk)))) in omega arith) low;
    nearest = out_nearest;
    apart = out_apart;
  }
