-- A number that the list or the owner keeps stands once among the accepted and not begun numbers.
use Rattle.wq_words.proofs.Common.{◌≡◌, ℕ, ◌+◌, ◌<◌, ◌≤◌, ◌==◌, ◌↔◌, Bool, true, false, cond, if◌then◌else◌, List, [], ◌∷◌, ◌++◌, length, take, Some, None}
use Rattle.wq_words.proofs.Common.{slice_get, refl, sym, ap, ◌∙◌, arith, inl, inr, count_by, take-take, take_at, length_push, append-nil, count_by_more_yes}
use Rattle.wq_words.proofs.Common.{sum_by-take-le, slice_get_within, get_or_from_slice_get, eqb-true, eq-eqb, cases_lt, IsPrefix, Layout, Event}
use Rattle.wq_words.proofs.Common.{Hold, Busy, Push, Back, Take, Close, Begin, Chain, accepted_by, accepted, begun_by, begun, taken, MayFollow, IsLegal, Keeper}
use Rattle.wq_words.proofs.Common.{Home, Sender, Listed, Owner, Keeps, taken_over, keeper_after, keeper, Drain, Resume, shut}
use Rattle.wq_words.proofs.Growing.{filter_map_push_some, filter_map_push_none, slice_get_append, slice_get_last}
use Rattle.wq_words.proofs.Legal.{legal_induction}
use Rattle.wq_words.proofs.Prefixes.{prefix_length}
use Rattle.wq_words.proofs.Order.{RunsInOrder, in_order}
use Rattle.wq_words.proofs.Keepers.{IsQueue, held_bit, queue_bit, home_from_bit, sender_from_bit, queue_from_bit, kept, keeper_push}
use Rattle.wq_words.proofs.Listed.{IsListed, CutsNothing, quiet, is_listed, length-accepted, accepted_push_none, taken_push_same, taken_push_push, taken_cut}
use Rattle.wq_words.proofs.Listed.{taken_shut}
use Rattle.wq_words.proofs.Closed.{shut_quiet, shut_close, shut_from_IsShut, shut_from_open}

-- with b begun and t taken of these accepted numbers, k stands where x keeps it
abbrev pub StandsFor : ℕ → ℕ → List ℕ → ℕ → Keeper → Type 0
StandsFor b t acs k Home = Unit {0}
StandsFor b t acs k (Sender s) = Unit {0}
StandsFor b t acs k Listed = (place : ℕ) × (b ≤ place) × (t ≤ place) × (slice_get acs place ≡ Some k)
StandsFor b t acs k Owner = (place : ℕ) × (b ≤ place) × (place < t) × (slice_get acs place ≡ Some k)

stands_at : {b b' t t' : ℕ} {acs acs' : List ℕ} {x x' : Keeper} (k : ℕ) → b' ≡ b → t' ≡ t → acs' ≡ acs → x' ≡ x → StandsFor b t acs k x
    → StandsFor b' t' acs' k x'
stands_at k e f g i s = rw (e, f, g, i) s

held : (b t : ℕ) (acs : List ℕ) (k s : ℕ) (q : Bool) (x : Keeper) → StandsFor b t acs k x → StandsFor b t acs k (if q then Sender s else x)
held b t acs k s true x o = tt
held b t acs k s false x o = o

returned : (b t : ℕ) (acs : List ℕ) (k : ℕ) (q : Bool) (x : Keeper) → StandsFor b t acs k x → StandsFor b t acs k (if q then Home else x)
returned b t acs k true x o = tt
returned b t acs k false x o = o

-- more accepted numbers behind, and more of them taken that stand in front of the list
longer : (b t j : ℕ) (acs : List ℕ) (k : ℕ) (x : Keeper) → StandsFor b t acs k x → StandsFor b t (acs ++ j ∷ []) k x
longer b t j acs k Home o = tt
longer b t j acs k (Sender s) o = tt
longer b t j acs k Listed o = (o.0, o.1, o.2, slice_get_append acs (j ∷ []) o.0 k o.3)
longer b t j acs k Owner o = (o.0, o.1, o.2, slice_get_append acs (j ∷ []) o.0 k o.3)

pushed : (b t j : ℕ) (acs : List ℕ) (k : ℕ) (q : Bool) (x : Keeper) → b ≤ length acs → t ≤ length acs → (q ≡ true → j ≡ k)
    → StandsFor b t acs k x → StandsFor b t (acs ++ j ∷ []) k (if q then Listed else x)
pushed b t j acs k true x ble tle same o = (length acs, ble, tle, slice_get_last acs j [] ∙ ap Some (same refl))
pushed b t j acs k false x ble tle same o = longer b t j acs k x o

took : (b t : ℕ) (acs : List ℕ) (k : ℕ) (x : Keeper) → t ≤ length acs → StandsFor b t acs k x → StandsFor b (length acs) acs k (taken_over x)
took b t acs k Home tle o = tt
took b t acs k (Sender s) tle o = tt
took b t acs k Listed tle o = (o.0, o.1, slice_get_within acs o.0 k o.3, o.3)
took b t acs k Owner tle o = (o.0, o.1, omega (arith, o.2), o.3)

began : (b t j : ℕ) (acs : List ℕ) (k : ℕ) (q : Bool) (x : Keeper) → slice_get acs b ≡ Some j → (q ≡ false → ¬ (j ≡ k))
    → StandsFor b t acs k x → StandsFor (b + 1) t acs k (if q then Home else x)
began b t j acs k true x at other o = tt
began b t j acs k false Home at other o = tt
began b t j acs k false (Sender s) at other o = tt
began b t j acs k false Listed at other o =
    elim (cases_lt b o.0) [
      | inl lt ↦ (o.0, omega arith, o.2, o.3)
      | inr ge ↦ let e : o.0 ≡ b = omega (arith, o.1) in absurd (other refl (cc (e, at, o.3)))
    ]
began b t j acs k false Owner at other o =
    elim (cases_lt b o.0) [
      | inl lt ↦ (o.0, omega arith, o.2, o.3)
      | inr ge ↦ let e : o.0 ≡ b = omega (arith, o.1) in absurd (other refl (cc (e, at, o.3)))
    ]

chained : (b j : ℕ) (acs : List ℕ) (k : ℕ) (q : Bool) (x : Keeper) → b ≤ length acs → (q ≡ true → j ≡ k)
    → StandsFor b (length acs) acs k x → StandsFor b (length acs + 1) (acs ++ j ∷ []) k (if q then Owner else x)
chained b j acs k true x ble same o = (length acs, ble, omega arith, slice_get_last acs j [] ∙ ap Some (same refl))
chained b j acs k false Home ble same o = tt
chained b j acs k false (Sender s) ble same o = tt
chained b j acs k false Listed ble same o = absurd (omega (arith, o.2, slice_get_within acs o.0 k o.3))
chained b j acs k false Owner ble same o = (o.0, o.1, omega (arith, o.2), slice_get_append acs (j ∷ []) o.0 k o.3)

abbrev pub StandsWhereKept : ℕ → List Event → Type 0
StandsWhereKept k h = StandsFor (length (begun h)) (taken h) (accepted h) k (keeper h k)

module _ (k : ℕ) (h : List Event) where
  begun_same : (e : Event) → begun_by e ≡ None → length (begun (h ++ e ∷ [])) ≡ length (begun h)
  begun_same e none = ap length (filter_map_push_none begun_by h e none ∙ append-nil (begun h))

  same_place : (e : Event) → CutsNothing e → accepted_by e ≡ None → begun_by e ≡ None
      → StandsFor (length (begun h)) (taken h) (accepted h) k (keeper_after k (keeper h k) e) → StandsWhereKept k (h ++ e ∷ [])
  same_place e q no_accept no_begin o =
      stands_at k (begun_same e no_begin) (taken_push_same h e q no_accept) (accepted_push_none h e no_accept) (keeper_push h e k) o

  took_place : (e : Event) → accepted_by e ≡ None → begun_by e ≡ None → taken (h ++ e ∷ []) ≡ length (accepted h)
      → StandsFor (length (begun h)) (length (accepted h)) (accepted h) k (keeper_after k (keeper h k) e) → StandsWhereKept k (h ++ e ∷ [])
  took_place e no_accept no_begin all o =
      stands_at k (begun_same e no_begin) all (accepted_push_none h e no_accept) (keeper_push h e k) o

  placed_after : (e : Event) → MayFollow h e → RunsInOrder h → IsListed h → taken h ≤ length (accepted h) → StandsWhereKept k h
      → StandsWhereKept k (h ++ e ∷ [])
  placed_after (Hold s j) may order l le o = same_place (Hold s j) (quiet refl refl refl refl) refl refl (held _ _ _ k s (j == k) _ o)
  placed_after (Busy s j) may order l le o = same_place (Busy s j) (quiet refl refl refl refl) refl refl o
  placed_after (Back s j why) may order l le o = same_place (Back s j why) (quiet refl refl refl refl) refl refl (returned _ _ _ k (j == k) _ o)
  placed_after (Push s j) may order l le o =
      stands_at k (begun_same (Push s j) refl) (taken_push_push h s j (shut_from_open h may.1)) (filter_map_push_some accepted_by h (Push s j) j refl)
      (keeper_push h (Push s j) k)
      (pushed _ _ j _ k (j == k) _ (prefix_length (begun h) (accepted h) order.begun_first) le (eqb-true j k) o)
  placed_after Take may order l le o =
      took_place Take refl refl (taken_cut h Take refl refl) (took _ (taken h) _ k _ le o)
  placed_after Drain may order l le o =
      took_place Drain refl refl (taken_cut h Drain refl refl) (took _ (taken h) _ k _ le o)
  placed_after Resume may order l le o =
      took_place Resume refl refl (taken_cut h Resume refl refl) (rw (taken_shut h (shut_from_IsShut h may.0.0)) at o)
  placed_after Close may order l le o =
      took_place Close refl refl (taken_shut (h ++ Close ∷ []) (shut_close h Close refl) ∙ ap length (accepted_push_none h Close refl))
      (took _ (taken h) _ k _ le o)
  placed_after (Begin j) may order l le o =
      let step : length (begun (h ++ Begin j ∷ [])) ≡ length (begun h) + 1 =
      ap length (filter_map_push_some begun_by h (Begin j) j refl) ∙ length_push (begun h) j in
      stands_at k step (taken_push_same h (Begin j) (quiet refl refl refl refl) refl) (accepted_push_none h (Begin j) refl) (keeper_push h (Begin j) k)
      (began _ _ j _ k (j == k) _ may.1 (λ differs same. absurd (cc (differs, eq-eqb j k same))) o)
  placed_after (Chain j) may order l le o =
      let is : shut h ≡ true = shut_from_IsShut h may.0 in
      let more : accepted (h ++ Chain j ∷ []) ≡ accepted h ++ j ∷ [] = filter_map_push_some accepted_by h (Chain j) j refl in
      let all : taken (h ++ Chain j ∷ []) ≡ length (accepted h) + 1 =
      taken_shut (h ++ Chain j ∷ []) (shut_quiet h (Chain j) refl refl refl ∙ is) ∙ ap length more ∙ length_push (accepted h) j in
      let o' : StandsFor (length (begun h)) (length (accepted h)) (accepted h) k (keeper h k) = rw (taken_shut h is) at o in
      stands_at k (begun_same (Chain j) refl) all more (keeper_push h (Chain j) k)
      (chained _ j _ k (j == k) _ (prefix_length (begun h) (accepted h) order.begun_first) (eqb-true j k) o')
  placed_after _ may order l le o = same_place _ (quiet refl refl refl refl) refl refl o

pub placed : (layout : Layout) (h : List Event) → IsLegal layout h → (k : ℕ) → StandsWhereKept k h
placed layout h legal k =
    legal_induction layout (StandsWhereKept k) tt
    (λ h e before allowed o.
    let some = length-accepted layout h before in
    placed_after k h e allowed.2 (in_order layout h before) (is_listed layout h before) (omega (arith, some)) o) h legal

-- each further place at which k stands counts one more
counted_more : (xs : List ℕ) (i k : ℕ) → slice_get xs i ≡ Some k → count_by (λ j. j == k) (take (i + 1) xs) ≡ count_by (λ j. j == k) (take i xs) + 1
counted_more xs i k at = count_by_more_yes (λ j. j == k) xs i k (slice_get_within xs i k at) (eq-eqb _ k (get_or_from_slice_get xs i k k at))

counted_upto : (p : ℕ → Bool) (xs : List ℕ) (m n : ℕ) → m ≤ n → count_by p (take m xs) ≤ count_by p (take n xs)
counted_upto p xs m n le = omega (arith, sum_by-take-le (λ x. cond (p x) 1 0) (take n xs) m, ap (count_by p) (take-take m n xs le))

module _ (bs acs : List ℕ) (k : ℕ) where
  count_begun : IsPrefix bs acs → count_by (λ j. j == k) bs ≡ count_by (λ j. j == k) (take (length bs) acs)
  count_begun front = ap (count_by (λ j. j == k)) (sym (ap (take (length bs)) (sym front.1) ∙ take_at bs front.0 (length bs) refl))

  count_all : (i : ℕ) → count_by (λ j. j == k) (take i acs) ≤ count_by (λ j. j == k) acs
  count_all i = sum_by-take-le (λ x. cond (x == k) 1 0) acs i

  pub counted_once : (i : ℕ) → IsPrefix bs acs → length bs ≤ i → slice_get acs i ≡ Some k → count_by (λ j. j == k) bs + 1 ≤ count_by (λ j. j == k) acs
  counted_once i front le at =
      omega (arith, count_begun front, counted_upto (λ j. j == k) acs (length bs) i le, counted_more acs i k at, count_all (i + 1))

  pub counted_twice : (i l : ℕ) → IsPrefix bs acs → length bs ≤ i → i < l → slice_get acs i ≡ Some k → slice_get acs l ≡ Some k
      → count_by (λ j. j == k) bs + 2 ≤ count_by (λ j. j == k) acs
  counted_twice i l front le lt at there =
      omega (
        arith,
        count_begun front,
        counted_upto (λ j. j == k) acs (length bs) i le,
        counted_more acs i k at,
        counted_upto (λ j. j == k) acs (i + 1) l (omega arith),
        counted_more acs l k there,
        count_all (l + 1),
      )

-- the keeper that the events give, one by one, is who keeps the number by the counts
module _ (layout : Layout) (h : List Event) (legal : IsLegal layout h) (k : ℕ) where
  kept_once : {x : Keeper} → keeper h k ≡ x → count_by (λ j. j == k) (accepted h) ≡ count_by (λ j. j == k) (begun h) + queue_bit x
  kept_once e = rw e at ((kept layout h legal 0 k).2)

  stands : {x : Keeper} → keeper h k ≡ x → StandsFor (length (begun h)) (taken h) (accepted h) k x
  stands e = rw e at (placed layout h legal k)

  front : IsPrefix (begun h) (accepted h)
  front = (in_order layout h legal).begun_first

  -- what waits is kept by the list or the owner
  pub waiting_queue : (i : ℕ) → length (begun h) ≤ i → slice_get (accepted h) i ≡ Some k → IsQueue (keeper h k)
  waiting_queue i le at = queue_from_bit (keeper h k) (omega (arith, kept_once refl, counted_once (begun h) (accepted h) k i front le at))

  not_twice : (x : Keeper) (i l : ℕ) → keeper h k ≡ x → queue_bit x ≡ 1 → length (begun h) ≤ i → i < l → slice_get (accepted h) i ≡ Some k
      → slice_get (accepted h) l ≡ Some k → ⊥
  not_twice x i l e one le lt at there = absurd (omega (arith, kept_once e, counted_twice (begun h) (accepted h) k i l front le lt at there))

  is_list : (x : Keeper) → keeper h k ≡ x → IsQueue x → Keeps h k Listed → x ≡ Listed
  is_list Home e is w = absurd is
  is_list (Sender s) e is w = absurd is
  is_list Listed e is w = refl
  is_list Owner e is w = let o = stands e in absurd (not_twice Owner o.0 w.0 e refl o.1 (omega (arith, o.2, w.2)) o.3 w.3)

  is_owner : (x : Keeper) → keeper h k ≡ x → IsQueue x → Keeps h k Owner → x ≡ Owner
  is_owner Home e is w = absurd is
  is_owner (Sender s) e is w = absurd is
  is_owner Listed e is w = let o = stands e in absurd (not_twice Listed w.0 o.0 e refl w.1 (omega (arith, o.2, w.2)) w.3 o.3)
  is_owner Owner e is w = refl

  pub keeper_from_keeps : (x : Keeper) → Keeps h k x → keeper h k ≡ x
  keeper_from_keeps Home w = home_from_bit (keeper h k) (omega (arith, (kept layout h legal 0 k).1, w))
  keeper_from_keeps (Sender s) w = sender_from_bit s (keeper h k) (omega (arith, (kept layout h legal s k).0))
  keeper_from_keeps Listed w = is_list (keeper h k) refl (waiting_queue w.0 w.1 w.3) w
  keeper_from_keeps Owner w = is_owner (keeper h k) refl (waiting_queue w.0 w.1 w.3) w

  pub keeps_from_keeper : (x : Keeper) → keeper h k ≡ x → Keeps h k x
  keeps_from_keeper Home e = λ lt. absurd (omega (arith, rw e at ((kept layout h legal 0 k).1)))
  keeps_from_keeper (Sender s) e =
      let own : held_bit s (Sender s) ≡ 1 = rw (eq-eqb s s refl) refl in
      omega (arith, rw e at ((kept layout h legal s k).0))
  keeps_from_keeper Listed e = stands e
  keeps_from_keeper Owner e = stands e

  pub keeps-keeper : (x : Keeper) → Keeps h k x ↔ (keeper h k ≡ x)
  keeps-keeper x = (keeper_from_keeps x, keeps_from_keeper x)
