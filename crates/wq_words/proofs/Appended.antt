-- What a history says when some events are put behind it.
use Rattle.wq_words.proofs.Common.{◌≡◌, ℕ, ◌+◌, ◌≤◌, Bool, true, false, cond, List, [], ◌∷◌, ◌++◌, length, refl, sym, ap, ◌∙◌, arith}
use Rattle.wq_words.proofs.Common.{count_by, after_last, filter_map-append, sum_by-append, sum_by-cons, Event, Rest, accepted, accepted_by, begun, begun_by}
use Rattle.wq_words.proofs.Common.{ended, ended_by, fresh, is_push, is_chain, is_cut, IsPrefix}
use Rattle.wq_words.proofs.Lasts.{after_last_push_no}

pub count_by-append : {X : Type 0} (p : X → Bool) (xs ys : List X) → count_by p (xs ++ ys) ≡ count_by p xs + count_by p ys
count_by-append p xs ys = sum_by-append (λ x. cond (p x) 1 0) xs ys

pub count_by-cons : {X : Type 0} (p : X → Bool) (x : X) (xs : List X) → count_by p (x ∷ xs) ≡ cond (p x) 1 0 + count_by p xs
count_by-cons p x xs = sum_by-cons (λ y. cond (p y) 1 0) x xs

-- a test counts an event at most once
pub at_most_one : (b : Bool) → cond {A = ℕ} b 1 0 ≤ 1
at_most_one true = omega arith
at_most_one false = omega arith

pub accepted-append : (h es : List Event) → accepted (h ++ es) ≡ accepted h ++ accepted es
accepted-append h es = filter_map-append accepted_by h es

pub prefix_accepted : (v w : List Event) → IsPrefix v w → IsPrefix (accepted v) (accepted w)
prefix_accepted v w front = (accepted front.0, sym (accepted-append v front.0) ∙ ap accepted front.1)

pub begun-append : (h es : List Event) → begun (h ++ es) ≡ begun h ++ begun es
begun-append h es = filter_map-append begun_by h es

pub ended-append : (h es : List Event) → ended (h ++ es) ≡ ended h ++ ended es
ended-append h es = filter_map-append ended_by h es

-- an event that cuts nothing
pub fresh-more : (h : List Event) (e : Event) → is_cut e ≡ false → fresh (h ++ e ∷ []) ≡ fresh h + count_by is_push (e ∷ [])
fresh-more h e stays = rw (after_last_push_no is_cut h e stays) (count_by-append is_push (after_last is_cut h) (e ∷ []))

accepted-cons : (e : Event) (es : List Event) → length (accepted (e ∷ es)) ≡ count_by is_push (e ∷ []) + count_by is_chain (e ∷ []) + length (accepted es)
accepted-cons Rest es = omega arith
accepted-cons _ es = omega arith

-- as many are accepted as were pushed and chained
pub accepted-count : (h : List Event) → length (accepted h) ≡ count_by is_push h + count_by is_chain h
accepted-count [] = refl
accepted-count (e ∷ es) = omega (arith, accepted-cons e es, count_by-append is_push (e ∷ []) es, count_by-append is_chain (e ∷ []) es, accepted-count es)
