-- The seats of a new queue.
use Rattle.wq_calls.proofs.Common.{◌≡◌, ℕ, zero, suc, ◌+◌, ◌<◌, List, [], ◌∷◌, ◌++◌, length, refl, sym, ap, ◌∙◌, subst, arith, length-append, All}
use Rattle.wq_calls.proofs.Common.{Layout, Event, Holds, own, Grows, Known, new_senders}
use Rattle.std.proofs.Common.{get_or}
use Rattle.std.proofs.Math.ListN.{get_or-append}
use Rattle.std.proofs.Math.Seq.{get_or-append_seam}
use Rattle.std.proofs.lemmas.List.Elements.{All-append, All-cons, All-nil}
use Rattle.std.proofs.lemmas.List.{same_from_push}
use Rattle.wq_words.proofs.Written.{each_more}
use Rattle.wq_calls.specs.Known.{QueueId, new_sender, AreNumbered}

pub length-new_senders : (q : QueueId) (l : Layout) (n : ℕ) → length (new_senders q l n) ≡ n
length-new_senders q l zero = refl
length-new_senders q l (suc m) = omega (arith, length-append (new_senders q l m) (new_sender q l m ∷ []), length-new_senders q l m)

pub get_or-new_senders : (q : QueueId) (l : Layout) (n i : ℕ) (d : Known) → i < n → get_or (new_senders q l n) i d ≡ new_sender q l i
get_or-new_senders q l zero i d less = absurd (omega arith)
get_or-new_senders q l (suc m) i d less =
    each_more (λ (k : ℕ) (x : Known). x ≡ new_sender q l k) (new_senders q l m) (new_sender q l m)
    (λ k e low. get_or-new_senders q l m k e (omega (arith, low, length-new_senders q l m)))
    (ap (new_sender q l) (sym (length-new_senders q l m))) i d
    (omega (arith, less, length-append (new_senders q l m) (new_sender q l m ∷ []), length-new_senders q l m))

-- what holds of each new sender holds of all
pub all_new : (P : Known → Type 0) (q : QueueId) (l : Layout) (n : ℕ) → ((s : ℕ) → P (new_sender q l s)) → All P (new_senders q l n)
all_new P q l zero each = All-nil P
all_new P q l (suc m) each =
    All-append P (new_senders q l m) (new_sender q l m ∷ []) (all_new P q l m each) (All-cons P (new_sender q l m) [] (each m) (All-nil P))

pub free_new : (s k : ℕ) → ¬ Holds [] s k
free_new s k holds = omega arith

pub numbered_new : (q : QueueId) (l : Layout) (n : ℕ) → AreNumbered (new_senders q l n)
numbered_new q l n k d low = ap (λ (s : Known). s.number) (get_or-new_senders q l n k d (omega (arith, low, length-new_senders q l n)))

-- without the last of a row
pub all_front : {A : Type 0} (P : A → Type 0) (xs : List A) (x : A) → All P (xs ++ x ∷ []) → All P xs
all_front P xs x all k d low = subst P (get_or-append xs (x ∷ []) d k low) (all k d (omega (arith, low, length-append xs (x ∷ []))))

pub all_last : {A : Type 0} (P : A → Type 0) (xs : List A) (x : A) → All P (xs ++ x ∷ []) → P x
all_last P xs x all = subst P (get_or-append_seam xs x [] x) (all (length xs) x (omega (arith, length-append xs (x ∷ []))))

pub numbered_front : (xs : List Known) (x : Known) → AreNumbered (xs ++ x ∷ []) → AreNumbered xs × (x.number ≡ length xs)
numbered_front xs x all = (
  λ k d low. sym (ap (λ (s : Known). s.number) (get_or-append xs (x ∷ []) d k low)) ∙ all k d (omega (arith, low, length-append xs (x ∷ []))),
  sym (ap (λ (s : Known). s.number) (get_or-append_seam xs x [] x)) ∙ all (length xs) x (omega (arith, length-append xs (x ∷ []))),
)

-- what a seat that had seen nothing has made, where it made no event
pub made_nothing : (c n : ℕ) (v w : List Event) → v ≡ [] → Grows c [] n v w → own c w ≡ []
made_nothing c n v w none g = ap (own c) (g.is ∙ ap (λ (x : List Event). x ++ g.new) none) ∙ g.mine

-- the last of the senders is taken away
pub one_less : (q : QueueId) (l : Layout) (m : ℕ) (xs ys : List Known) (b : Known) → xs ≡ new_senders q l m → xs ≡ ys ++ b ∷ []
    → (ys ≡ new_senders q l (length ys)) × (b ≡ new_sender q l (length ys))
one_less q l m xs ys b made one =
    let count : m ≡ suc (length ys) = omega (arith, length-new_senders q l m, ap length (sym made ∙ one), length-append ys (b ∷ [])) in
    same_from_push ys (new_senders q l (length ys)) b (new_sender q l (length ys)) (sym one ∙ (made ∙ ap (new_senders q l) count))

-- the last two of the senders are taken away
pub two_less : (q : QueueId) (l : Layout) (n m : ℕ) (xs ys zs : List Known) (a b : Known) → m ≡ n + 2 → xs ≡ new_senders q l m → xs ≡ ys ++ b ∷ []
    → ys ≡ zs ++ a ∷ []
    → (zs ≡ new_senders q l n) × (a ≡ new_sender q l n) × (b ≡ new_sender q l (n + 1))
two_less q l n m xs ys zs a b count made one two =
    let more : m ≡ suc (n + 1) = omega (arith, count) in
    let more2 : n + 1 ≡ suc n = omega arith in
    let first = same_from_push ys (new_senders q l (n + 1)) b (new_sender q l (n + 1)) (sym one ∙ (made ∙ ap (new_senders q l) more)) in
    let second = same_from_push zs (new_senders q l n) a (new_sender q l n) (sym two ∙ (first.0 ∙ ap (new_senders q l) more2)) in
    (second.0, second.1, first.1)
