-- The senders of a new queue whose items bring values, without the last.
use Rattle.wq_calls.proofs.Common.{◌≡◌, ℕ, ◌+◌, List, [], ◌∷◌, ◌++◌, length, sym, ap, ◌∙◌, length-append, Layout, new_senders, KnownWith, knowing_nothing}
use Rattle.wq_calls.specs.Known.{QueueId, new_sender}
use Rattle.std.proofs.Common.{map}
use Rattle.std.proofs.lemmas.List.{length-map}
use Rattle.std.proofs.lemmas.List.{same_from_push}
use Rattle.wq_calls.proofs.Built.{values-more}
use Rattle.wq_calls.proofs.Seated.{length-new_senders}

-- the last of the senders whose items bring values is taken away
pub values_less : {V : Type 0} (q : QueueId) (l : Layout) (m : ℕ) (xs ys : List (KnownWith V)) (b : KnownWith V)
    → xs ≡ map knowing_nothing (new_senders q l m) → xs ≡ ys ++ b ∷ []
    → (ys ≡ map knowing_nothing (new_senders q l (length ys))) × (b ≡ knowing_nothing (new_sender q l (length ys)))
values_less {V} q l m xs ys b made one =
    let row = λ (n : ℕ). map (knowing_nothing {V = V}) (new_senders q l n) in
    let count : m ≡ length ys + 1 =
    sym (length-new_senders q l m) ∙ (sym (length-map (new_senders q l m) (knowing_nothing {V = V})) ∙
    (ap length (sym made ∙ one) ∙ length-append ys (b ∷ []))) in
    same_from_push ys (row (length ys)) b (knowing_nothing (new_sender q l (length ys)))
    (sym one ∙ (made ∙ (ap row count ∙ sym (values-more V q l (length ys)))))
