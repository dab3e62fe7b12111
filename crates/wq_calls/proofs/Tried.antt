-- Queueings: the seat stays the same, and one that a drain refused.
use Rattle.wq_calls.proofs.Common.{ℕ, [], ◌∷◌, subst, arith, Hold, Back, Known, IsSame, Sees, Answer, HasMetDrain, Answers}
use Rattle.wq_words.specs.declared.event.Why.TheVariants as why
use Rattle.wq_words.specs.declared.answer.Answer.TheVariants as answer
use Rattle.wq_calls.proofs.Sends.{sees_on}
use Rattle.wq_calls.proofs.Drained.{met_between}

-- it is the same seat
pub answers_same : (k tries : ℕ) (a : Answer) (s t : Known) → Answers k tries a s t → IsSame s t
answers_same k tries (answer.Queued first wakes) s t told = told.0.same
answers_same k tries answer.Pending s t told = told.same
answers_same k tries answer.Closed s t told = told.same
answers_same k tries answer.Draining s t told = told.0.same
answers_same k tries answer.Contended s t told = told.same

-- held, refused by a drain, and given back
pub turned_back : (k : ℕ) (s t u w : Known) → Sees (Hold s.number k ∷ []) 0 s t → Sees [] 0 t u × HasMetDrain t.seen u.seen
    → Sees (Back u.number k why.Draining ∷ []) 0 u w → Answers k 0 answer.Draining s w
turned_back k s t u w held met gave =
    let upto : Sees (Hold s.number k ∷ []) 0 s u = sees_on (λ z. Hold z k ∷ []) (λ z. []) 0 0 0 s t u (omega arith) held met.0 in (
      sees_on (λ z. Hold z k ∷ []) (λ z. Back z k why.Draining ∷ []) 0 0 0 s u w (omega arith) upto gave,
      met_between k s t u w held met.0 met.1 (subst (λ (c : ℕ). Sees (Back c k why.Draining ∷ []) 0 u w) upto.same.number_is gave),
    )
