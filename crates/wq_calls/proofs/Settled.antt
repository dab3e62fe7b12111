-- What a queueing comes to: held, tried, and settled.
use Rattle.wq_calls.proofs.Common.{◌≡◌, ℕ, ◌+◌, ◌≤◌, true, [], ◌∷◌, refl, sym, ap, ◌∙◌, subst, arith, Hold, Push, Back, Posted, Answer, Holds, Grows}
use Rattle.wq_calls.proofs.Common.{Known, IsSame, Sees, IsPushed, HasMetDrain, TestsAndSets, Posts, Answers, IsContended, sender_view, Sends, Settles}
use Rattle.wq_words.specs.declared.event.Why.TheVariants as why
use Rattle.wq_words.specs.declared.answer.Posted.TheVariants as posted
use Rattle.wq_words.specs.declared.answer.Answer.TheVariants as answer
use Rattle.wq_calls.specs.Sits.{Sending as Inside}
use Rattle.wq_calls.specs.Tells.{PostsAs}
use Rattle.wq_calls.specs.Tries.{Tries, IsHeldAfter}
use Rattle.wq_calls.proofs.Sends.{sees_tells, sees_after, sees_on, sees_held}
use Rattle.wq_calls.proofs.Drained.{grows_longer, met_since}
use Rattle.wq_calls.proofs.Tried.{turned_back}
use Rattle.wq_calls.proofs.Contended.{contended_calls}

-- what a try of the chair tells its sender
pub tries_told : (s t : Inside) (now : Known) (k : ℕ) (a : Posted) → sender_view s ≡ now → Sends s → t.layout ≡ s.layout → t.number ≡ s.number
    → t.chair.queue ≡ s.chair.queue → PostsAs k a s.chair.part t.chair.part → Tries k 1 a now (sender_view t)
tries_told s t now k (posted.Queued first wakes) view sends layout number queue told = (
  sees_tells s t now (λ z. Push z k ∷ []) 0 view sends layout number queue told.0,
  subst (λ (c : ℕ). IsPushed c k first wakes t.chair.part.seen) (sends.number_is ∙ ap (λ (v : Known). v.number) view) told.1,
)
tries_told s t now k posted.Closed view sends layout number queue told = sees_tells s t now (λ z. []) 0 view sends layout number queue told
tries_told s t now k posted.Draining view sends layout number queue told = (
  sees_tells s t now (λ z. []) 0 view sends layout number queue told.0,
  subst (λ (v : Known). HasMetDrain v.seen t.chair.part.seen) view told.1,
)
tries_told s t now k posted.Contended view sends layout number queue told = sees_tells s t now (λ z. []) 1 view sends layout number queue told

-- tries in vain, and one more
pub tries_after : (k n tries : ℕ) (a : Posted) (s l t : Known) → IsSame s l → Grows s.number [] n s.seen l.seen → (a ≡ posted.Contended → tries ≤ n + 1)
    → Tries k 1 a l t → Tries k tries a s t
tries_after k n tries (posted.Queued first wakes) s l t same grows less told = (
  sees_after (λ z. []) (λ z. Push z k ∷ []) n 0 0 s l t (omega arith) same grows told.0,
  subst (λ (m : ℕ). IsPushed m k first wakes t.seen) same.number_is told.1,
)
tries_after k n tries posted.Closed s l t same grows less told = sees_after (λ z. []) (λ z. []) n 0 0 s l t (omega arith) same grows told
tries_after k n tries posted.Draining s l t same grows less told = (
  sees_after (λ z. []) (λ z. []) n 0 0 s l t (omega arith) same grows told.0,
  met_since s.seen l.seen t.seen (grows_longer s.number [] n s.seen l.seen grows) told.1,
)
tries_after k n tries posted.Contended s l t same grows less told = sees_after (λ z. []) (λ z. []) n 1 tries s l t (less refl) same grows told

-- it is the same seat
pub tried_same : (k tries : ℕ) (a : Posted) (s t : Known) → Tries k tries a s t → IsSame s t
tried_same k tries (posted.Queued first wakes) s t tried = tried.0.same
tried_same k tries posted.Closed s t tried = tried.same
tried_same k tries posted.Draining s t tried = tried.0.same
tried_same k tries posted.Contended s t tried = tried.same

-- tries that did not push it leave it held
pub held_after : (k tries : ℕ) (a : Posted) (s t : Known) → Tries k tries a s t → Holds s.seen s.number k → IsHeldAfter a k t
held_after k tries (posted.Queued first wakes) s t tried have = tt
held_after k tries posted.Closed s t tried have = sees_held k 0 s t tried have
held_after k tries posted.Draining s t tried have = sees_held k 0 s t tried.0 have
held_after k tries posted.Contended s t tried have = sees_held k tries s t tried have

module _ (k tries : ℕ) (s t u w : Known) (held : TestsAndSets k true s t) where
  -- held, tried, and settled
  pub answers_settled : (a : Posted) (b : Answer) → Tries k tries a t u → Settles k a b u w → Answers k tries b s w
  answers_settled (posted.Queued first wakes) b tried settled =
      subst (λ (z : Answer × Known). Answers k tries z.0 s z.1) (λ i. (sym settled.0 i, sym settled.1 i)) (
        sees_on (λ z. Hold z k ∷ []) (λ z. Push z k ∷ []) 0 0 0 s t u (omega arith) held tried.0,
        subst (λ (m : ℕ). IsPushed m k first wakes u.seen) held.same.number_is tried.1,
      )
  answers_settled posted.Closed b tried settled = subst (λ (z : Answer). Answers k tries z s w) (sym settled.0)
      (sees_on (λ z. Hold z k ∷ []) (λ z. Back z k why.Closed ∷ []) 0 0 0 s u w (omega arith)
      (sees_on (λ z. Hold z k ∷ []) (λ z. []) 0 0 0 s t u (omega arith) held tried) settled.1)
  answers_settled posted.Draining b tried settled = subst (λ (z : Answer). Answers k tries z s w) (sym settled.0)
      (turned_back k s t u w held tried settled.1)
  answers_settled posted.Contended b tried settled = subst (λ (z : Answer). Answers k tries z s w) (sym settled.0)
      (sees_on (λ z. Hold z k ∷ []) (λ z. Back z k why.Contended ∷ []) tries 0 tries s u w (omega arith)
      (sees_on (λ z. Hold z k ∷ []) (λ z. []) 0 tries tries s t u (omega arith) held tried) settled.1)

  -- what lost tries were paid with came after the hold
  pub contended_settled : (a : Posted) (b : Answer) → Tries k tries a t u → Settles k a b u w → b ≡ answer.Contended → IsContended s.number k tries w.seen
  contended_settled (posted.Queued first wakes) b tried settled is = absurd (cc (settled.0, is))
  contended_settled posted.Closed b tried settled is = absurd (cc (settled.0, is))
  contended_settled posted.Draining b tried settled is = absurd (cc (settled.0, is))
  contended_settled posted.Contended b tried settled is = contended_calls k tries s t u w held tried settled.1

-- given up only where the tries were lost
pub contended_tries : (k : ℕ) (a : Posted) (b : Answer) (u w : Known) → Settles k a b u w → b ≡ answer.Contended → a ≡ posted.Contended
contended_tries k (posted.Queued first wakes) b u w settled is = absurd (cc (settled.0, is))
contended_tries k posted.Closed b u w settled is = absurd (cc (settled.0, is))
contended_tries k posted.Draining b u w settled is = absurd (cc (settled.0, is))
contended_tries k posted.Contended b u w settled is = refl

-- a sender that finds the queue closed gives the number back
pub closed_settled : (k tries : ℕ) (s t w : Known) → Tries k tries posted.Closed s t → Sees (Back t.number k why.Closed ∷ []) 0 t w
    → Posts k tries posted.Closed s w
closed_settled k tries s t w tried gave = sees_on (λ z. []) (λ z. Back z k why.Closed ∷ []) 0 0 0 s t w (omega arith) tried gave
