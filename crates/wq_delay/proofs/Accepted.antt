-- What the calls of a delay table make of what was accepted of its sender.
use Rattle.wq_words.specs.Armed.{armed_of, modified_of_posted}
use Rattle.wq_words.specs.History.{accepted}
use Rattle.wq_words.specs.Seen.{own}
use Rattle.wq_words.proofs.Appended.{accepted-append}
use Rattle.wq_calls.proofs.Growing.{grows_own}
use Rattle.wq_calls.proofs.Resting.{accepted_still}
use Rattle.wq_live.specs.Answers.{Answers}
use Rattle.wq_delay.proofs.Common.{◌≡◌, ◌≢◌, ℕ, ◌<◌, Bool, List, [], ◌∷◌, ◌++◌, refl, ap, ◌∙◌, subst, arith, Event, Hold, Busy, Push, Back, Entry, Known, Sees}
use Rattle.wq_delay.proofs.Common.{DelayState, GivesAllBack}
use Rattle.wq_delay.proofs.Going.{backs}
use Rattle.wq_delay.specs.Delay.{Arms, PostsOne}
use Rattle.wq_words.specs.declared.answer.Answer.{Answer}
use Rattle.wq_words.specs.declared.answer.Armed.{Armed}
use Rattle.wq_words.specs.declared.answer.Posted.{Posted}
use Rattle.wq_words.specs.declared.event.Why.TheVariants as why
use Rattle.wq_words.specs.declared.answer.Answer.TheVariants as answer
use Rattle.wq_words.specs.declared.answer.Armed.TheVariants as armed
use Rattle.wq_words.specs.declared.answer.Modified.TheVariants as modified
use Rattle.wq_words.specs.declared.answer.Posted.TheVariants as posted

-- what was accepted of a seat is as it was
abbrev pub IsStill : Known → Known → Type 0
IsStill old new = accepted (own new.number new.seen) ≡ accepted (own old.number old.seen)

-- what was accepted of a seat has grown by these
abbrev pub GrowsBy : List ℕ → Known → Known → Type 0
GrowsBy ks old new = accepted (own old.number new.seen) ≡ accepted (own old.number old.seen) ++ ks

pub grows_by : (xs : List Event) (n : ℕ) (old new : Known) → Sees xs n old new → GrowsBy (accepted xs) old new
grows_by xs n old new sees =
    ap accepted (grows_own old.number xs n old.seen new.seen sees.grows) ∙ accepted-append (own old.number old.seen) xs

-- what is given back is not accepted
none_back : (s : ℕ) (es : List Entry) → accepted (backs s es) ≡ []
none_back s [] = refl
none_back s (e ∷ es) = none_back s es

pub given_still : (d : DelayState) (q : Known) → GivesAllBack d q → IsStill d.sender q
given_still d q told = let s = d.sender.number in accepted_still 0 (backs s told.order) d.sender q told.seen (none_back s told.order)

-- a queueing adds nothing unless the arming is answered Queued
pub queued_still : (k tries : ℕ) (a : Answer) (old new : Known) → Answers k tries a old new
    → ((is_first wakes : Bool) → armed_of a ≢ armed.Queued is_first wakes) → IsStill old new
queued_still k tries (answer.Queued is_first wakes) old new told other = absurd (other is_first wakes refl)
queued_still k tries answer.Pending old new told other = accepted_still 0 (Busy old.number k ∷ []) old new told refl
queued_still k tries answer.Closed old new told other = accepted_still 0 (Hold old.number k ∷ Back old.number k why.Closed ∷ []) old new told refl
queued_still k tries answer.Contended old new told other =
    accepted_still tries (Hold old.number k ∷ Back old.number k why.Contended ∷ []) old new told refl
queued_still k tries answer.Draining old new told other =
    accepted_still 0 (Hold old.number k ∷ Back old.number k why.Draining ∷ []) old new told.0 refl

-- an arming with a delay above 0 is not answered Queued
pub late_unqueued : (k delay tries : ℕ) (a : Armed) (old new : DelayState) → Arms k delay tries a old new → 0 < delay → (is_first wakes : Bool)
    → a ≢ armed.Queued is_first wakes
late_unqueued k delay tries a old new told late is_first wakes is =
    let queued = subst (λ (z : Armed). Arms k delay tries z old new) is told in absurd (omega (arith, queued.0, late))

-- what is answered of a post of an item on the table says whether it queued the item
pub posted_more : (k tries : ℕ) (r : Posted) (old new : DelayState) → PostsOne k tries r old new → modified_of_posted r ≡ modified.Moved
    → GrowsBy (k ∷ []) old.sender new.sender
posted_more k tries (posted.Queued is_first wakes) old new told is = grows_by (Push old.sender.number k ∷ []) 0 old.sender new.sender told.seen
posted_more k tries posted.Closed old new told is = absurd (cc)
posted_more k tries posted.Contended old new told is = absurd (cc)
posted_more k tries posted.Draining old new told is = absurd (cc)

pub posted_still : (k tries : ℕ) (r : Posted) (old new : DelayState) → PostsOne k tries r old new → modified_of_posted r ≢ modified.Moved
    → IsStill old.sender new.sender
posted_still k tries (posted.Queued is_first wakes) old new told other = absurd (other refl)
posted_still k tries posted.Closed old new told other =
    accepted_still 0 (Back old.sender.number k why.Closed ∷ []) old.sender new.sender told.seen refl
posted_still k tries posted.Contended old new told other = accepted_still tries [] old.sender new.sender told.seen refl
posted_still k tries posted.Draining old new told other = accepted_still 0 [] old.sender new.sender told.0.seen refl
