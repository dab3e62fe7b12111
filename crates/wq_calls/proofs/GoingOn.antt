-- What a seat sees by one call after another.
use Rattle.wq_calls.proofs.Common.{ℕ, ◌+◌, ◌∙◌, List, [], ◌++◌, refl, subst, arith, IsPrefix, Event, Grows, Known, Sees, Answer, Answers, IsLegal}
use Rattle.wq_calls.specs.Answers.{Posts}
use Rattle.wq_calls.proofs.Growing.{grows_on}
use Rattle.wq_words.proofs.Seen.{grows_none, grows_begins}
use Rattle.wq_words.specs.declared.answer.Answer.TheVariants as answer
use Rattle.wq_words.specs.declared.answer.Posted.{Posted}
use Rattle.wq_words.specs.declared.answer.Posted.TheVariants as posted

pub sees_on : (xs ys : List Event) (n m : ℕ) (a b c : Known) → Sees xs n a b → Sees ys m b c → Sees (xs ++ ys) (n + m) a c
sees_on xs ys n m a b c p q = record {
  same = record {
    queue_is = q.same.queue_is ∙ p.same.queue_is;
    layout_is = q.same.layout_is ∙ p.same.layout_is;
    number_is = q.same.number_is ∙ p.same.number_is;
  };
  grows = grows_on a.number xs ys n m (n + m) a.seen b.seen c.seen (omega arith) p.grows
      (subst (λ (z : ℕ). Grows z ys m b.seen c.seen) p.same.number_is q.grows);
  legal = q.legal;
}

pub sees_none : (a : Known) → IsLegal a.layout a.seen → Sees [] 0 a a
sees_none a legal = record {
  same = record { queue_is = refl; layout_is = refl; number_is = refl };
  grows = grows_none a.number a.seen;
  legal = legal;
}

pub sees_begins : (n : ℕ) (xs : List Event) (old new : Known) → Sees xs n old new → IsPrefix old.seen new.seen
sees_begins n xs old new sees = grows_begins old.number xs n old.seen new.seen sees.grows

pub answers_begin : (k tries : ℕ) (a : Answer) (old new : Known) → Answers k tries a old new → IsPrefix old.seen new.seen
answers_begin k tries (answer.Queued first wakes) old new told = sees_begins _ _ old new told.0
answers_begin k tries answer.Pending old new told = sees_begins _ _ old new told
answers_begin k tries answer.Closed old new told = sees_begins _ _ old new told
answers_begin k tries answer.Draining old new told = sees_begins _ _ old new told.0
answers_begin k tries answer.Contended old new told = sees_begins _ _ old new told

pub posts_begin : (k tries : ℕ) (a : Posted) (old new : Known) → Posts k tries a old new → IsPrefix old.seen new.seen
posts_begin k tries (posted.Queued first wakes) old new told = sees_begins _ _ old new told.0
posts_begin k tries posted.Closed old new told = sees_begins _ _ old new told
posts_begin k tries posted.Draining old new told = sees_begins _ _ old new told.0
posts_begin k tries posted.Contended old new told = sees_begins _ _ old new told
