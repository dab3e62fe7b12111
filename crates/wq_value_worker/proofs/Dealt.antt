-- What the queueing of a pair does, by its answer.
use Rattle.wq_value_worker.proofs.Common.{◌≡◌, ℕ, ◌<◌, ◌≤◌, Bool, true, false, if◌then◌else◌, List, [], ◌∷◌, ◌++◌, Option, inl, inr, refl, sym, ap, ◌∙◌}
use Rattle.wq_value_worker.proofs.Common.{subst, append-nil, Hold, Busy, Push, shut, IsLegal, owner_seat, Sees, IsContended, Learnt, pair_owner}
use Rattle.wq_value_worker.proofs.Common.{pair_sender, KnownValuePair, owner_of, contended_of, KeepsHanded, queueing_seat, brought_in}
use Rattle.wq_words.specs.declared.event.Event.TheVariants.{Chain, ChainBusy}
use Rattle.wq_words.specs.declared.answer.Answer.TheVariants as answer
use Rattle.wq_calls.specs.declared.value_answer.ValueAnswer.{ValueAnswer}
use Rattle.wq_calls.specs.declared.value_answer.ValueAnswer.TheVariants as given
use Rattle.wq_values.specs.Answers.{Answers, Chains}
use Rattle.wq_values.specs.KnownWith.{answer_of, BringsOrReturns, ChainsOrReturns}
use Rattle.wq_values.specs.OwnBrought.{queued_value}
use Rattle.wq_values.specs.ValuePairs.{sender_of}
use Rattle.wq_calls.proofs.OwnBrought.{brings_own, chained_own}
use Rattle.wq_value_worker.specs.declared.value_steps.Dealt.TheVariants as dealt
use Rattle.wq_worker.specs.Follow.{passed, pushed, busy, chained, chain_busy}
use Rattle.wq_value_worker.specs.Deals.{queues, returns}
use Rattle.wq_value_worker.specs.Dealt.{dealt_of, BothDeal}
use Rattle.wq_worker.proofs.Pair.{both_still, by_owner, by_sender}
use Rattle.wq_worker.proofs.Follow.{never_closed, never_drains}

module _ {V : Type 0} where
  -- the queueing seat, while the queue takes pushes and once it is shut
  seat_at : (b : Bool) (old : KnownValuePair V) → shut old.known.seen ≡ b
      → queueing_seat old.known.seen old.known.number ≡ (if b then owner_seat else old.known.number)
  seat_at b old is = ap (λ (z : Bool). if z then owner_seat else old.known.number) is

  -- what a seat of the pair brought is more by these
  abbrev BringsMore : KnownValuePair V → KnownValuePair V → List (Option V) → ℕ → Type 0
  BringsMore old new more s = brought_in s new ≡ brought_in s old ++ more

  sender_learnt : (old new : KnownValuePair V) → Learnt (owner_of old) (owner_of new) → Learnt (sender_of old) (sender_of new)
  sender_learnt old new l = record { more = l.more; was_whole = l.was_whole; as_many = l.as_many }

  -- a number that is no item is passed over, and no step is made
  pub dealt_passed : (k : ℕ) (v : V) (tries : ℕ) (p : KnownValuePair V) → p.known.layout.items ≤ k → IsLegal p.known.layout p.known.seen
      → BothDeal k v tries (dealt.Returned v) p p
  dealt_passed k v tries p high legal = (
    refl,
    [],
    record {
      queues = passed high refl;
      deals = returns refl refl refl;
      both = both_still p.known legal;
      brings = sym (append-nil (brought_in (queueing_seat p.known.seen p.known.number) p));
      kept = inl refl;
    },
  )

  pub dealt_chain : (k : ℕ) (v : V) (tries : ℕ) (a : ValueAnswer V) (old new : KnownValuePair V) → k < old.known.layout.items → shut old.known.seen ≡ true
      → Chains k (answer_of a) (pair_owner old.known) (pair_owner new.known) → ChainsOrReturns k v a (owner_of new) → KeepsHanded old new
      → Sees [] 0 (pair_sender old.known) (pair_sender new.known) → BothDeal k v tries (dealt_of a) old new
  dealt_chain k v tries a old new low is_shut answers value kept others = go a answers value
    where
      brings : (a : ValueAnswer V) → Chains k (answer_of a) (pair_owner old.known) (pair_owner new.known) → ChainsOrReturns k v a (owner_of new)
          → BringsMore old new (queued_value v a) (queueing_seat old.known.seen old.known.number)
      brings a answers value =
          subst (BringsMore old new (queued_value v a)) (sym (seat_at true old is_shut))
          (chained_own k v a (owner_of old) (owner_of new) refl answers value kept.learnt)

      go : (a : ValueAnswer V) → Chains k (answer_of a) (pair_owner old.known) (pair_owner new.known) → ChainsOrReturns k v a (owner_of new)
          → BothDeal k v tries (dealt_of a) old new
      go (given.Queued is_first is_waking) answers value = (
        Chain k ∷ [],
        record {
          queues = chained low is_shut refl;
          deals = queues refl refl refl;
          both = by_owner (Chain k ∷ []) 0 0 old.known new.known answers.2 others;
          brings = brings (given.Queued is_first is_waking) answers value;
          kept = inr kept;
        },
      )
      go (given.Pending w) answers back = (
        back,
        ChainBusy k ∷ [],
        record {
          queues = chain_busy low is_shut refl;
          deals = returns refl refl refl;
          both = by_owner (ChainBusy k ∷ []) 0 0 old.known new.known answers others;
          brings = brings (given.Pending w) answers back;
          kept = inr kept;
        },
      )
      go (given.Closed w) answers value = absurd answers
      go (given.Contended w) answers value = absurd answers
      go (given.Draining w) answers value = absurd answers

  pub dealt_send : (k : ℕ) (v : V) (tries : ℕ) (a : ValueAnswer V) (old new : KnownValuePair V) → k < old.known.layout.items → shut old.known.seen ≡ false
      → Answers k tries (answer_of a) (pair_sender old.known) (pair_sender new.known) → BringsOrReturns k v a (sender_of new) → KeepsHanded old new
      → Sees [] 0 (pair_owner old.known) (pair_owner new.known)
      → (answer_of a ≡ answer.Contended → IsContended old.known.number k tries new.known.seen) → BothDeal k v tries (dealt_of a) old new
  dealt_send k v tries a old new low opens answers value kept others = go a answers value
    where
      brings : (a : ValueAnswer V) → Answers k tries (answer_of a) (pair_sender old.known) (pair_sender new.known) → BringsOrReturns k v a (sender_of new)
          → BringsMore old new (queued_value v a) (queueing_seat old.known.seen old.known.number)
      brings a answers value =
          subst (BringsMore old new (queued_value v a)) (sym (seat_at false old opens))
          (brings_own k tries v a (sender_of old) (sender_of new) answers value (sender_learnt old new kept.learnt))

      go : (a : ValueAnswer V) → Answers k tries (answer_of a) (pair_sender old.known) (pair_sender new.known) → BringsOrReturns k v a (sender_of new)
          → (answer_of a ≡ answer.Contended → IsContended old.known.number k tries new.known.seen) → BothDeal k v tries (dealt_of a) old new
      go (given.Queued is_first is_waking) answers value _ = let es = Hold old.known.number k ∷ Push old.known.number k ∷ [] in (
        es,
        record {
          queues = pushed low opens refl;
          deals = queues refl refl refl;
          both = by_sender es 0 0 old.known new.known answers.0 others;
          brings = brings (given.Queued is_first is_waking) answers value;
          kept = inr kept;
        },
      )
      go (given.Pending w) answers back _ = let es = Busy old.known.number k ∷ [] in (
        back,
        es,
        record {
          queues = busy low opens refl;
          deals = returns refl refl refl;
          both = by_sender es 0 0 old.known new.known answers others;
          brings = brings (given.Pending w) answers back;
          kept = inr kept;
        },
      )
      go (given.Closed w) answers back _ = absurd (never_closed k tries old.known new.known opens answers others)
      go (given.Draining w) answers back _ = absurd (never_drains k tries old.known new.known opens answers others)
      go (given.Contended w) answers back met = (
        back,
        record {
          item = low;
          unshut = opens;
          both = by_sender (contended_of old.known.number k) tries 0 old.known new.known answers others;
          brings = brings (given.Contended w) answers back ∙ append-nil (brought_in (queueing_seat old.known.seen old.known.number) old);
          kept = kept;
          contended = met refl;
        },
      )
