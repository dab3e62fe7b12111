-- What a step of a worker with values deals with, where it begins an execution and then queues what that asks for.
use Rattle.wq_value_worker.proofs.Common.{◌≡◌, ℕ, Bool, true, false, cond, ◌==◌, if◌then◌else◌, List, [], ◌∷◌, ◌++◌, length, Option, Some, None, refl, sym}
use Rattle.wq_value_worker.proofs.Common.{ap, ◌∙◌, subst, Layout, Event, Take, Begin, accepted, begun, shut, owner_seat, own}
use Rattle.wq_value_worker.proofs.Common.{runs_some, next_of, Learnt, Ran, Nothing, Adds, taking, MayLeave, ValueWorkerState, owner_in}
use Rattle.wq_value_worker.proofs.Common.{DealsOut, BeginsValue}
use Rattle.wq_words.proofs.Ranks.{slice_get-prefix}
use Rattle.wq_values.specs.OwnBrought.{own_brought}
use Rattle.wq_calls.proofs.OwnBrought.{own_still}
use Rattle.wq_worker.specs.Seats.{taking_of}
use Rattle.wq_value_worker.specs.Returned.{values_in}
use Rattle.wq_value_worker.specs.Deals.{Deals, queueing_seat, AsksFor, item, other, owed, DealsOutBy}
use Rattle.wq_worker.proofs.Seats.{adds_on}
use Rattle.wq_worker.proofs.Owned.{seat_grown}
use Rattle.wq_worker.proofs.Step.{shut_still}
use Rattle.wq_words.proofs.Seen.{queueing_ours}

-- no seat queues by a take and a begin
module _ (k : ℕ) where
  begin_accepts : (mine : Bool) → accepted (cond mine (Begin k ∷ []) []) ≡ []
  begin_accepts true = refl
  begin_accepts false = refl

  take_accepts : (mine : Bool) → accepted (cond mine (Take ∷ cond mine (Begin k ∷ []) []) (cond mine (Begin k ∷ []) [])) ≡ []
  take_accepts true = refl
  take_accepts false = refl

  taking_accepts : (c : ℕ) (n : Option ℕ) (is_shut : Bool) → accepted (own c (taking_of n is_shut ++ Begin k ∷ [])) ≡ []
  taking_accepts c None false = take_accepts (owner_seat == c)
  taking_accepts c None true = begin_accepts (owner_seat == c)
  taking_accepts c (Some j) is_shut = begin_accepts (owner_seat == c)

module _ {V W : Type 0} (given : W → List (ℕ × V)) (may : W → ℕ → V → List (ℕ × V) → W → Type 0) (takes : W → ℕ → V → W → Type 0) where
  -- where something was found
  pub settles_by : (r : Ran) (a b : ValueWorkerState V W) → (r ≡ Nothing → ⊥) → DealsOut given may takes a b → DealsOutBy given may takes r a b
  settles_by Nothing a b some s = absurd (some refl)
  settles_by _ a b some s = s

  -- what a number brought is so still where more was brought
  asks_on : (a m b : ValueWorkerState V W) (ps : List (ℕ × V)) (u : W) (es : List Event) → Learnt (owner_in m) (owner_in b)
      → AsksFor given may takes a m ps u es
      → AsksFor given may takes a b ps u es
  asks_on a m b ps u es more (item j v idle brought ran is) =
      item j v idle (slice_get-prefix m.brought b.brought (length (begun a.worker.seen)) (Some v) more.more brought) ran is
  asks_on a m b ps u es more (other j idle high none same is) = other j idle high none same is
  asks_on a m b ps u es more (owed runs left same is) = owed runs left same is

  module _ (k : ℕ) (a m b : ValueWorkerState V W) (g : BeginsValue given may takes a k m) where
    abbrev to : List Event
    to = taking a.worker.seen ++ Begin k ∷ []

    shut_same : shut m.worker.seen ≡ shut a.worker.seen
    shut_same = shut_still (MayLeave may takes) a.worker m.worker k g.begins

    -- what the execution asked for is owed until it is dealt with
    asks_fresh : (ps : List (ℕ × V)) (u : W) (es : List Event) → Learnt (owner_in m) (owner_in b) → AsksFor given may takes m b ps u es
        → (es ≡ []) × AsksFor given may takes a b ps u to
    asks_fresh ps u es more (item j v idle brought ran is) = absurd (idle (runs_some m.worker.seen k g.begins.runs))
    asks_fresh ps u es more (other j idle high none same is) = absurd (idle (runs_some m.worker.seen k g.begins.runs))
    asks_fresh ps u es more (owed runs left same is) = (
      is,
      subst (λ (z : List (ℕ × V)). AsksFor given may takes a b z u to) (sym left)
          (subst (λ (z : W). AsksFor given may takes a b m.unqueued z to) (sym same) (asks_on a m b m.unqueued m.worker.work to more g.asks)),
    )

    deals_fresh : (ps queued returned : List (ℕ × V)) (es : List Event)
        → Deals m.worker.layout.items m.worker.number (shut m.worker.seen) ps es queued returned
        → Deals a.worker.layout.items a.worker.number (shut a.worker.seen) ps es queued returned
    deals_fresh ps queued returned es t =
        subst (λ (z : Bool). Deals a.worker.layout.items a.worker.number z ps es queued returned) shut_same
        (subst (λ (z : ℕ). Deals a.worker.layout.items z (shut m.worker.seen) ps es queued returned) g.begins.moves.number
        (subst (λ (z : Layout). Deals z.items m.worker.number (shut m.worker.seen) ps es queued returned) g.begins.moves.layout t))

    adds_fresh : (es fs : List Event) → es ≡ [] → Adds m.worker.number (es ++ fs) 0 m.worker.seen b.worker.seen
        → Adds a.worker.number (to ++ fs) 0 a.worker.seen b.worker.seen
    adds_fresh es fs none adds =
        adds_on a.worker.number to fs 0 0 a.worker.seen m.worker.seen b.worker.seen g.begins.moves.adds
        (subst (λ (z : ℕ). Adds z fs 0 m.worker.seen b.worker.seen) g.begins.moves.number
        (subst (λ (z : List Event). Adds m.worker.number (z ++ fs) 0 m.worker.seen b.worker.seen) none adds))

    -- what the queueing seat brought is as before the begin
    brings_fresh : (vs : List (Option V)) → Learnt (owner_in a) (owner_in m)
        → own_brought (queueing_seat m.worker.seen m.worker.number) b.worker.seen b.brought
        ≡ own_brought (queueing_seat m.worker.seen m.worker.number) m.worker.seen m.brought ++ vs
        → own_brought (queueing_seat a.worker.seen a.worker.number) b.worker.seen b.brought
        ≡ own_brought (queueing_seat a.worker.seen a.worker.number) a.worker.seen a.brought ++ vs
    brings_fresh vs learnt brings =
        let c = queueing_seat a.worker.seen a.worker.number in
        let same : queueing_seat m.worker.seen m.worker.number ≡ c = λ i. if shut_same i then owner_seat else g.begins.moves.number i in
        let grown = seat_grown a.worker.number c to 0 a.worker.seen m.worker.seen (queueing_ours a.worker.number (shut a.worker.seen)) g.begins.moves.adds in
        let none = taking_accepts k c (next_of a.worker.seen) (shut a.worker.seen) in
        subst (λ (z : ℕ). own_brought z b.worker.seen b.brought ≡ own_brought z m.worker.seen m.brought ++ vs) same brings ∙
        ap (λ (z : List (Option V)). z ++ vs)
        (own_still c (own c to) 0 a.worker.seen m.worker.seen a.brought m.brought none grown learnt.more learnt.was_whole)

    pub settles_fresh : Learnt (owner_in a) (owner_in m) → Learnt (owner_in m) (owner_in b) → DealsOut given may takes m b → DealsOut given may takes a b
    settles_fresh learnt more s =
        let asks = asks_fresh s.asked s.ran s.before more s.asks in
        record {
          asked = s.asked;
          done = s.done;
          queued = s.queued;
          returned = s.returned;
          ran = s.ran;
          before = to;
          own = s.own;
          after = s.after;
          asks = asks.1;
          split = s.split;
          whole = s.whole;
          deals = deals_fresh s.done s.queued s.returned s.own s.deals;
          adds = adds_fresh s.before (s.own ++ s.after) asks.0 s.adds;
          last = s.last;
          brings = brings_fresh (values_in s.queued) learnt s.brings;
          gives = s.gives;
          given_is = s.given_is ∙ ap (λ (z : List (ℕ × V)). z ++ s.returned) g.given_same;
        }
