-- The pairs that an execution asked for are dealt with, and where all of them are it ends.
use Rattle.wq_value_worker.proofs.Common.{◌≡◌, ℕ, ◌<◌, Bool, true, false, cond, ◌==◌, if◌then◌else◌, Some, List, [], ◌∷◌, ◌++◌, length, inr, refl, sym, ap}
use Rattle.wq_value_worker.proofs.Common.{◌∙◌, subst, arith, append-nil, Layout, Event, End, accepted, shut, running, IsRunning, owner_seat}
use Rattle.wq_value_worker.proofs.Common.{own, IsContended, KnownValuePair, Adds, contended_of, StaysOr, Both, QueuesRest, finished}
use Rattle.wq_value_worker.proofs.Common.{contended, GivesBack, MayLeave, numbers_in, KeepsHanded, AreValueParts, EndsBy, OwesBy, DealsOut, queueing_seat}
use Rattle.wq_value_worker.proofs.Common.{brought_in}
use Rattle.std.proofs.lemmas.List.{map-append}
use Rattle.wq_calls.proofs.OwnBrought.{own_still}
use Rattle.wq_value_worker.specs.Returned.{number_of_pair}
use Rattle.wq_value_worker.specs.Deals.{owed}
use Rattle.wq_value_worker.specs.Dealt.{IsContendedPair, BothDealOut, settles, contends}
use Rattle.wq_worker.proofs.Owned.{seat_grown}
use Rattle.wq_worker.proofs.Pair.{both_on}
use Rattle.wq_value_worker.proofs.Deals.{deals_follow}
use Rattle.wq_worker.proofs.Follow.{advance_stays, advance_layout, advance_number, advance_legal}
use Rattle.wq_value_worker.proofs.Settling.{kept_on, DealtSofar, dealt_stays, seat_still}
use Rattle.wq_worker.proofs.Step.{advance_owes, advance_ends}
use Rattle.wq_value_worker.proofs.ValueState.{value_state_of, keeps_or, value_fit}
use Rattle.wq_words.proofs.Seen.{queueing_ours}

end_accepts : (k : ℕ) (b : Bool) → accepted (cond b (End k ∷ []) []) ≡ []
end_accepts k true = refl
end_accepts k false = refl

-- by an end the two seats bring nothing
brought_ended : {V : Type 0} (s k : ℕ) (b : Bool) (old new : KnownValuePair V) → Adds s (End k ∷ []) 0 old.known.seen new.known.seen
    → KeepsHanded old new → brought_in (if b then owner_seat else s) new ≡ brought_in (if b then owner_seat else s) old
brought_ended s k b old new adds keeps =
    let c : ℕ = if b then owner_seat else s in
    own_still c (own c (End k ∷ [])) 0 old.known.seen new.known.seen old.brought new.brought (end_accepts k (owner_seat == c))
    (seat_grown s c (End k ∷ []) 0 old.known.seen new.known.seen (queueing_ours s b) adds) keeps.learnt.more keeps.learnt.was_whole

module _ {V W : Type 0} (log given : W → List (ℕ × V)) (takes : W → ℕ → V → W → Type 0) (tries : ℕ) where
  -- the first of those that are left was contended
  left_rest : (k : ℕ) (v : V) (more ps : List (ℕ × V)) (u w : W) (old mid new : KnownValuePair V)
      → DealtSofar log given takes ps ((k, v) ∷ more) u w old mid → IsContendedPair k tries mid new
      → QueuesRest tries (numbers_in ps) (k ∷ numbers_in more) old.known new.known
  left_rest k v more ps u w old mid new f lost =
      let s = old.known.number in let t = f.all in let same = dealt_stays log given takes f in
      contended (numbers_in f.done) k (numbers_in more) f.events
      (ap (λ (z : List (ℕ × V)). numbers_in z) f.split ∙ map-append number_of_pair f.done ((k, v) ∷ more)) refl
      (omega (arith, lost.item, ap (λ (z : Layout). z.items) t.both.layout_is)) (sym same.phase.shut_same ∙ lost.unshut)
      (deals_follow old.known.layout.items s (shut old.known.seen) f.done f.events f.queued f.returned t.deals)
      (subst (λ (z : ℕ). Both (f.events ++ contended_of s k) z old.known new.known) (omega arith)
      (both_on f.events (contended_of s k) 0 tries old.known mid.known new.known t.both
      (subst (λ (z : ℕ). Both (contended_of z k) tries mid.known new.known) t.both.number_is lost.both)))

  -- their numbers were queued as those of a list
  pub settled_rest : (r : Bool) (ps left : List (ℕ × V)) (u w : W) (old new : KnownValuePair V) → BothDealOut log given takes tries r ps left u w old new
      → QueuesRest tries (numbers_in ps) (numbers_in left) old.known new.known
  settled_rest r ps left u w old new (settles done es queued returned a b p q all) =
      finished es refl (deals_follow p.known.layout.items p.known.number (shut p.known.seen) done es queued returned all.deals) all.both
  settled_rest r ps left u w old new (contends done k v more es queued returned a b p m q all lost) =
      left_rest k v more (done ++ (k, v) ∷ more) a b p m q
      (record { done = done; events = es; queued = queued; returned = returned; split = refl; all = all }) lost

  pub settled_gives : (r : Bool) (ps left : List (ℕ × V)) (u w : W) (old new : KnownValuePair V) → BothDealOut log given takes tries r ps left u w old new
      → GivesBack takes u w
  settled_gives r ps left u w old new (settles done es queued returned a b p q all) = (returned, all.gives)
  settled_gives r ps left u w old new (contends done k v more es queued returned a b p m q all lost) = (returned, all.gives)

  settled_log : (r : Bool) (ps left : List (ℕ × V)) (u w : W) (old new : KnownValuePair V) → BothDealOut log given takes tries r ps left u w old new
      → log w ≡ log u
  settled_log r ps left u w old new (settles done es queued returned a b p q all) = all.log_is
  settled_log r ps left u w old new (contends done k v more es queued returned a b p m q all lost) = all.log_is

  settled_kept : (r : Bool) (ps left : List (ℕ × V)) (u w : W) (old new : KnownValuePair V) → BothDealOut log given takes tries r ps left u w old new
      → StaysOr KeepsHanded old new
  settled_kept r ps left u w old new (settles done es queued returned a b p q all) = all.kept
  settled_kept r ps left u w old new (contends done k v more es queued returned a b p m q all lost) = kept_on p m q all.kept (inr lost.kept)

  pub settled_left : (r : Bool) (ps left : List (ℕ × V)) (u w : W) (old new : KnownValuePair V) → BothDealOut log given takes tries r ps left u w old new
      → r ≡ false → 0 < length (numbers_in left)
  settled_left r ps left u w old new (settles done es queued returned a b p q all) owing = absurd (cc)
  settled_left r ps left u w old new (contends done k v more es queued returned a b p m q all lost) owing = omega arith

  pub settled_none : (r : Bool) (ps left : List (ℕ × V)) (u w : W) (old new : KnownValuePair V) → BothDealOut log given takes tries r ps left u w old new
      → r ≡ true → numbers_in left ≡ []
  settled_none r ps left u w old new (settles done es queued returned a b p q all) done_all = refl
  settled_none r ps left u w old new (contends done k v more es queued returned a b p m q all lost) done_all = absurd (cc)

  pub settled_owed : (r : Bool) (ps left : List (ℕ × V)) (u w : W) (old new : KnownValuePair V) → BothDealOut log given takes tries r ps left u w old new
      → r ≡ false → (k : ℕ) × (v : V) × (more : List (ℕ × V)) × (left ≡ (k, v) ∷ more) × IsContended new.known.number k tries new.known.seen
  settled_owed r ps left u w old new (settles done es queued returned a b p q all) owing = absurd (cc)
  settled_owed r ps left u w old new (contends done k v more es queued returned a b p m q all lost) owing =
      (k, v, more, refl, subst (λ (z : ℕ). IsContended z k tries q.known.seen) (sym lost.both.number_is) lost.contended)

  module _ (r : Bool) (ps left : List (ℕ × V)) (u w : W) (old new : KnownValuePair V) (fit : AreValueParts (log u) tries old)
      (s : BothDealOut log given takes tries r ps left u w old new) where
    pub settled_keeps : KeepsHanded old new
    settled_keeps = keeps_or (log u) tries old new fit (settled_kept r ps left u w old new s)

    pub settled_fit : AreValueParts (log w) tries new
    settled_fit =
        let ks = numbers_in ps in let js = numbers_in left in let rest = settled_rest r ps left u w old new s in
        subst (λ (z : List (ℕ × V)). AreValueParts z tries new) (sym (settled_log r ps left u w old new s))
        (value_fit (log u) tries old new fit settled_keeps (advance_legal tries ks js old.known new.known rest)
        (advance_number tries ks js old.known new.known rest) (advance_layout tries ks js old.known new.known rest)
        (advance_stays tries ks js old.known new.known rest).begun_same)

  -- what is queued and given back ends no execution
  settled_runs : (r : Bool) (ps left : List (ℕ × V)) (u w : W) (old new : KnownValuePair V) → BothDealOut log given takes tries r ps left u w old new
      → IsRunning old.known.seen → IsRunning new.known.seen
  settled_runs r ps left u w old new s runs =
      let t = advance_stays tries (numbers_in ps) (numbers_in left) old.known new.known (settled_rest r ps left u w old new s) in
      rw (t.begun_same, t.ended_same) runs

  module _ (may : W → ℕ → V → List (ℕ × V) → W → Type 0) where
    -- of what was owed the pairs before `left` were dealt with, and what was added behind accepted nothing
    settles_by : (ps left : List (ℕ × V)) (u w : W) (old mid new : KnownValuePair V) (after : List Event) (n : ℕ)
        → DealtSofar log given takes ps left u w old mid → IsRunning old.known.seen → Both after n mid.known new.known → accepted after ≡ []
        → (¬ IsRunning new.known.seen → left ≡ []) → brought_in (queueing_seat old.known.seen old.known.number) new
        ≡ brought_in (queueing_seat old.known.seen old.known.number) mid
        → DealsOut given may takes (value_state_of old tries ps u) (value_state_of new tries left w)
    settles_by ps left u w old mid new after n f runs b none no_more still =
        let t = f.all in let whole = (both_on f.events after 0 n old.known mid.known new.known t.both b).adds in record {
          asked = ps;
          done = f.done;
          queued = f.queued;
          returned = f.returned;
          ran = u;
          before = [];
          own = f.events;
          after = after;
          asks = owed runs refl refl refl;
          split = f.split;
          whole = no_more;
          deals = t.deals;
          adds = record { new = whole.new; is = whole.is; ours = whole.ours; theirs = omega arith };
          last = none;
          brings = still ∙ t.brings;
          gives = t.gives;
          given_is = t.given_is;
        }

    pub settles_owed : (r : Bool) (ps left : List (ℕ × V)) (u w : W) (old new : KnownValuePair V) → BothDealOut log given takes tries r ps left u w old new
        → r ≡ false → IsRunning old.known.seen → DealsOut given may takes (value_state_of old tries ps u) (value_state_of new tries left w)
    settles_owed r ps left u w old new (settles done es queued returned a b p q all) owing runs = absurd (cc)
    settles_owed r ps left u w old new (contends done k v more es queued returned a b p m q all lost) owing runs =
        let f : DealtSofar log given takes (done ++ (k, v) ∷ more) ((k, v) ∷ more) a b p m =
        record { done = done; events = es; queued = queued; returned = returned; split = refl; all = all } in
        settles_by (done ++ (k, v) ∷ more) ((k, v) ∷ more) a b p m q (contended_of m.known.number k) tries f runs lost.both refl
        (λ idle. absurd (idle (settled_runs r _ _ a b p q (contends done k v more es queued returned a b p m q all lost) runs)))
        (subst (λ (z : ℕ). brought_in z q ≡ brought_in z m) (seat_still log given takes f) lost.brings)

    pub settles_ended : (r : Bool) (ps left : List (ℕ × V)) (u w : W) (old mid new : KnownValuePair V) (k : ℕ)
        → BothDealOut log given takes tries r ps left u w old mid → r ≡ true → IsRunning old.known.seen → Both (End k ∷ []) 0 mid.known new.known
        → KeepsHanded mid new → DealsOut given may takes (value_state_of old tries ps u) (value_state_of new tries left w)
    settles_ended r ps left u w old mid new k (settles done es queued returned a b p q all) done_all runs over keeps =
        settles_by done [] a b p q new (End k ∷ []) 0
        (record { done = done; events = es; queued = queued; returned = returned; split = sym (append-nil done); all = all }) runs over refl (λ idle. refl)
        (brought_ended p.known.number k (shut p.known.seen) q new
        (subst (λ (z : ℕ). Adds z (End k ∷ []) 0 q.known.seen new.known.seen) all.both.number_is over.adds) keeps)
    settles_ended r ps left u w old mid new n (contends done k v more es queued returned a b p m q all lost) done_all runs over keeps = absurd (cc)

    module _ (k : ℕ) (r : Bool) (ps left : List (ℕ × V)) (u w : W) (old mid : KnownValuePair V) (runs : running old.known.seen ≡ Some k)
        (s : BothDealOut log given takes tries r ps left u w old mid) where
      pub runs_still : running mid.known.seen ≡ Some k
      runs_still =
          (advance_stays tries (numbers_in ps) (numbers_in left) old.known mid.known (settled_rest r ps left u w old mid s)).running_same ∙ runs

      pub owes_pairs : r ≡ false
          → OwesBy (MayLeave may takes) (GivesBack takes) (value_state_of old tries ps u).worker k (value_state_of mid tries left w).worker
      owes_pairs owing =
          advance_owes (MayLeave may takes) (GivesBack takes) k tries (numbers_in ps) (numbers_in left) u w old.known mid.known
          (settled_gives r ps left u w old mid s) runs (settled_left r ps left u w old mid s owing) (settled_rest r ps left u w old mid s)

      pub ends_pairs : (new : KnownValuePair V) → r ≡ true → Both (End k ∷ []) 0 mid.known new.known
          → EndsBy (MayLeave may takes) (GivesBack takes) (value_state_of old tries ps u).worker k (value_state_of new tries left w).worker
      ends_pairs new done_all over =
          advance_ends (MayLeave may takes) (GivesBack takes) k tries (numbers_in ps) (numbers_in left) u w old.known mid.known new.known
          (settled_gives r ps left u w old mid s) runs (settled_none r ps left u w old mid s done_all) (settled_rest r ps left u w old mid s) over
