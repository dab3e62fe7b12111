-- A worker whose work asks for nothing adds the owner's takes, begins and ends alone, and the close, drain and resume of a call.
use Rattle.std.proofs.Common.{◌≢◌}
use Rattle.wq_worker.proofs.Common.{◌≡◌, ℕ, ◌<◌, Bool, true, false, ◌==◌, Option, Some, None, List, [], ◌∷◌, ◌++◌, refl, sym, ap, ◌∙◌, subst, arith, append-nil}
use Rattle.wq_worker.proofs.Common.{or_parts, filter_map-append, count_by, count_by-append, Event, Begin, Close, Drain, End, Rest, Resume, Take, accepted, begun, ended}
use Rattle.wq_worker.proofs.Common.{shut, IsRunning, owner_seat, seat_of, own, is_ours, runs_some, next_of, taking, Follows, WorkerState, Moves, EndsBy, OwesBy}
use Rattle.wq_worker.proofs.Common.{owes, RunsBy, RowBy, none, more, IsExecution, Shuts, drains, Resumes, stays_closed, reopens, Ran, Item, Barrier, Stop, Nothing}
use Rattle.wq_worker.proofs.Common.{Owing}
use Rattle.wq_words.specs.Counting.{is_chain, is_chain_busy}
use Rattle.wq_words.specs.History.{accepted_by}
use Rattle.wq_words.proofs.Counting.{chain_own, chain_busy_own}
use Rattle.wq_words.proofs.Prefixes.{prefix_self, prefix_on}
use Rattle.wq_words.proofs.Seen.{count_same, filter-filter, own-append, own_more, own_none}
use Rattle.wq_worker.specs.Seats.{taking_of}
use Rattle.wq_worker.specs.State.{IsSameWorker}
use Rattle.wq_worker.specs.Step.{StartsBy, item, other, owed, ends}
use Rattle.wq_worker.specs.Works.{RunsNothing, no_event, a_take, a_rest, a_close, a_drain, a_resume, WorksInStepBy, runs as by_run, keeps as by_keeping}
use Rattle.wq_worker.specs.Rows.{Along, here, onward}
use Rattle.wq_worker.specs.Rows.{GoesOn, IsNotStop, RunsSomeBy, full, broken, ServesBy, DrainsBy, Closes, was_closed, closes, was_shut}
use Rattle.wq_worker.specs.Destroy.{LeavesUnfinishedBy}
use Rattle.wq_worker.specs.Silent.{AsksForNothing, AddsNoNumber, QueuesNoneBy, ClosesAndRuns}
use Rattle.wq_worker.specs.declared.drained.Drained.{Drained}
use Rattle.wq_worker.specs.declared.drained.Drained.TheVariants.{Empty, TooLong}
use Rattle.wq_worker.proofs.Owned.{owner_of_both}
use Rattle.wq_worker.proofs.Rows.{worker_still, worker_on, moves_same}
use Rattle.wq_worker.proofs.State.{quiet_taking}
use Rattle.wq_words.proofs.Lists.{none_cons}

-- the sender s made none of these events, and the owner chained no number by them and tried to chain none
record IsSilent (s : ℕ) (xs : List Event) : Type 0 where
  pub unsent : own s xs ≡ []
  pub owned : accepted (own owner_seat xs) ≡ []
  pub unchained : count_by is_chain xs ≡ 0
  pub unasked : count_by is_chain_busy xs ≡ 0

silent_none : (s : ℕ) → IsSilent s []
silent_none s = record { unsent = refl; owned = refl; unchained = refl; unasked = refl }

owned_on : (xs ys : List Event) → accepted (own owner_seat (xs ++ ys)) ≡ accepted (own owner_seat xs) ++ accepted (own owner_seat ys)
owned_on xs ys = ap accepted (own-append owner_seat xs ys) ∙ filter_map-append accepted_by (own owner_seat xs) (own owner_seat ys)

silent_on : (s : ℕ) (xs ys : List Event) → IsSilent s xs → IsSilent s ys → IsSilent s (xs ++ ys)
silent_on s xs ys a b = record {
  unsent = own-append s xs ys ∙ (λ i. a.unsent i ++ b.unsent i);
  owned = owned_on xs ys ∙ (λ i. a.owned i ++ b.owned i);
  unchained = omega (arith, count_by-append is_chain xs ys, a.unchained, b.unchained);
  unasked = omega (arith, count_by-append is_chain_busy xs ys, a.unasked, b.unasked);
}

module _ (s : ℕ) (not : s ≢ owner_seat) where
  -- an event of the owner that chains nothing
  silent_one : (e : Event) → seat_of e ≡ owner_seat → accepted (own owner_seat (e ∷ [])) ≡ [] → count_by is_chain (e ∷ []) ≡ 0
      → count_by is_chain_busy (e ∷ []) ≡ 0 → IsSilent s (e ∷ [])
  silent_one e at owned chains asks = record { unsent = own_none owner_seat e at s not; owned = owned; unchained = chains; unasked = asks }

  silent_taking : (h : List Event) → IsSilent s (taking h)
  silent_taking h = each (next_of h) (shut h)
    where
      each : (o : Option ℕ) (b : Bool) → IsSilent s (taking_of o b)
      each None true = silent_none s
      each None false = silent_one Take refl refl refl refl
      each (Some k) b = silent_none s

  -- an execution's beginning
  silent_begun : (k : ℕ) (h es : List Event) → es ≡ taking h ++ Begin k ∷ [] → IsSilent s es
  silent_begun k h es is =
      subst (IsSilent s) (sym is) (silent_on s (taking h) (Begin k ∷ []) (silent_taking h) (silent_one (Begin k) refl refl refl refl))

adds_none : (s : ℕ) (h : List Event) → AddsNoNumber s h h
adds_none s h = record { begins = prefix_self h; unsent = refl; owned = refl; unchained = refl; unasked = refl }

adds_on : (s t : ℕ) (u v w : List Event) → t ≡ s → AddsNoNumber s u v → AddsNoNumber t v w → AddsNoNumber s u w
adds_on s t u v w same x y = record {
  begins = prefix_on u v w x.begins y.begins;
  unsent = subst (λ (c : ℕ). own c w ≡ own c v) same y.unsent ∙ x.unsent;
  owned = y.owned ∙ x.owned;
  unchained = y.unchained ∙ x.unchained;
  unasked = y.unasked ∙ x.unasked;
}

module _ {W : Type 0} where
  -- the same worker queued and chained no number, and nothing runs
  record Silent (a b : WorkerState W) : Type 0 where
    pub same : IsSameWorker a b
    pub adds : AddsNoNumber a.number a.seen b.seen
    pub idle : ¬ IsRunning b.seen

  silent_still : (a b : WorkerState W) → ¬ IsRunning a.seen → b ≡ a → Silent a b
  silent_still a b idle same =
      subst (λ (w : WorkerState W). Silent a w) (sym same) (record { same = worker_still a; adds = adds_none a.number a.seen; idle = idle })

  silent_then : (a b c : WorkerState W) → Silent a b → Silent b c → Silent a c
  silent_then a b c x y = record {
    same = worker_on a b c x.same y.same;
    adds = adds_on a.number b.number a.seen b.seen c.seen x.same.number_is x.adds y.adds;
    idle = y.idle;
  }

  silent_seat : (a b : WorkerState W) → Silent a b → a.number ≢ owner_seat → b.number ≢ owner_seat
  silent_seat a b x not = subst (λ (s : ℕ). s ≢ owner_seat) (sym x.same.number_is) not

  moves_silent : (xs : List Event) (n : ℕ) (a b : WorkerState W) → IsSilent a.number xs → ¬ IsRunning b.seen → Moves xs n a b → Silent a b
  moves_silent xs n a b s idle m =
      let new = m.adds.new in let t = a.number in
      let mine : own t new ≡ [] =
      sym (filter-filter (λ e. seat_of e == t) (is_ours t) (λ e is. (or_parts (seat_of e == t) (seat_of e == owner_seat) is).0) new)
      ∙ (ap (own t) m.adds.ours ∙ s.unsent) in
      let owners : own owner_seat new ≡ own owner_seat xs =
      sym (filter-filter (λ e. seat_of e == owner_seat) (is_ours t) (λ e is. (or_parts (seat_of e == t) (seat_of e == owner_seat) is).1) new)
      ∙ ap (own owner_seat) m.adds.ours in
      let chains = count_same is_chain owner_seat chain_own xs new owners ∙ s.unchained in
      let asks = count_same is_chain_busy owner_seat chain_busy_own xs new owners ∙ s.unasked in
      let before = accepted (own owner_seat a.seen) in
      record {
        same = moves_same xs n a b m;
        adds = record {
          begins = (new, sym m.adds.is);
          unsent = own_more t a.seen new b.seen m.adds.is mine;
          owned = ap (λ (h : List Event). accepted (own owner_seat h)) m.adds.is ∙ (owned_on a.seen new
              ∙ (ap (λ (ks : List ℕ). before ++ ks) (ap accepted owners ∙ s.owned) ∙ append-nil before));
          unchained = omega (arith, ap (count_by is_chain) m.adds.is, count_by-append is_chain a.seen new, chains);
          unasked = omega (arith, ap (count_by is_chain_busy) m.adds.is, count_by-append is_chain_busy a.seen new, asks);
        };
        idle = idle;
      }

  -- events by which nothing begins and nothing ends
  rests_silent : (xs : List Event) (n : ℕ) (a b : WorkerState W) → IsSilent a.number xs → begun xs ≡ [] → ended xs ≡ [] → ¬ IsRunning a.seen
      → Moves xs n a b → Silent a b
  rests_silent xs n a b s no_begin no_end idle m =
      let o = owner_of_both a.number xs n a.seen b.seen m.adds in
      let begun_is : begun b.seen ≡ begun a.seen = o.begun_is ∙ (ap (λ (z : List ℕ). begun a.seen ++ z) no_begin ∙ append-nil (begun a.seen)) in
      let ended_is : ended b.seen ≡ ended a.seen = o.ended_is ∙ (ap (λ (z : List ℕ). ended a.seen ++ z) no_end ∙ append-nil (ended a.seen)) in
      moves_silent xs n a b s (rw (begun_is, ended_is) idle) m

  closes_silent : (a b : WorkerState W) → a.number ≢ owner_seat → ¬ IsRunning a.seen → Closes a b → Silent a b
  closes_silent a b not idle (was_closed is same) = silent_still a b idle same
  closes_silent a b not idle (closes opens m work left) =
      rests_silent (Close ∷ []) 0 a b (silent_one a.number not Close refl refl refl refl) refl refl idle m

  shuts_silent : (a b : WorkerState W) → a.number ≢ owner_seat → ¬ IsRunning a.seen → Shuts a b → Silent a b
  shuts_silent a b not idle (was_shut is same) = silent_still a b idle same
  shuts_silent a b not idle (drains opens m work left) =
      rests_silent (Drain ∷ []) 0 a b (silent_one a.number not Drain refl refl refl refl) refl refl idle m

  resumes_silent : (a b : WorkerState W) → a.number ≢ owner_seat → ¬ IsRunning a.seen → Resumes a b → Silent a b
  resumes_silent a b not idle (stays_closed is same) = silent_still a b idle same
  resumes_silent a b not idle (reopens draining m work left) =
      rests_silent (Resume ∷ []) 0 a b (silent_one a.number not Resume refl refl refl refl) refl refl idle m

  kept_silent : (es : List Event) (a b : WorkerState W) → RunsNothing es → a.number ≢ owner_seat → ¬ IsRunning a.seen → Moves es 0 a b → Silent a b
  kept_silent _ a b no_event not idle m = rests_silent [] 0 a b (silent_none a.number) refl refl idle m
  kept_silent _ a b a_take not idle m = rests_silent (Take ∷ []) 0 a b (silent_one a.number not Take refl refl refl refl) refl refl idle m
  kept_silent _ a b a_rest not idle m = rests_silent (Rest ∷ []) 0 a b (silent_one a.number not Rest refl refl refl refl) refl refl idle m
  kept_silent _ a b a_close not idle m = rests_silent (Close ∷ []) 0 a b (silent_one a.number not Close refl refl refl refl) refl refl idle m
  kept_silent _ a b a_drain not idle m = rests_silent (Drain ∷ []) 0 a b (silent_one a.number not Drain refl refl refl refl) refl refl idle m
  kept_silent _ a b a_resume not idle m = rests_silent (Resume ∷ []) 0 a b (silent_one a.number not Resume refl refl refl refl) refl refl idle m

  -- a sender's number is not the owner's
  seat_low : (a : WorkerState W) → a.number < a.layout.senders → a.number ≢ owner_seat
  seat_low a low is = omega (arith, low, is, a.layout.in_limits)

module _ {W : Type 0} (may : W → ℕ → List ℕ → W → Type 0) (gives : W → W → Type 0) (asks_nothing : AsksForNothing may) where
  record Started (a : WorkerState W) (f : List ℕ) (es : List Event) : Type 0 where
    pub none : f ≡ []
    pub silent : IsSilent a.number es

  started : (a : WorkerState W) (k : ℕ) (f : List ℕ) (v : W) (es : List Event) → a.number ≢ owner_seat → ¬ IsRunning a.seen
      → StartsBy may gives a k f v es → Started a f es
  started a k f v es not idle (item rests low ran is) =
      record { none = asks_nothing a.work k f v ran; silent = silent_begun a.number not k a.seen es is }
  started a k f v es not idle (other rests high is_none same is) = record { none = is_none; silent = silent_begun a.number not k a.seen es is }
  started a k f v es not idle (owed runs left same is) = absurd (idle (runs_some a.seen k runs))

  ends_silent : (k : ℕ) (a b : WorkerState W) → a.number ≢ owner_seat → ¬ IsRunning a.seen → EndsBy may gives a k b → Silent a b
  ends_silent k a b not idle (ends f es fs st told moved rests) =
      let s = started a k f b.work es not idle st in
      let no_follow : fs ≡ [] = subst (λ (ks : List ℕ). Follows a.layout.items a.number (shut a.seen) ks fs) s.none told in
      let last = subst (λ (z : List Event). IsSilent a.number (z ++ End k ∷ [])) (sym no_follow) (silent_one a.number not (End k) refl refl refl refl) in
      moves_silent (es ++ (fs ++ End k ∷ [])) 0 a b (silent_on a.number es (fs ++ End k ∷ []) s.silent last) rests moved

  owes_none : (k : ℕ) (a b : WorkerState W) → a.number ≢ owner_seat → ¬ IsRunning a.seen → OwesBy may gives a k b → ⊥
  owes_none k a b not idle (owes f qs j rest es fs st split small left opens told moved runs) =
      none_cons qs j rest (sym split ∙ (started a k f b.work es not idle st).none)

  runs_silent : (r : Ran) (a b : WorkerState W) → a.number ≢ owner_seat → ¬ IsRunning a.seen → RunsBy may gives r a b → Silent a b
  runs_silent (Item k) a b not idle t = ends_silent t.0 a b not idle t.2
  runs_silent (Barrier k) a b not idle t = ends_silent t.0 a b not idle t.2
  runs_silent Stop a b not idle t = ends_silent t.0 a b not idle t.2
  runs_silent Nothing a b not idle t =
      let q = quiet_taking a.seen in rests_silent (taking a.seen) 0 a b (silent_taking a.number not a.seen) q.begun_none q.ended_none idle t.3
  runs_silent (Owing k) a b not idle t = absurd (owes_none k a b not idle t)

  row_silent : (P : Ran → Type 0) (n : ℕ) (a b : WorkerState W) → a.number ≢ owner_seat → ¬ IsRunning a.seen → RowBy may gives P n a b → Silent a b
  row_silent P n a b not idle (none c) = silent_still c c idle refl
  row_silent P n a b not idle (more m r c d e row passes run) =
      let before = row_silent P m c d not idle row in silent_then c d e before (runs_silent r d e (silent_seat c d before not) before.idle run)

  some_silent : (limit n : ℕ) (a c : WorkerState W) → a.number ≢ owner_seat → ¬ IsRunning a.seen → RunsSomeBy may gives limit n a c → Silent a c
  some_silent limit n a c not idle (full row is) = row_silent GoesOn n a c not idle row
  some_silent limit n a c not idle (broken m r b row low breaks run is) =
      let before = row_silent GoesOn m a b not idle row in silent_then a b c before (runs_silent r b c (silent_seat a b before not) before.idle run)

  serves_silent : (a c : WorkerState W) → a.number ≢ owner_seat → ¬ IsRunning a.seen → ServesBy may gives a c → Silent a c
  serves_silent a c not idle s =
      let before = row_silent IsNotStop s.steps a s.last not idle s.row in
      silent_then a s.last c before (runs_silent Stop s.last c (silent_seat a s.last before not) before.idle s.stops)

  drains_silent : (limit : ℕ) (r : Drained) (a c : WorkerState W) → a.number ≢ owner_seat → ¬ IsRunning a.seen → DrainsBy may gives limit r a c
      → Silent a c
  drains_silent limit Empty a c not idle d =
      let first = shuts_silent a d.began not idle d.shuts in
      let row = row_silent IsExecution d.steps d.began d.last (silent_seat a d.began first not) first.idle d.row in
      let both = silent_then a d.began d.last first row in
      silent_then a d.last c both (resumes_silent d.last c (silent_seat a d.last both not) both.idle d.resumes)
  drains_silent limit (TooLong left) a c not idle d =
      let first = shuts_silent a d.began not idle d.shuts in
      silent_then a d.began c first (row_silent IsExecution limit d.began c (silent_seat a d.began first not) first.idle d.row)

  closed_silent : (n : ℕ) (a b c : WorkerState W) → a.number ≢ owner_seat → ¬ IsRunning a.seen → Closes a b → RowBy may gives IsExecution n b c
      → Silent a c
  closed_silent n a b c not idle close row =
      let first = closes_silent a b not idle close in silent_then a b c first (row_silent IsExecution n b c (silent_seat a b first not) first.idle row)

  works_silent : (a b : WorkerState W) → a.number ≢ owner_seat → ¬ IsRunning a.seen → WorksInStepBy may gives a b → Silent a b
  works_silent a b not idle (by_run r t) = runs_silent r a b not idle t
  works_silent a b not idle (by_keeping es nothing moved left) = kept_silent es a b nothing not idle moved

  along_silent : (a c : WorkerState W) → a.number ≢ owner_seat → ¬ IsRunning a.seen → Along (WorksInStepBy may gives) a c → Silent a c
  along_silent a c not idle (here b) = silent_still b b idle refl
  along_silent a c not idle (onward d b e row step) =
      let before = along_silent d b not idle row in silent_then d b e before (works_silent b e (silent_seat d b before not) before.idle step)

  told : (a b : WorkerState W) → Silent a b → AddsNoNumber a.number a.seen b.seen × (¬ IsRunning b.seen)
  told a b s = (s.adds, s.idle)

  pub none_by_one : (r : Ran) → QueuesNoneBy (RunsBy may gives r)
  none_by_one r a b low idle t = told a b (runs_silent r a b (seat_low a low) idle t)

  pub none_by_some : (limit n : ℕ) → QueuesNoneBy (RunsSomeBy may gives limit n)
  none_by_some limit n a b low idle t = told a b (some_silent limit n a b (seat_low a low) idle t)

  pub none_by_serving : QueuesNoneBy (ServesBy may gives)
  none_by_serving a b low idle t = told a b (serves_silent a b (seat_low a low) idle t)

  pub none_by_draining : (limit : ℕ) (r : Drained) → QueuesNoneBy (DrainsBy may gives limit r)
  none_by_draining limit r a b low idle t = told a b (drains_silent limit r a b (seat_low a low) idle t)

  pub none_by_leaving : (limit left : ℕ) → QueuesNoneBy (λ a b. LeavesUnfinishedBy may gives limit a b left)
  none_by_leaving limit left a b low idle t = told a b (closed_silent limit a t.closed b (seat_low a low) idle t.closes t.row)

  pub none_by_closing : (n : ℕ) → QueuesNoneBy (ClosesAndRuns may gives n)
  none_by_closing n a b low idle t = told a b (closed_silent n a t.0 b (seat_low a low) idle t.1 t.2)

  pub none_along : QueuesNoneBy (Along (WorksInStepBy may gives))
  none_along a b low idle t = told a b (along_silent a b (seat_low a low) idle t)
