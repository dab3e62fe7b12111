-- A worker whose work asks for nothing adds the owner's takes, begins and ends alone.
use Rattle.wq_race.proofs.Common.{◌≡◌, ◌≢◌, ℕ, ◌+◌, ◌==◌, List, [], ◌∷◌, ◌++◌, length, refl, sym, ap, ◌∙◌, subst, arith, append_assoc, filter, count_by}
use Rattle.wq_race.proofs.Common.{append-nil, filter_map-append, Event, Close, End, IsRunning, is_close, is_drain, shut, begun, ended, ended_by, stop_number}
use Rattle.wq_race.proofs.Common.{IsLegal}
use Rattle.wq_race.proofs.Common.{IsComplete, owner_seat, seat_of, own, count_same, is_chain, is_chain_busy, is_ours, taking, Follows, WorkerState, Moves}
use Rattle.wq_race.proofs.Common.{count_by-append, quiet_taking, RunCounter, BookState, IsLedgerOf, HasServed, HasEnded, or_parts, chain_own}
use Rattle.wq_race.proofs.Common.{chain_busy_own, IsSameWorker, prefix_self, prefix_on, worker_still, worker_on, moves_same, own_more}
use Rattle.wq_race.specs.Race.{QueuesNothing}
use Rattle.wq_worker.specs.declared.ran.Ran.{Ran}
use Rattle.wq_worker.specs.declared.ran.Ran.TheVariants.{Item, Barrier, Stop, Nothing, Owing}
use Rattle.wq_worker.specs.Step.{stays, StartsBy, item, other, owed, EndsBy, ends, OwesBy, owes, Runs}
use Rattle.wq_worker.specs.Rows.{RowBy, none, more, IsExecution, IsNotStop, Serves, Closes, was_closed, closes}
use Rattle.wq_words.proofs.Seen.{filter-filter}
use Rattle.wq_worker.proofs.Owned.{owner_of_both, quiet_stays}
use Rattle.wq_words.proofs.Running.{runs_from_running as runs_some}
use Rattle.wq_worker.specs.Destroy.{Destroys, LeavesUnfinished}
use Rattle.wq_worker.proofs.Still.{Still, still_on, still_taking, still_one, still_begun}
use Rattle.wq_words.proofs.Lists.{none_cons}

own_of_ours : (s : ℕ) (es : List Event) → own s (filter (is_ours s) es) ≡ own s es
own_of_ours s es = filter-filter (λ e. seat_of e == s) (is_ours s) (λ e is. (or_parts (seat_of e == s) (seat_of e == owner_seat) is).0) es

owner_of_ours : (s : ℕ) (es : List Event) → own owner_seat (filter (is_ours s) es) ≡ own owner_seat es
owner_of_ours s es = filter-filter (λ e. seat_of e == owner_seat) (is_ours s) (λ e is. (or_parts (seat_of e == s) (seat_of e == owner_seat) is).1) es

pub chains_same : (v w : List Event) → own owner_seat w ≡ own owner_seat v → count_by is_chain w ≡ count_by is_chain v
chains_same v w same = count_same is_chain owner_seat chain_own v w same

pub asks_same : (v w : List Event) → own owner_seat w ≡ own owner_seat v → count_by is_chain_busy w ≡ count_by is_chain_busy v
asks_same v w same = count_same is_chain_busy owner_seat chain_busy_own v w same

pub quiet_still : (s : ℕ) (h : List Event) → QueuesNothing s h h
quiet_still s h = record { begins = prefix_self h; unsent = refl; unchained = refl; unasked = refl }

-- a worker that queued nothing goes on to the history w, and queues nothing
pub quiet_on : (a b : WorkerState RunCounter) (w : List Event) → IsSameWorker a b → QueuesNothing a.number a.seen b.seen → QueuesNothing b.number b.seen w
    → QueuesNothing a.number a.seen w
quiet_on a b w same x y = record {
  begins = prefix_on a.seen b.seen w x.begins y.begins;
  unsent = subst (λ (s : ℕ). own s w ≡ own s b.seen) same.number_is y.unsent ∙ x.unsent;
  unchained = y.unchained ∙ x.unchained;
  unasked = y.unasked ∙ x.unasked;
}

-- the same worker, which queued nothing, closed so often, began no drain, and runs nothing
pub record Plain (n : ℕ) (a b : WorkerState RunCounter) : Type 0 where
  pub same : IsSameWorker a b
  pub quiet : QueuesNothing a.number a.seen b.seen
  pub closes_is : count_by is_close b.seen ≡ count_by is_close a.seen + n
  pub drains_is : count_by is_drain b.seen ≡ count_by is_drain a.seen
  pub idle : ¬ IsRunning b.seen
  pub legal : IsLegal a.layout a.seen → IsLegal b.layout b.seen

-- the same worker went on: its sender made no event, its owner chained nothing, and nothing runs
pub record HasGoneOn (old new : WorkerState RunCounter) : Type 0 where
  pub same : IsSameWorker old new
  pub quiet : QueuesNothing old.number old.seen new.seen
  pub idle : ¬ IsRunning new.seen
  pub legal : IsLegal new.layout new.seen

pub plain_still : (a : WorkerState RunCounter) → ¬ IsRunning a.seen → Plain 0 a a
plain_still a idle = record {
  same = worker_still a;
  quiet = quiet_still a.number a.seen;
  closes_is = omega arith;
  drains_is = refl;
  idle = idle;
  legal = λ legal. legal;
}

pub plain_on : (m n : ℕ) (a b c : WorkerState RunCounter) → Plain m a b → Plain n b c → Plain (m + n) a c
plain_on m n a b c x y = record {
  same = worker_on a b c x.same y.same;
  quiet = quiet_on a b c.seen x.same x.quiet y.quiet;
  closes_is = omega (arith, x.closes_is, y.closes_is);
  drains_is = y.drains_is ∙ x.drains_is;
  idle = y.idle;
  legal = λ legal. y.legal (x.legal legal);
}

moves_plain : (xs : List Event) (n : ℕ) (a b : WorkerState RunCounter) → Still a.number n xs → ¬ IsRunning b.seen → Moves xs 0 a b → Plain n a b
moves_plain xs n a b s idle m =
    let new = m.adds.new in
    let mine : own a.number new ≡ [] = sym (own_of_ours a.number new) ∙ (ap (own a.number) m.adds.ours ∙ s.unsent) in
    let owners : own owner_seat new ≡ own owner_seat xs = sym (owner_of_ours a.number new) ∙ ap (own owner_seat) m.adds.ours in
    let chains : count_by is_chain new ≡ 0 = chains_same xs new owners ∙ s.unchained in
    let asks : count_by is_chain_busy new ≡ 0 = asks_same xs new owners ∙ s.unasked in
    record {
      same = moves_same xs 0 a b m;
      quiet = record {
        begins = (new, sym m.adds.is);
        unsent = own_more a.number a.seen new b.seen m.adds.is mine;
        unchained = omega (arith, ap (count_by is_chain) m.adds.is, count_by-append is_chain a.seen new, chains);
        unasked = omega (arith, ap (count_by is_chain_busy) m.adds.is, count_by-append is_chain_busy a.seen new, asks);
      };
      closes_is = omega (arith, (owner_of_both a.number xs 0 a.seen b.seen m.adds).closes, s.closes_is);
      drains_is = omega (arith, (owner_of_both a.number xs 0 a.seen b.seen m.adds).drains, s.undrained);
      idle = idle;
      legal = λ legal. m.legal;
    }

module _ (may : RunCounter → ℕ → List ℕ → RunCounter → Type 0)
    (asks_nothing : (w : RunCounter) (k : ℕ) (f : List ℕ) (v : RunCounter) → may w k f v → f ≡ []) where
  record Started (a : WorkerState RunCounter) (f : List ℕ) (es : List Event) : Type 0 where
    pub none : f ≡ []
    pub still : Still a.number 0 es

  started : (a : WorkerState RunCounter) (k : ℕ) (f : List ℕ) (v : RunCounter) (es : List Event) → a.number ≢ owner_seat → ¬ IsRunning a.seen
      → StartsBy may stays a k f v es → Started a f es
  started a k f v es not idle (item rests lt ran is) = record { none = asks_nothing a.work k f v ran; still = still_begun a.number k not a.seen es is }
  started a k f v es not idle (other rests ge is_none same is) = record { none = is_none; still = still_begun a.number k not a.seen es is }
  started a k f v es not idle (owed runs left same is) = absurd (idle (runs_some a.seen k runs))

  ends_plain : (k : ℕ) (a b : WorkerState RunCounter) → a.number ≢ owner_seat → ¬ IsRunning a.seen → EndsBy may stays a k b → Plain 0 a b
  ends_plain k a b not idle (ends f es fs st told moved rests) =
      let s = started a k f b.work es not idle st in
      let no_follow : fs ≡ [] = subst (λ (ks : List ℕ). Follows a.layout.items a.number (shut a.seen) ks fs) s.none told in
      let still : Still a.number 0 (es ++ (fs ++ End k ∷ [])) = still_on a.number 0 0 es (fs ++ End k ∷ []) s.still
      (subst (λ (z : List Event). Still a.number 0 (z ++ End k ∷ [])) (sym no_follow) (still_one a.number 0 (End k) not refl refl refl refl refl)) in
      moves_plain (es ++ (fs ++ End k ∷ [])) 0 a b still rests moved

  nothing_plain : (a b : WorkerState RunCounter) → a.number ≢ owner_seat → ¬ IsRunning a.seen → Moves (taking a.seen) 0 a b → Plain 0 a b
  nothing_plain a b not idle m =
      let same = quiet_stays (taking a.seen) a.seen b.seen (quiet_taking a.seen) (owner_of_both a.number (taking a.seen) 0 a.seen b.seen m.adds) in
      moves_plain (taking a.seen) 0 a b (still_taking a.number not a.seen) (λ (runs : IsRunning b.seen). idle (omega (
        arith,
        runs,
        ap (length {A = ℕ}) same.begun_same,
        ap (length {A = ℕ}) same.ended_same,
      ))) m

  owes_none : (k : ℕ) (a b : WorkerState RunCounter) → a.number ≢ owner_seat → ¬ IsRunning a.seen → OwesBy may stays a k b → ⊥
  owes_none k a b not idle (owes f qs j rest es fs st split small left opens told moved runs) = none_cons qs j rest (sym split
      ∙ (started a k f b.work es not idle st).none)

  runs_plain : (r : Ran) (a b : WorkerState RunCounter) → a.number ≢ owner_seat → ¬ IsRunning a.seen → Runs may r a b → Plain 0 a b
  runs_plain (Item k) a b not idle t = ends_plain t.0 a b not idle t.2
  runs_plain (Barrier k) a b not idle t = ends_plain t.0 a b not idle t.2
  runs_plain Stop a b not idle t = ends_plain t.0 a b not idle t.2
  runs_plain Nothing a b not idle t = nothing_plain a b not idle t.3
  runs_plain (Owing k) a b not idle t = absurd (owes_none k a b not idle t)

  pub row_plain : (P : Ran → Type 0) (n : ℕ) (a b : WorkerState RunCounter) → a.number ≢ owner_seat → ¬ IsRunning a.seen → RowBy may stays P n a b → Plain 0 a b
  row_plain P n a b not idle (none c) = plain_still c idle
  row_plain P n a b not idle (more m r c d e row passes run) =
      let before = row_plain P m c d not idle row in
      plain_on 0 0 c d e before (runs_plain r d e (subst (λ (s : ℕ). s ≢ owner_seat) (sym before.same.number_is) not) before.idle run)

  legal_ends : (k : ℕ) (a b : WorkerState RunCounter) → EndsBy may stays a k b → IsLegal b.layout b.seen
  legal_ends k a b (ends f es fs st told moved rests) = moved.legal

  -- what ended last is what this execution was of
  ended_last : (k : ℕ) (a b : WorkerState RunCounter) → EndsBy may stays a k b → (before : List ℕ) × (ended b.seen ≡ before ++ k ∷ [])
  ended_last k a b (ends f es fs st told moved rests) =
      let all = es ++ (fs ++ End k ∷ []) in let front = ended es ++ ended fs in
      let is : ended all ≡ front ++ k ∷ [] = filter_map-append ended_by es (fs ++ End k ∷ [])
      ∙ (ap (λ (z : List ℕ). ended es ++ z) (filter_map-append ended_by fs (End k ∷ [])) ∙ sym (append_assoc (ended es) (ended fs) (k ∷ []))) in (
        ended a.seen ++ front,
        (owner_of_both a.number all 0 a.seen b.seen moved.adds).ended_is
            ∙ (ap (λ (z : List ℕ). ended a.seen ++ z) is ∙ sym (append_assoc (ended a.seen) front (k ∷ []))),
      )

  pub serves_plain : (a b : WorkerState RunCounter) → a.number ≢ owner_seat → ¬ IsRunning a.seen → Serves may a b → HasServed a b
  serves_plain a b not idle s =
      let before = row_plain IsNotStop s.steps a s.last not idle s.row in
      let final = runs_plain Stop s.last b (subst (λ (c : ℕ). c ≢ owner_seat) (sym before.same.number_is) not) before.idle s.stops in
      let all = plain_on 0 0 a s.last b before final in
      let last = ended_last s.stops.0 s.last b s.stops.2 in
      let number : s.stops.0 ≡ stop_number b.layout = s.stops.1 ∙ ap stop_number (sym final.same.layout_is) in
      record {
        same = all.same;
        quiet = all.quiet;
        closes_is = omega (arith, all.closes_is);
        drains_is = all.drains_is;
        stopped = (last.0, last.1 ∙ ap (λ (k : ℕ). last.0 ++ k ∷ []) number);
        idle = all.idle;
        legal = legal_ends s.stops.0 s.last b s.stops.2;
      }

  -- a close, where the queue was not closed
  pub closes_plain : (a b : WorkerState RunCounter) → a.number ≢ owner_seat → ¬ IsRunning a.seen → Closes a b → (n : ℕ) × Plain n a b
  closes_plain a b not idle (was_closed is same) = (0, subst (λ (c : WorkerState RunCounter). Plain 0 a c) (sym same) (plain_still a idle))
  closes_plain a b not idle (closes opens m work left) =
      let o = owner_of_both a.number (Close ∷ []) 0 a.seen b.seen m.adds in
      let begun_is = ap (length {A = ℕ}) (o.begun_is ∙ append-nil (begun a.seen)) in
      let ended_is = ap (length {A = ℕ}) (o.ended_is ∙ append-nil (ended a.seen)) in (
        1,
        moves_plain (Close ∷ []) 1 a b (still_one a.number 1 Close not refl refl refl refl refl)
            (λ (runs : IsRunning b.seen). idle (omega (arith, runs, begun_is, ended_is))) m,
      )

  pub leaves_on : (limit : ℕ) (a b : WorkerState RunCounter) (left : ℕ) → a.number ≢ owner_seat → ¬ IsRunning a.seen
      → IsLegal a.layout a.seen → LeavesUnfinished may limit a b left → HasGoneOn a b
  leaves_on limit a b left not idle legal l =
      let first = closes_plain a l.closed not idle l.closes in
      let rest = row_plain IsExecution limit l.closed b (subst (λ (s : ℕ). s ≢ owner_seat) (sym first.1.same.number_is) not) first.1.idle l.row in
      let all = plain_on first.0 0 a l.closed b first.1 rest in
      record { same = all.same; quiet = all.quiet; idle = all.idle; legal = all.legal legal }

  pub destroys_on : (log : RunCounter → List ℕ) → ((w : RunCounter) → log w ≡ w.ran.items)
      → (limit : ℕ) (a : WorkerState RunCounter) (work : RunCounter) (book : BookState) → a.number ≢ owner_seat → ¬ IsRunning a.seen → IsLegal a.layout a.seen
      → Destroys log may limit a work book → IsLedgerOf book.seen book.own → HasEnded a work book
  destroys_on log log_is limit a work book not idle legal d made =
      let first = closes_plain a d.closed not idle d.closes in
      let rest = row_plain IsExecution d.steps d.closed d.last (subst (λ (s : ℕ). s ≢ owner_seat) (sym first.1.same.number_is) not) first.1.idle d.row in
      let all = plain_on first.0 0 a d.closed d.last first.1 rest in
      let seen = sym d.seen_is in
      record {
        queue_is = d.queue_is;
        layout_is = d.layout_is;
        number_is = d.own_is;
        quiet = subst (QueuesNothing a.number a.seen) seen all.quiet;
        legal = d.legal;
        complete = subst (λ (h : List Event). IsComplete h) seen d.complete;
        made = made;
        ran_is = sym (log_is work) ∙ d.ran_accepted;
      }
