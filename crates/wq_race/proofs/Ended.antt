-- The history of a race that has run to its end.
use Rattle.wq_race.proofs.Common.{◌≡◌, ◌≢◌, ℕ, ◌+◌, ◌-◌, ◌^◌, inl, inr, length-append, ◌*◌, ◌<◌, ◌≤◌, Bool, true, false, List, [], ◌∷◌, ◌++◌, length}
use Rattle.wq_race.proofs.Common.{get_or, min, refl, sym, ap, ◌∙◌, subst, arith, All, MatchBool, count_by, AllByRecursion, cases_lt, length-range_with_len}
use Rattle.wq_race.proofs.Common.{IsPrefix, Layout, Event, Back, is_close, is_drain, is_push, accepted, begun, ended, IsLegal, prefix_whole, own, own-append}
use Rattle.wq_race.proofs.Common.{closed_count, count_same, owner_seat, Why, RefusesFor, ended_same, Known, is_queued_by, is_chain, is_chain_busy}
use Rattle.wq_race.proofs.Common.{sender_counts, owner_counts, LedgerState, BookState}
use Rattle.wq_race.proofs.Common.{Unbalanced, AreWhole, AreOwnerWhole, ledgers_of, HasOne, IsUnbalanced, is_queued_below, below_more, below_all, WorkerState}
use Rattle.wq_race.proofs.Common.{items_among, SendsAll, count_by-append, accepted-count, RunCounter, Plan, Team, items_at, IsOfStop, HasRaced, queueings, TellsOutcome}
use Rattle.wq_race.proofs.Common.{IsWhole, IsBookAfter, IsLedgerOf, HasMet, AllKnown, HasEnded, HasSettled, ledger_of, own_between, prefix_on}
use Rattle.wq_race.proofs.Common.{IsComplete, count_by-le-length}
use Rattle.wq_words.specs.declared.event.Why.TheVariants as why
use Rattle.wq_words.specs.Limits.{most_text_items}
use Rattle.wq_words.proofs.Order.{in_order}
use Rattle.wq_worker.proofs.Draining.{begun-complete}
use Rattle.wq_ledger.specs.declared.totals.Totals.{Totals}
use Rattle.wq_ledger.specs.Balance.{Balances}
use Rattle.wq_race.specs.declared.outcome.Outcome.{Outcome}
use Rattle.wq_race.proofs.Running.{own_room}
use Rattle.wq_race.proofs.Serving.{chains_same, asks_same}
use Rattle.wq_race.proofs.Events.{Has, own_has, was_allowed}
use Rattle.wq_race.proofs.Whole.{IsRace, was_queued, all_accepted, below_counted, queued_own, pushes, length-queueings}
use Rattle.wq_race.proofs.Balanced.{AreNumbered, whole_counts, one_ledger, last_ledger, none_made, always_balanced}
use Rattle.wq_words.proofs.ShutOwn.{drain_own}

-- where a history has run to its end, what was accepted has ended
pub all_ended : (layout : Layout) (h : List Event) → IsLegal layout h → IsComplete h → ended h ≡ accepted h
all_ended layout h legal complete =
    let ran = begun-complete layout h legal complete in
    prefix_whole (ended h) (begun h) (in_order layout h legal).ended_first (omega (arith, complete.1, ap (length {A = ℕ}) ran)) ∙ ran

pub all_front : (P : Event → Type 0) (xs ys : List Event) → AllByRecursion P (xs ++ ys) → AllByRecursion P xs
all_front P [] ys all = tt
all_front P (x ∷ xs) ys all = (all.0, all_front P xs ys all.1)

-- no event of a kind that was never seen comes before another
none_before : (p : Event → Bool) (e : Event) (before rest h w : List Event) → h ≡ before ++ e ∷ rest → IsPrefix h w → count_by p w ≡ 0
    → ¬ (0 < count_by p before)
none_before p e before rest h w is begins none some =
    omega (arith, some, ap (count_by p) is, count_by-append p before (e ∷ rest), ap (count_by p) begins.1, count_by-append p h begins.0, none)

-- where neither a close nor a drain was seen, nothing was refused
never_refused : (layout : Layout) (s k : ℕ) (cause : Why) (h w : List Event) → RefusesFor cause → IsLegal layout h → IsPrefix h w → count_by is_close w ≡ 0
    → count_by is_drain w ≡ 0 → ¬ Has (Back s k cause) h
never_refused layout s k why.Closed h w refusal legal begins closes drains has =
    let a = was_allowed layout (Back s k why.Closed) [] h legal has in
    none_before is_close (Back s k why.Closed) a.before a.rest h w a.is begins closes a.allowed.2.1
never_refused layout s k why.Draining h w refusal legal begins closes drains has =
    let a = was_allowed layout (Back s k why.Draining) [] h legal has in
    none_before is_drain (Back s k why.Draining) a.before a.rest h w a.is begins drains a.allowed.2.1
never_refused layout s k why.Contended h w refusal legal begins closes drains has = absurd refusal
never_refused layout s k why.Cancelled h w refusal legal begins closes drains has = absurd refusal

pub surely : (b : Bool) (P Q : Type 0) → MatchBool b P Q → ¬ Q → b ≡ true
surely true P Q m not = refl
surely false P Q m not = absurd (not m)

-- what a race leaves, once its queue is destroyed and its book has met the senders
pub record IsOver (plan : Plan) (team : Team) (w : WorkerState RunCounter) (senders : List Known) (work : RunCounter) (book last : BookState)
    (ledgers : List LedgerState) : Type 0 where
  pub run : HasRaced plan team
  pub met : HasMet team.worker w
  pub known : AllKnown w.seen team.senders.items senders
  pub ended : HasEnded w work book
  pub settled : HasSettled book senders team.program last ledgers

module _ (plan : Plan) (team : Team) (w : WorkerState RunCounter) (senders : List Known) (work : RunCounter) (book last : BookState)
    (ledgers : List LedgerState)
    (o : IsOver plan team w senders work book last ledgers) where
  size : book.layout ≡ team.worker.layout
  size = o.ended.layout_is ∙ o.met.same.layout_is

  legal : IsLegal team.worker.layout book.seen
  legal = subst (λ (l : Layout). IsLegal l book.seen) size o.ended.legal

  record Sender (s : ℕ) (d : Known) : Type 0 where
    number_is : (get_or senders s d).number ≡ s
    told : own s book.seen ≡ own s (get_or senders s d).seen
    queued : SendsAll s (items_at s plan.own) (own s book.seen)
    opens : (k : ℕ) (cause : Why) → RefusesFor cause → ¬ Has (Back s k cause) (own s book.seen)

  sender_at : (s : ℕ) (d : Known) → s < plan.senders → Sender s d
  sender_at s d lt =
      let first = o.run.each s d lt in let k = o.known.each s d (omega (arith, lt, o.run.count)) in
      let now = get_or senders s d in
      let number : now.number ≡ s = k.same.number_is ∙ first.number_is in
      let t = o.settled.told s d (omega (arith, lt, o.run.count, o.known.count)) in
      let later : own s t.0 ≡ own s now.seen = subst (λ (c : ℕ). own c t.0 ≡ own c now.seen) number t.3 in
      let heard : own s book.seen ≡ own s now.seen = own_between s now.seen book.seen t.0
      (prefix_on now.seen w.seen book.seen k.known o.ended.quiet.begins) t.1 later in
      let before : own s now.seen ≡ own s (get_or team.senders.items s d).seen = subst
      (λ (c : ℕ). own c now.seen ≡ own c (get_or team.senders.items s d).seen) first.number_is k.mine in
      record {
        number_is = number;
        told = heard;
        queued = subst (λ (es : List Event). SendsAll s (items_at s plan.own) es) (sym (heard ∙ before)) first.queued;
        opens = λ j cause refusal has.
            never_refused now.layout s j cause now.seen w.seen refusal k.legal k.known (closed_count team.worker.seen w.seen o.met.untouched ∙ o.run.unclosed)
            (count_same is_drain owner_seat drain_own team.worker.seen w.seen o.met.untouched ∙ o.run.undrained)
            (own_has s (Back s j cause) now.seen (subst (λ (es : List Event). Has (Back s j cause) es) heard has));
      }

  nobody : Known
  nobody = team.program

  -- what the program's sender did is all in the book in the end, and what was in it before is a part of that
  program_told : own (plan.senders + 1) last.seen ≡ own (plan.senders + 1) team.program.seen
  program_told = subst (λ (c : ℕ). own c last.seen ≡ own c team.program.seen) o.run.program_number o.settled.program_told

  abbrev later : List Event
  later = o.settled.heard.begins.0

  program_parts : own (plan.senders + 1) book.seen ++ own (plan.senders + 1) later ≡ own (plan.senders + 1) team.program.seen
  program_parts = sym (own-append (plan.senders + 1) book.seen later) ∙ (ap (own (plan.senders + 1)) o.settled.heard.begins.1 ∙ program_told)

  is_race : IsRace plan.senders plan.own team.worker.layout book.seen
  is_race =
      let number : w.number ≡ plan.senders = o.met.same.number_is ∙ o.run.number_is in
      let sent : own plan.senders book.seen ≡ own plan.senders w.seen = subst (λ (c : ℕ). own c book.seen ≡ own c w.seen) number o.ended.quiet.unsent in
      let before : own plan.senders w.seen ≡ own plan.senders team.worker.seen = subst
      (λ (c : ℕ). own c w.seen ≡ own c team.worker.seen) o.run.number_is o.met.unsent in
      let none : own plan.senders book.seen ≡ [] = sent ∙ (before ∙ o.run.unsent) in
      record {
        shared = record {
          sized = o.run.layout;
          legal = legal;
          queued = λ s lt. (sender_at s nobody lt).queued;
          unpushed = queued_own plan.senders book.seen ∙ ap (count_by (is_queued_by plan.senders)) none;
          unchained = o.ended.quiet.unchained ∙ (chains_same team.worker.seen w.seen o.met.untouched ∙ o.run.unchained);
          stops = all_front (IsOfStop team.worker.layout) (own (plan.senders + 1) book.seen) (own (plan.senders + 1) later)
              (subst (AllByRecursion (IsOfStop team.worker.layout)) (sym program_parts) o.run.stops);
        };
        opens = λ s k cause lt. (sender_at s nobody lt).opens k cause;
        unsent = none;
      }

  few_items : plan.senders * plan.own ≤ most_text_items
  few_items = plan.in_limits.few_items

  few_own : plan.own ≤ most_text_items
  few_own = omega (arith, few_items, own_room 0 plan.senders plan.own (omega (arith, plan.in_limits.some_sender)))

  pub counted : (s : ℕ) (d : Known) → s < plan.senders → (sender_counts (get_or senders s d).number (get_or senders s d).seen).queued ≡ plan.own
  counted s d lt =
      let at = sender_at s d lt in let now = get_or senders s d in
      let mine : own s now.seen ≡ own s book.seen = sym at.told in
      let count : count_by (is_queued_by s) now.seen ≡ plan.own =
      queued_own s now.seen ∙ (ap (count_by (is_queued_by s)) (mine ∙ was_queued plan.senders plan.own team.worker.layout book.seen is_race s lt)
      ∙ (pushes s (items_at s plan.own) ∙ length-range_with_len (s * plan.own) plan.own)) in
      ap (λ (c : ℕ). min (count_by (is_queued_by c) now.seen) 18446744073709551615) at.number_is ∙ omega (arith, count, few_own)

  pub senders_count : length senders ≡ plan.senders
  senders_count = o.known.count ∙ o.run.count

  pub all_counted : All (λ (s : Known). (sender_counts s.number s.seen).queued ≡ plan.own) senders
  all_counted i d lt = counted i d (omega (arith, lt, senders_count))

  accepted_all : length (items_among team.worker.layout (accepted book.seen)) ≡ plan.senders * plan.own
  accepted_all = all_accepted plan.senders plan.own team.worker.layout book.seen is_race

  pub ran_all : min (length work.ran.items) 18446744073709551615 ≡ plan.senders * plan.own
  ran_all = omega (arith, ap (length {A = ℕ}) (o.ended.ran_is ∙ ap (λ (l : Layout). items_among l (accepted book.seen)) size), accepted_all, few_items)

  few_own_events : (s : ℕ) (d : Known) → s < plan.senders → length (own (get_or senders s d).number (get_or senders s d).seen) < 2 ^ 64 - 1
  few_own_events s d lt =
      let at = sender_at s d lt in let now = get_or senders s d in
      let mine : own now.number now.seen ≡ own s now.seen = ap (λ (c : ℕ). own c now.seen) at.number_is in
      let all : own s now.seen ≡ queueings s (items_at s plan.own) = sym at.told ∙ was_queued plan.senders plan.own team.worker.layout book.seen is_race s lt in
      omega (
        arith,
        ap (length {A = Event}) mine,
        ap (length {A = Event}) all,
        length-queueings s (items_at s plan.own),
        length-range_with_len (s * plan.own) plan.own,
        few_own,
      )

  few_stops : length (own (plan.senders + 1) book.seen) ≤ 2 * 2 ^ 32
  few_stops =
      let c = plan.senders + 1 in
      omega (arith, ap (length {A = Event}) program_parts, length-append (own c book.seen) (own c later), o.run.few_stops)

  few_ended : length (ended book.seen) < 2 ^ 64 - 1
  few_ended =
      let n = plan.senders in let l = team.worker.layout in let h = book.seen in
      let size_is : l.senders ≡ n + 1 + 1 = omega (arith, o.run.layout.senders_is) in
      let pushes_is : count_by (is_queued_below (n + 1 + 1)) h ≡ count_by is_push h = subst
      (λ (k : ℕ). count_by (is_queued_below k) h ≡ count_by is_push h) size_is (below_all l h legal) in
      omega (
        arith,
        o.ended.complete.1,
        accepted-count h,
        is_race.shared.unchained,
        pushes_is,
        below_more (n + 1) h,
        below_more n h,
        below_counted n plan.own l h is_race n (omega arith),
        is_race.shared.unpushed,
        queued_own (n + 1) h,
        count_by-le-length (is_queued_by (n + 1)) (own (n + 1) h),
        few_stops,
        few_items,
      )

  -- the ledgers balance
  pub never_unbalanced : (fault : Unbalanced) → ¬ IsUnbalanced last ledgers fault
  never_unbalanced fault =
      let n = plan.senders in let heard = o.settled.heard in let all = o.settled.ledgers_are in
      let number : book.own.number ≡ n = o.ended.number_is ∙ (o.met.same.number_is ∙ o.run.number_is) in
      let few : last.layout.senders ≡ n + 2 = ap (λ (l : Layout). l.senders) (heard.layout_is ∙ size) ∙ o.run.layout.senders_is in
      let numbered : AreNumbered 0 senders = λ i d lt. let at : (get_or senders i d).number ≡ i = (sender_at i d (omega (
        arith,
        lt,
        senders_count,
      ))).number_is in omega (arith, at) in
      let mine = none_made book.seen book.own o.ended.made (subst (λ (c : ℕ). own c book.seen ≡ []) (sym number) is_race.unsent) in
      let one : (s : ℕ) → s < n → HasOne ledgers s = λ s lt. (
        ledger_of (get_or senders s nobody),
        ap (ledgers_of s) all ∙ one_ledger n s senders team.program nobody numbered senders_count o.run.program_number lt,
        whole_counts (get_or senders s nobody).number (get_or senders s nobody).seen (few_own_events s nobody lt),
      ) in
      let stopper : HasOne ledgers (n + 1) = (
        ledger_of team.program,
        ap (ledgers_of (n + 1)) all ∙ last_ledger n senders team.program numbered senders_count o.run.program_number,
        whole_counts team.program.number team.program.seen (omega (
          arith,
          ap (λ (c : ℕ). length (own c team.program.seen)) o.run.program_number,
          o.run.few_stops,
        )),
      ) in
      let ones : (s : ℕ) → s < last.layout.senders → s ≢ last.own.number → HasOne ledgers s = λ s lt not. elim (cases_lt s n) [
        | inl less ↦ one s less
        | inr ge ↦ let is : n + 1 ≡ s = omega (
          arith,
          lt,
          few,
          ge,
          λ (i : s ≡ n). not (i ∙ (sym number ∙ sym (ap (λ (l : LedgerState). l.number) heard.own_is))),
        ) in subst (HasOne ledgers) is stopper
      ] in
      let chains : count_by is_chain last.seen ≡ 0 = chains_same book.seen last.seen heard.untouched ∙ is_race.shared.unchained in
      let asks : count_by is_chain_busy last.seen ≡ 0 = asks_same book.seen last.seen heard.untouched
      ∙ (o.ended.quiet.unasked ∙ (asks_same team.worker.seen w.seen o.met.untouched ∙ o.run.unasked)) in
      let ends : length (ended last.seen) ≡ length (ended book.seen) = ap (length {A = ℕ}) (ended_same book.seen last.seen heard.untouched) in
      let owners : AreOwnerWhole (owner_counts last.seen) = (
        (λ is. omega (arith, is, chains)),
        (λ is. omega (arith, is, asks)),
        (λ is. omega (arith, is, ends, few_ended)),
      ) in
      always_balanced last ledgers ones (subst (λ (l : LedgerState). AreWhole l.counts) (sym heard.own_is) mine) owners fault

  -- what the book has seen since
  book_after : IsBookAfter team.worker book.seen last
  book_after = let heard = o.settled.heard in record {
    queue_is = heard.queue_is ∙ (o.ended.queue_is ∙ o.met.same.queue_is);
    layout_is = heard.layout_is ∙ size;
    number_is = ap (λ (l : LedgerState). l.number) heard.own_is ∙ (o.ended.number_is ∙ o.met.same.number_is);
    own_made = subst (IsLedgerOf book.seen) (sym heard.own_is) o.ended.made;
    heard = heard.begins;
    untouched = heard.untouched;
    legal = o.settled.legal;
    complete = o.settled.complete;
  }

  pub tells : (outcome : Outcome) → IsWhole plan outcome
      → MatchBool outcome.is_balanced ((totals : Totals) × Balances last ledgers totals) ((fault : Unbalanced) × IsUnbalanced last ledgers fault)
      → TellsOutcome plan team.worker last ledgers outcome
  tells outcome whole balanced = record {
    history = book.seen;
    begins = prefix_on team.worker.seen w.seen book.seen o.met.begins o.ended.quiet.begins;
    legal = legal;
    complete = o.ended.complete;
    queued = was_queued plan.senders plan.own team.worker.layout book.seen is_race;
    served = (team.worker.seen, prefix_on team.worker.seen w.seen book.seen o.met.begins o.ended.quiet.begins, o.run.unclosed, o.run.stopped);
    accepted_is = whole.accepted_is ∙ sym accepted_all;
    ran_is = whole.ran_is ∙ (sym accepted_all
        ∙ ap (λ (ks : List ℕ). length (items_among team.worker.layout ks)) (sym (all_ended team.worker.layout book.seen legal o.ended.complete)));
    book_after = book_after;
    made = o.settled.made;
    balanced = balanced;
  }
