-- What came of one queue of a race over a pool.
use Rattle.std.specs.Prelude.{MatchResult, sum_by}
use Rattle.std.specs.declared.result.Result.{Result}
use Rattle.std.specs.declared.result.Result.TheVariants.{Ok, Err}
use Rattle.std.proofs.Common.{◌==◌, if◌then◌else◌}
use Rattle.wq_pool_plan.proofs.Common.{◌≡◌, ℕ, zero, suc, ◌+◌, ◌*◌, ◌^◌, ◌<◌, ◌≤◌, Bool, true, false, List, ◌++◌, length, take, get_or, refl, sym, ap, ◌∙◌}
use Rattle.wq_pool_plan.proofs.Common.{subst, arith, All, MatchBool, count_by, AllByRecursion, eqb-true, take_all, length-range_with_len, fold_more, Layout}
use Rattle.wq_pool_plan.proofs.Common.{Event, is_queued_by, is_chain, IsLegal, IsComplete, own, own-append, own_between, capped, sender_counts, Known}
use Rattle.wq_pool_plan.proofs.Common.{Unbalanced, BookState, IsLedgerOf, SendsAll, items_among, RunCounter, Outcome, Plan, HasHeard, AllKnown, IsTold, queued_sum}
use Rattle.wq_pool_plan.proofs.Common.{◌≢◌, [], ◌∷◌, map, inl, inr, cases_lt, own_room, LedgerState, ledger_of, AreWhole, HasOne, of_sender, of_worker}
use Rattle.wq_pool_plan.proofs.Common.{whole_counts, AreNumbered, one_ledger, last_ledger, no_fault}
use Rattle.wq_pool_plan.proofs.Common.{items_at, IsOfStop, all_front, all_ended, WorkerId, IsFinished, IsSent, is_push, accepted, ended, count_by-le-length}
use Rattle.wq_words.specs.Limits.{most_text_items}
use Rattle.wq_calls.proofs.Final.{final as stays_final}
use Rattle.wq_ledger.specs.declared.book.Ledger.{Ledger}
use Rattle.wq_ledger.specs.declared.balance.Unbalanced.TheVariants.{Saturated}
use Rattle.wq_ledger.specs.declared.totals.Totals.{Totals}
use Rattle.wq_ledger.specs.Balance.{Balances, IsUnbalanced}
use Rattle.wq_ledger.proofs.Pushes.{is_queued_below, below_more, below_none, below_all}
use Rattle.wq_race.proofs.Pushed.{IsShared, items_pushed}
use Rattle.wq_race.proofs.Whole.{queued_own}
use Rattle.wq_pool_plan.specs.Outcome.{QueueRun, IsQueueRun, accepted_items, ended_items, IsBalanced, IsFaulty, TellsRun, IsOutcomeOf}
use Rattle.wq_race.proofs.Counted.{all_few, counts_on, spare}

abbrev of_counts : Known → ℕ
of_counts x = (sender_counts x.number x.seen).queued

-- A queue that was taken apart, whose book has met the plan's senders twice and the program's: before the first of these
-- meetings, between both, and after all.
pub record IsDone (plan : Plan) (id : WorkerId) (work : RunCounter) (before book last : BookState) (olds news : List Known) (program : Known) : Type 0 where
  pub sent : IsSent plan id olds program
  pub finished : IsFinished {W = RunCounter} (λ w. w.ran.items) id (work, before)
  pub met : HasHeard before book
  pub known : AllKnown book.seen olds news
  pub legal : IsLegal book.layout book.seen
  pub complete : IsComplete book.seen
  pub own_made : IsLedgerOf book.seen book.own
  pub told : All (IsTold book.seen last.seen) news
  pub heard : HasHeard book last
  pub last_legal : IsLegal last.layout last.seen
  pub last_complete : IsComplete last.seen
  pub program_told : own program.number last.seen ≡ own program.number program.seen

module _ (plan : Plan) (id : WorkerId) (work : RunCounter) (before book last : BookState) (olds news : List Known) (program : Known)
    (o : IsDone plan id work before book last olds news program) where
  size : book.layout ≡ id.layout
  size = o.met.layout_is ∙ o.finished.layout_is

  legal : IsLegal id.layout book.seen
  legal = subst (λ (l : Layout). IsLegal l book.seen) size o.legal

  last_legal : IsLegal id.layout last.seen
  last_legal = subst (λ (l : Layout). IsLegal l last.seen) (o.heard.layout_is ∙ size) o.last_legal

  few_items : plan.senders * plan.own ≤ most_text_items
  few_items = plan.in_limits.few_items

  count : length news ≡ plan.senders
  count = o.known.count ∙ o.sent.count

  -- the history has just the events of each sender that it had seen itself
  mine : (s : ℕ) (x : Known) → s < plan.senders → (own s book.seen ≡ own s (get_or news s x).seen) × ((get_or news s x).number ≡ s)
  mine s x lt =
      let old = o.sent.each s x lt in let k = o.known.each s x (omega (arith, lt, o.sent.count)) in let now = get_or news s x in
      let number : now.number ≡ s = k.same.number_is ∙ old.number_is in
      let t = o.told s x (omega (arith, lt, count)) in (
        own_between s now.seen book.seen t.0 k.known t.1 (subst (λ (c : ℕ). own c t.0 ≡ own c now.seen) number t.3),
        number,
      )

  queued : (s : ℕ) → s < plan.senders → SendsAll s (items_at s plan.own) (own s book.seen)
  queued s lt =
      let old = o.sent.each s program lt in let k = o.known.each s program (omega (arith, lt, o.sent.count)) in
      let was = get_or olds s program in let now = get_or news s program in
      let kept : own s now.seen ≡ own s was.seen = subst (λ (c : ℕ). own c now.seen ≡ own c was.seen) old.number_is k.mine in
      subst (λ (es : List Event). SendsAll s (items_at s plan.own) es) (sym ((mine s program lt).0 ∙ kept)) old.queued

  -- what the plan's senders pushed is not much
  pushed_few : (c : ℕ) → c ≤ plan.senders → count_by (is_queued_below c) book.seen ≤ c * (2 * plan.own)
  pushed_few zero le = omega (arith, below_none book.seen)
  pushed_few (suc c) le =
      let one = all_few c (items_at c plan.own) (own c book.seen) (queued c (omega (arith, le))) in
      let next : c + 1 ≡ suc c = omega arith in
      let more : count_by (is_queued_below (suc c)) book.seen ≡ count_by (is_queued_below (c + 1)) book.seen =
      ap (λ (k : ℕ). count_by (is_queued_below k) book.seen) (sym next) in
      let step : suc c * (2 * plan.own) ≡ c * (2 * plan.own) + 2 * plan.own = omega arith in
      omega (
        arith,
        more,
        below_more c book.seen,
        pushed_few c (omega (arith, le)),
        queued_own c book.seen,
        count_by-le-length (is_queued_by c) (own c book.seen),
        one,
        length-range_with_len (c * plan.own) plan.own,
        step,
      )

  -- what they counted is no more than what they pushed
  counted : (c : ℕ) → c ≤ plan.senders → sum_by of_counts (take c news) ≤ count_by (is_queued_below c) book.seen
  counted zero le = omega arith
  counted (suc c) le =
      let lt : c < plan.senders = omega (arith, le) in let at = mine c program lt in let now = get_or news c program in
      let next : c + 1 ≡ suc c = omega arith in
      let more : count_by (is_queued_below (suc c)) book.seen ≡ count_by (is_queued_below (c + 1)) book.seen =
      ap (λ (k : ℕ). count_by (is_queued_below k) book.seen) (sym next) in
      let taken : sum_by of_counts (take (suc c) news) ≡ sum_by of_counts (take (c + 1) news) = ap (λ (k : ℕ). sum_by of_counts (take k news)) (sym next) in
      let one : of_counts now ≡ capped (count_by (is_queued_by c) now.seen) = ap (λ (k : ℕ). capped (count_by (is_queued_by k) now.seen)) at.1 in
      let same : count_by (is_queued_by c) now.seen ≡ count_by (is_queued_by c) book.seen = queued_own c now.seen
      ∙ (ap (count_by (is_queued_by c)) (sym at.0) ∙ sym (queued_own c book.seen)) in
      omega (
        arith,
        more,
        taken,
        fold_more (λ (a : ℕ) (x : Known). a + of_counts x) 0 news c program (omega (arith, lt, count)),
        below_more c book.seen,
        counted c (omega (arith, le)),
        one,
        same,
      )

  counted_all : queued_sum news ≤ count_by (is_queued_below plan.senders) book.seen
  counted_all =
      let whole : take plan.senders news ≡ news = take_all plan.senders news (omega (arith, count)) in
      omega (arith, ap (sum_by of_counts) whole, counted plan.senders (omega arith))

  pub few : queued_sum news < 2 ^ 64
  few =
      let product : plan.senders * (2 * plan.own) ≡ 2 * (plan.senders * plan.own) = omega arith in
      omega (arith, counted_all, pushed_few plan.senders (omega arith), product, few_items)

  -- where as much was executed as the senders and the program counted, nobody else queued
  pub nobody_else : (ledgers : List Ledger) (totals : Totals) → Balances last ledgers totals
      → totals.executed ≡ queued_sum news + capped (count_by (is_queued_by program.number) program.seen)
      → queued_sum news ≡ length (items_among id.layout (accepted book.seen))
  nobody_else ledgers totals b all =
      let n = plan.senders in let h = book.seen in let w = last.seen in let begins = o.heard.begins in
      let number = o.sent.program_number in
      let stops : count_by (is_queued_by (n + 1)) program.seen ≡ count_by (is_queued_by (n + 1)) w = queued_own (n + 1) program.seen
      ∙ (ap (count_by (is_queued_by (n + 1))) (sym (subst (λ (c : ℕ). own c w ≡ own c program.seen) number o.program_told))
      ∙ sym (queued_own (n + 1) w)) in
      let counted_stops : count_by (is_queued_by program.number) program.seen ≡ count_by (is_queued_by (n + 1)) program.seen =
      ap (λ (c : ℕ). count_by (is_queued_by c) program.seen) number in
      let seats : id.layout.senders ≡ n + 1 + 1 = omega (arith, o.sent.sized.senders_is) in
      let pushes : count_by (is_queued_below (n + 1 + 1)) w ≡ count_by is_push w = subst
      (λ (k : ℕ). count_by (is_queued_below k) w ≡ count_by is_push w) seats (below_all id.layout w last_legal) in
      let below = counts_on (is_queued_below n) h w begins in let own_pushes = counts_on (is_queued_by n) h w begins in
      let chains = counts_on is_chain h w begins in
      let just = spare (count_by is_push w) (count_by is_chain w) totals.executed (queued_sum news) (count_by (is_queued_below n) w)
      (count_by (is_queued_by n) w) (count_by (is_queued_by (n + 1)) w) (count_by (is_queued_below n) h) (omega (arith, all, stops, counted_stops)) (omega (
        arith,
        b.balance,
        b.queued_is,
        b.chained_is,
      )) (omega (arith, pushes, below_more (n + 1) w, below_more n w)) counted_all below in
      let of_stop : AllByRecursion (IsOfStop id.layout) (own (n + 1) h) = all_front (IsOfStop id.layout) (own (n + 1) h) (own (n + 1) begins.0)
      (subst (AllByRecursion (IsOfStop id.layout)) (sym (sym (own-append (n + 1) h begins.0) ∙ (ap (own (n + 1)) begins.1
      ∙ subst (λ (c : ℕ). own c w ≡ own c program.seen) number o.program_told))) o.sent.stops) in
      let shared : IsShared n plan.own id.layout h = record {
        sized = o.sent.sized;
        legal = legal;
        queued = queued;
        unpushed = omega (arith, own_pushes, just.0);
        unchained = omega (arith, chains, just.1);
        stops = of_stop;
      } in
      just.2 ∙ sym (items_pushed n plan.own id.layout h shared)

  ended_all : ended book.seen ≡ accepted book.seen
  ended_all = all_ended id.layout book.seen legal o.complete

  -- what was accepted before the meetings is what was accepted
  accepted_same : accepted book.seen ≡ accepted before.seen
  accepted_same =
      let more = o.met.begins in let done : IsLegal id.layout (before.seen ++ more.0) = subst (IsLegal id.layout) (sym more.1) legal in
      ap accepted (sym more.1) ∙ (stays_final id.layout before.seen o.finished.complete more.0 done).0

  -- the worker's own sender is not among those whose ledgers are made
  own_number : last.own.number ≡ plan.senders
  own_number = ap (λ (l : LedgerState). l.number) (o.heard.own_is ∙ o.met.own_is) ∙ (o.finished.number_is ∙ o.sent.number_is)

  book_layout : last.layout ≡ id.layout
  book_layout = o.heard.layout_is ∙ size

  numbered : AreNumbered 0 news
  numbered i d lt = let at : (get_or news i d).number ≡ i = (mine i d (omega (arith, lt, count))).1 in omega (arith, at)

  -- they made too few events to saturate a count
  whole_of : (s : ℕ) → s < plan.senders → AreWhole (ledger_of (get_or news s program)).counts
  whole_of s lt =
      let x = get_or news s program in let at = mine s program lt in
      let same : own x.number x.seen ≡ own s book.seen = ap (λ (c : ℕ). own c x.seen) at.1 ∙ sym at.0 in
      whole_counts x.number x.seen (omega (
        arith,
        ap (length {A = Event}) same,
        all_few s (items_at s plan.own) (own s book.seen) (queued s lt),
        length-range_with_len (s * plan.own) plan.own,
        own_room s plan.senders plan.own lt,
        few_items,
      ))

  program_whole : AreWhole (ledger_of program).counts
  program_whole = whole_counts program.number program.seen (omega (
    arith,
    ap (λ (c : ℕ). length (own c program.seen)) o.sent.program_number,
    o.sent.few_stops,
  ))

  abbrev all_ledgers : List LedgerState
  all_ledgers = map ledger_of news ++ ledger_of program ∷ []

  has_one : (s : ℕ) → s < last.layout.senders → s ≢ last.own.number → HasOne all_ledgers s
  has_one s lt not = elim (cases_lt s plan.senders) [
    | inl low ↦ (
      ledger_of (get_or news s program),
      one_ledger plan.senders s news program program numbered count o.sent.program_number low,
      whole_of s low,
    )
    | inr ge ↦
        let seats : last.layout.senders ≡ plan.senders + 2 = ap (λ (l : Layout). l.senders) book_layout ∙ o.sent.sized.senders_is in
        let at : s ≡ plan.senders + 1 = elim (cases_lt plan.senders s) [
          | inl more ↦ omega (arith, more, lt, seats)
          | inr le ↦ absurd (not (omega (arith, ge, le, own_number)))
        ] in
        subst (HasOne all_ledgers) (sym at) (
          ledger_of program,
          last_ledger plan.senders news program numbered count o.sent.program_number,
          program_whole,
        )
  ]

  -- no fault but of the worker's two seats
  only_worker : (ledgers : List Ledger) (fault : Unbalanced) → ledgers ≡ all_ledgers → IsUnbalanced last ledgers fault
      → IsUnbalanced last ledgers (Saturated last.own.number)
  only_worker ledgers fault are (of_sender f) =
      let one : HasOne ledgers f.0 = subst (λ (ls : List LedgerState). HasOne ls f.0) (sym are) (has_one f.0 f.1 f.2) in
      absurd (no_fault ledgers f.0 fault one f.4)
  only_worker ledgers fault are (of_worker have not is) = of_worker have not refl

  abbrev pub run : List Ledger → QueueRun
  run ledgers = record { layout = id.layout; history = book.seen; book = last; ledgers = ledgers }

  pub same_items : (ledgers : List Ledger) → accepted_items (run ledgers) ≡ ended_items (run ledgers)
  same_items ledgers = ap (λ (ks : List ℕ). capped (length (items_among id.layout ks))) (sym ended_all)

  pub ran_items : (ledgers : List Ledger) → capped (length work.ran.items) ≡ ended_items (run ledgers)
  ran_items ledgers = ap (λ (ks : List ℕ). capped (length ks)) (o.finished.ran_accepted
      ∙ (ap (λ (l : Layout). items_among l (accepted before.seen)) o.finished.layout_is ∙ ap (items_among id.layout) (sym (ended_all ∙ accepted_same))))

  pub is_run : (ledgers : List Ledger) → All (IsLedgerOf last.seen) ledgers → ledgers ≡ all_ledgers → IsQueueRun plan (run ledgers)
  is_run ledgers made are = record {
    sized = o.sent.sized;
    legal = legal;
    complete = o.complete;
    queued = queued;
    heard = o.heard.begins;
    book_layout = book_layout;
    book_legal = o.last_legal;
    book_complete = o.last_complete;
    book_untouched = o.heard.untouched;
    own_number = own_number;
    own_made = subst (IsLedgerOf book.seen) (sym o.heard.own_is) o.own_made;
    made = made;
    one_each = λ s lt not. subst (λ (ls : List LedgerState). HasOne ls s) (sym are)
        (has_one s (omega (arith, lt, ap (λ (l : Layout). l.senders) book_layout)) not);
  }

  -- the outcome, by what the book answers
  pub tells_run : (ledgers : List Ledger) (balance : Result Totals Unbalanced) (sum stops ran : ℕ) (outcome : Outcome) → sum ≡ queued_sum news
      → stops ≡ capped (count_by (is_queued_by program.number) program.seen) → ran ≡ capped (length work.ran.items) → ledgers ≡ all_ledgers
      → MatchResult balance (Balances last ledgers) (IsUnbalanced last ledgers) → IsOutcomeOf balance sum stops ran outcome
      → TellsRun (run ledgers) outcome
  tells_run ledgers (Err fault) sum stops ran outcome sum_is stops_is ran_is are told made = record {
    accepted_is = made.2 ∙ (ran_is ∙ (ran_items ledgers ∙ sym (same_items ledgers)));
    ran_is = made.1 ∙ (ran_is ∙ ran_items ledgers);
    balanced = subst (λ (b : Bool). MatchBool b (IsBalanced (run ledgers)) (IsFaulty (run ledgers))) (sym made.0) (only_worker ledgers fault are told);
  }
  tells_run ledgers (Ok totals) sum stops ran outcome sum_is stops_is ran_is are told made = record {
    accepted_is = made.2 ∙ chosen (totals.executed == sum + stops) refl;
    ran_is = made.1 ∙ (ran_is ∙ ran_items ledgers);
    balanced = subst (λ (b : Bool). MatchBool b (IsBalanced (run ledgers)) (IsFaulty (run ledgers))) (sym made.0) (totals, told);
  }
    where
      chosen : (b : Bool) → (totals.executed == sum + stops) ≡ b → (if b then sum else ran) ≡ accepted_items (run ledgers)
      chosen true is =
          let all : totals.executed ≡ queued_sum news + capped (count_by (is_queued_by program.number) program.seen) = eqb-true totals.executed (sum + stops) is
          ∙ (λ i. sum_is i + stops_is i) in
          let nobody = nobody_else ledgers totals told all in
          omega (arith, sum_is, nobody, few)
      chosen false is = ran_is ∙ (ran_items ledgers ∙ sym (same_items ledgers))
