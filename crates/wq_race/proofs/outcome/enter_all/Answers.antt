use Rattle.wq_race.proofs.Common.{List, [], ◌∷◌, ◌++◌, map, length, sym, ap, subst, ◌∙◌, arith, All, map-append, map-id, All-push, YieldsList-from_vec}
use Rattle.wq_race.proofs.Common.{YieldsList-turn, YieldsList-end, Known, LedgerState, IsTold, ledger_of, prefix_self}
use Rattle.wq_race.proofs.Booking.{heard_still, heard_on, told_on}
use Rattle.wq_race.proofs.outcome.enter_all.Goals as goal

pub loop-sender-init : goal.loop-sender-init
loop-sender-init c = record {
  book = heard_still c.args.book.now;
  made = λ k d lt. absurd (omega (arith, lt, ap length c.requires.none));
  ledgers = c.requires.none;
  told = λ k d lt. absurd (omega (arith, lt));
}

pub enter-requires-clause-one : goal.enter-requires-clause-one
enter-requires-clause-one c =
    let i = c.into_iter-sender-iterator.ensures.into_iter_gives in let l = c.loop-sender in
    let turn = YieldsList-turn (YieldsList-from_vec {s = c.into_iter-sender-iterator.result} c.args.senders.items i.0 (i.1
    ∙ c.args.senders.ok.0)) l.yielded l.sender-iterator l.yielded_by c.next.result c.next.new.self c.in-Some.sender c.in-Some.is c.next.ensures.steps in
    ap (λ (s : Known). s.queue) turn.1 ∙ (c.requires.one (length l.yielded) c.in-Some.sender turn.0 ∙ sym l.invariant.book.queue_is)

pub loop-sender-preserved : goal.loop-sender-preserved
loop-sender-preserved c =
    let l = c.loop-sender in let s = c.in-Some.sender in let e = c.enter.ensures in
    let old = c.args.book.now.seen in let now = c.enter.new.book.seen in
    let heard = heard_on c.args.book.now l.book c.enter.new.book l.invariant.book e.book in
    record {
      book = heard;
      made = c.in_ok-enter.ensures.made;
      ledgers = c.in_ok-enter.ensures.ledger
          ∙ (ap (λ (ls : List LedgerState). ls ++ ledger_of s ∷ []) l.invariant.ledgers ∙ sym (map-append ledger_of l.yielded (s ∷ [])));
      told = All-push (IsTold old now) l.yielded s (told_on old l.book.seen now l.yielded e.book.begins l.invariant.told)
          (now, heard.begins, prefix_self now, e.told);
    }

pub returns-in_err-enter-clause-book : goal.returns-in_err-enter-clause-book
returns-in_err-enter-clause-book c = heard_on c.args.book.now c.loop-sender.book c.enter.new.book c.loop-sender.invariant.book c.enter.ensures.book

pub returns-clause-ledgers : goal.returns-clause-ledgers
returns-clause-ledgers c =
    let i = c.into_iter-sender-iterator.ensures.into_iter_gives in let l = c.loop-sender in
    let all = YieldsList-end (YieldsList-from_vec {s = c.into_iter-sender-iterator.result} c.args.senders.items i.0 (i.1
    ∙ c.args.senders.ok.0)) l.yielded l.sender-iterator l.yielded_by c.next.result c.next.new.self c.in-None.is c.next.ensures.steps in
    l.invariant.ledgers ∙ ap (λ (xs : List Known). map ledger_of xs) (sym (map-id l.yielded) ∙ all.0)

pub returns-clause-told : goal.returns-clause-told
returns-clause-told c =
    let i = c.into_iter-sender-iterator.ensures.into_iter_gives in let l = c.loop-sender in
    let all = YieldsList-end (YieldsList-from_vec {s = c.into_iter-sender-iterator.result} c.args.senders.items i.0 (i.1
    ∙ c.args.senders.ok.0)) l.yielded l.sender-iterator l.yielded_by c.next.result c.next.new.self c.in-None.is c.next.ensures.steps in
    subst (All (IsTold c.args.book.now.seen l.book.seen)) (sym (map-id l.yielded) ∙ all.0) l.invariant.told
