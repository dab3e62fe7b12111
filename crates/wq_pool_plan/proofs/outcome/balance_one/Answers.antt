use Rattle.wq_pool_plan.proofs.Common.{◌≡◌, ℕ, ◌^◌, ◌<◌, ◌∙◌, sym, ap, subst, queued_sum}
use Rattle.wq_calls.specs.declared.counts.SenderCounts.{SenderCounts}
use Rattle.wq_pool_plan.proofs.Done.{IsDone, few, run, is_run, tells_run}
use Rattle.wq_pool_plan.proofs.outcome.balance_one.Goals as goal

pub outcome_of-requires : goal.outcome_of-requires
outcome_of-requires c =
    let book = c.meet_all.new.book in let answer = c.in_ok-balance.ensures in let last = answer.last in
    let news = c.meet_all.new.senders.items in let r = c.requires in
    let done : IsDone r.0 r.1 c.args.work c.args.book book last c.args.group.senders.items news c.args.program = record {
      sent = r.3;
      finished = r.2;
      met = c.meet_all.ensures.book;
      known = c.meet_all.ensures.senders;
      legal = c.legal.ensures.legal;
      complete = c.legal.ensures.complete;
      own_made = c.legal.ensures.own_ledger;
      told = answer.told;
      heard = answer.heard;
      last_legal = answer.legal;
      last_complete = answer.complete;
      program_told = answer.program_told;
    } in
    let sum : c.queued_by-queued.result ≡ queued_sum news = c.queued_by-queued.ensures.sum ∙ ap queued_sum c.deref.ensures.value in
    subst (λ (k : ℕ). k < 2 ^ 64) (sym sum) (few r.0 r.1 c.args.work c.args.book book last c.args.group.senders.items news c.args.program done)

pub returns : goal.returns
returns c = λ plan id finished sent.
    let book = c.meet_all.new.book in let answer = c.in_ok-balance.ensures in let last = answer.last in
    let olds = c.args.group.senders.items in let news = c.meet_all.new.senders.items in let work = c.args.work in let program = c.args.program in
    let done : IsDone plan id work c.args.book book last olds news program = record {
      sent = sent;
      finished = finished;
      met = c.meet_all.ensures.book;
      known = c.meet_all.ensures.senders;
      legal = c.legal.ensures.legal;
      complete = c.legal.ensures.complete;
      own_made = c.legal.ensures.own_ledger;
      told = answer.told;
      heard = answer.heard;
      last_legal = answer.legal;
      last_complete = answer.complete;
      program_told = answer.program_told;
    } in
    let sum : c.queued_by-queued.result ≡ queued_sum news = c.queued_by-queued.ensures.sum ∙ ap queued_sum c.deref.ensures.value in (
      run plan id work c.args.book book last olds news program done answer.ledgers,
      is_run plan id work c.args.book book last olds news program done answer.ledgers answer.made answer.ledgers_are,
      tells_run plan id work c.args.book book last olds news program done answer.ledgers c.in_ok-balance.balance c.queued_by-queued.result
          c.counts-stops.result.queued c.count-ran.result c.outcome_of.result sum (ap (λ (k : SenderCounts). k.queued) c.counts-stops.ensures.counted)
          c.count-ran.ensures.ran answer.ledgers_are answer.outcome c.outcome_of.ensures,
    )
