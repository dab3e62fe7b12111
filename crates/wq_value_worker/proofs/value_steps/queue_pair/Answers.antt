use Rattle.wq_value_worker.proofs.Common.{◌≡◌, ◌<◌, ◌≤◌, true, false, sym, ap, ◌∙◌, subst, arith, Layout, shut}
use Rattle.wq_value_worker.specs.declared.value_steps.Dealt.{Dealt}
use Rattle.wq_value_worker.specs.Dealt.{BothDeal}
use Rattle.wq_value_worker.proofs.Dealt.{dealt_passed, dealt_chain, dealt_send}
use Rattle.wq_value_worker.proofs.value_steps.queue_pair.Goals as goal

pub returns-then-item-layout : goal.returns-then-item-layout
returns-then-item-layout g c =
    let a = c.args.seats.now in
    let size : c.layout.result.items ≡ a.known.layout.items = ap (λ (l : Layout). l.items) c.layout.ensures.layout in
    let high : a.known.layout.items ≤ c.args.item = omega arith in
    record { deals = dealt_passed c.args.item c.args.value c.args.tries a high c.layout.ensures.legal }

pub returns-then-is_shut : goal.returns-then-is_shut
returns-then-is_shut g c =
    let a = c.args.seats.now in let b = c.chain_value.new.self in let e = c.chain_value.ensures in
    let size : c.layout.result.items ≡ a.known.layout.items = ap (λ (l : Layout). l.items) c.layout.ensures.layout in
    let low : c.args.item < a.known.layout.items = omega arith in let is_shut : shut a.known.seen ≡ true = sym c.is_shut.ensures.shut ∙ c.if-is_shut.true in
    record {
      deals = subst (λ (d : Dealt g.row.V.Denot). BothDeal c.args.item c.args.value c.args.tries d a b) (sym c.of.ensures)
          (dealt_chain c.args.item c.args.value c.args.tries c.chain_value.result a b low is_shut e.answer e.value
          (record { learnt = e.learnt; handed_same = e.handed }) e.others);
    }

pub returns : goal.returns
returns g c =
    let a = c.args.seats.now in let b = c.queue_value.new.self in let e = c.queue_value.ensures in
    let size : c.layout.result.items ≡ a.known.layout.items = ap (λ (l : Layout). l.items) c.layout.ensures.layout in
    let low : c.args.item < a.known.layout.items = omega arith in let opens : shut a.known.seen ≡ false = sym c.is_shut.ensures.shut ∙ c.if-is_shut.false in
    record {
      deals = subst (λ (d : Dealt g.row.V.Denot). BothDeal c.args.item c.args.value c.args.tries d a b) (sym c.of-2.ensures)
          (dealt_send c.args.item c.args.value c.args.tries c.queue_value.result a b low opens e.answer e.value
          (record { learnt = e.learnt; handed_same = e.handed }) e.others e.contended);
    }
