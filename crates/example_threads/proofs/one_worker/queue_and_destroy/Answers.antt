use Rattle.std.proofs.Common.{◌≡◌, Some, sym, ◌∙◌}
use Rattle.std.proofs.lemmas.List.Elements.{All-pop}
use Rattle.wq_live.specs.Known.{Known}
use Rattle.wq_worker.specs.State.{items_among}
use Rattle.example_threads.proofs.one_worker.queue_and_destroy.Goals as goal

pub meet-ledger-requires : goal.meet-ledger-requires
meet-ledger-requires c =
    let of_worker = All-pop (λ (s : Known). s.queue ≡ c.in-Ok.worker.queue) c.in-Ok.senders.items c.pop.new.self.items (Some c.in-Some.sender)
    c.in-Some.ensures.items c.in-Ok.ensures.one in
    c.queue_tries-2.ensures.same.queue_is ∙ (c.queue_tries.ensures.same.queue_is ∙ (of_worker.1 ∙ sym c.in-Ok-destroy.ensures.outcome.queue_is))

pub returns : goal.returns
returns c = let destroyed = c.in-Ok-destroy.ensures.outcome in let met = c.meet-ledger.ensures in let of_book = c.legal.ensures in record {
  layout = met.same.1 ∙ (destroyed.layout_is ∙ c.in-Ok.ensures.worker.layout_is);
  legal = of_book.legal;
  complete = of_book.complete;
  ran = destroyed.ran_accepted ∙ (λ i. items_among (sym met.same.1 i) (sym met.last.accepted_is i));
  ledger = met.made;
}
