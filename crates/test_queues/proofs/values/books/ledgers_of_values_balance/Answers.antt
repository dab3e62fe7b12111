use Rattle.test_queues.proofs.values.books.ledgers_of_values_balance.Goals as goal

pub balance_some-missing-requires : goal.balance_some-missing-requires
balance_some-missing-requires g c = (c.meet-second.ensures.kept _ c.meet-first.ensures.made, c.meet-second.ensures.made)
