use Rattle.test_queues.proofs.balance.balance_met.Goals as goal

pub balance_pair-requires : goal.balance_pair-requires
balance_pair-requires c = (c.meet-other.ensures.kept _ c.meet-one.ensures.made, c.meet-other.ensures.made)
