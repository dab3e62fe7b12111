use Rattle.test_queues.proofs.balance.balance_values_met.Goals as goal

pub balance_value_pair-requires : goal.balance_value_pair-requires
balance_value_pair-requires g c = (c.meet-other.ensures.kept _ c.meet-one.ensures.made, c.meet-other.ensures.made)
