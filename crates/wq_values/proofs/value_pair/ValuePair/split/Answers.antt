use Rattle.std.proofs.lemmas.List.{length-map}
use Rattle.wq_values.proofs.Common.{length, sym, ap, ◌∙◌, ValuePart}
use Rattle.wq_values.proofs.ValuePaired.{split_owner, split_owner_is, split_sender, split_sender_is}
use Rattle.wq_values.proofs.value_pair.ValuePair.split.Goals as goal

pub split-first-requires : goal.split-first-requires
split-first-requires g c = record {
  two = sym (length-map c.self.inside.seat.chair.others (λ (t : ValuePart g.row.V.Denot). t.part)) ∙ ap length c.self.invariant.seated.two;
}

pub invariant_of-owner : goal.invariant_of-owner
invariant_of-owner g c = split_owner c.self.inside c.self.invariant c.split-first.result.0 c.split-first.ensures.first

pub invariant_of-sender : goal.invariant_of-sender
invariant_of-sender g c = split_sender c.self.inside c.self.invariant c.split-first.result.1 c.split-first.ensures.second

pub returns : goal.returns
returns g c = let s = c.self.inside in let both = c.split-first in record {
  owner = split_owner_is s c.self.invariant both.result.0 both.ensures.first c.args.self c.self.view_is;
  sender = split_sender_is s c.self.invariant both.result.1 both.ensures.second c.args.self c.self.view_is;
}
