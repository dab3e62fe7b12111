use Rattle.wq_live.proofs.Common.{List, length, sym, ap, ◌∙◌, Bare}
use Rattle.std.proofs.lemmas.List.{length-map}
use Rattle.wq_table.specs.declared.table.Part.{Part}
use Rattle.wq_table.specs.declared.values.ValuePart.{ValuePart}
use Rattle.wq_live.proofs.PlainPaired.{owner_parts, owner_parts_view, sender_parts, sender_parts_view}
use Rattle.wq_live.proofs.pair.Pair.split.Goals as goal

pub split-first-requires : goal.split-first-requires
split-first-requires c = record {
  two = sym (length-map c.self.inside.seat.chair.others (λ (t : ValuePart Bare). t.part))
      ∙ ap (λ (ps : List Part). length ps) c.self.invariant.seated.two;
}

pub invariant_of-owner : goal.invariant_of-owner
invariant_of-owner c = owner_parts c.self.inside c.self.invariant c.split-first.result.0 c.split-first.ensures.first

pub invariant_of-sender : goal.invariant_of-sender
invariant_of-sender c = sender_parts c.self.inside c.self.invariant c.split-first.result.1 c.split-first.ensures.second

pub returns : goal.returns
returns c = let s = c.self.inside in let e = c.split-first.ensures in record {
  owner = owner_parts_view s c.self.invariant c.split-first.result.0 e.first c.args.self c.self.view_is;
  sender = sender_parts_view s c.self.invariant c.split-first.result.1 e.second c.args.self c.self.view_is;
}
