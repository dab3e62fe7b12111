use Rattle.wq_live.proofs.Common.{ap, ◌∙◌, TableId}
use Rattle.wq_calls.proofs.InOneSeat.{joins, owner_joins, sender_joins, low_joins}
use Rattle.wq_calls.proofs.OwnerStays.{still_owned}
use Rattle.wq_live.proofs.Common.{Known, sym}
use Rattle.wq_live.proofs.pair.Pair.join.Goals as goal

pub invariant_of-result : goal.invariant_of-result
invariant_of-result c = let o = c.owner.invariant in let s = c.sender.invariant in record {
  seated = joins c.owner.inside.seat c.sender.inside.chair c.join.result c.sender.inside.sent o.owns s.sends s.alone c.args.owner c.args.sender
      c.owner.view_is c.sender.view_is c.requires.one c.join.ensures.joined;
  bare = ap (λ (q : TableId). q.slots) c.join.ensures.joined.queue_is ∙ o.bare;
}

pub returns-clause-owner : goal.returns-clause-owner
returns-clause-owner c = let o = c.owner.invariant in let s = c.sender.invariant in
    owner_joins c.owner.inside.seat c.sender.inside.chair c.join.result c.sender.inside.sent o.owns s.sends s.alone c.args.owner c.args.sender
    c.owner.view_is c.sender.view_is c.requires.one c.join.ensures.joined

pub returns-clause-sender : goal.returns-clause-sender
returns-clause-sender c = let o = c.owner.invariant in let s = c.sender.invariant in
    sender_joins c.owner.inside.seat c.sender.inside.chair c.join.result c.sender.inside.sent o.owns s.sends s.alone c.args.owner c.args.sender
    c.owner.view_is c.sender.view_is c.requires.one c.join.ensures.joined

pub returns-clause-low : goal.returns-clause-low
returns-clause-low c = let o = c.owner.invariant in let s = c.sender.invariant in
    low_joins c.owner.inside.seat c.sender.inside.chair c.join.result c.sender.inside.sent o.owns s.sends s.alone c.args.owner c.args.sender
    c.owner.view_is c.sender.view_is c.requires.one c.join.ensures.joined

pub returns-clause-owned : goal.returns-clause-owned
returns-clause-owned c = still_owned 0 c.args.owner _ (sym (ap (λ (v : Known). v.number) c.owner.view_is)) (returns-clause-owner c)
