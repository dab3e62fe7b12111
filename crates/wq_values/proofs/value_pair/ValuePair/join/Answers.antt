use Rattle.wq_values.proofs.ValuePaired.{values_join, owner_join_sees, sender_join_sees, low_join, owner_join_learnt, sender_join_learnt, join_handed}
use Rattle.wq_calls.proofs.OwnerStays.{still_owned}
use Rattle.wq_values.proofs.Common.{ap, sym, KnownWith}
use Rattle.wq_values.proofs.value_pair.ValuePair.join.Goals as goal

pub invariant_of-result : goal.invariant_of-result
invariant_of-result g c = let o = c.owner in let s = c.sender in
    values_join o.inside s.inside c.join.result o.invariant s.invariant c.args.owner c.args.sender o.view_is s.view_is c.requires.one c.join.ensures.joined

pub returns-clause-owner : goal.returns-clause-owner
returns-clause-owner g c = let o = c.owner in let s = c.sender in
    owner_join_sees o.inside s.inside c.join.result o.invariant s.invariant c.args.owner c.args.sender o.view_is s.view_is c.requires.one c.join.ensures.joined

pub returns-clause-sender : goal.returns-clause-sender
returns-clause-sender g c = let o = c.owner in let s = c.sender in
    sender_join_sees o.inside s.inside c.join.result o.invariant s.invariant c.args.owner c.args.sender o.view_is s.view_is c.requires.one c.join.ensures.joined

pub returns-clause-handed : goal.returns-clause-handed
returns-clause-handed g c = let o = c.owner in let s = c.sender in
    join_handed o.inside s.inside c.join.result o.invariant s.invariant c.args.owner c.args.sender o.view_is s.view_is c.requires.one c.join.ensures.joined

pub returns-clause-low : goal.returns-clause-low
returns-clause-low g c = let o = c.owner in let s = c.sender in
    low_join o.inside s.inside c.join.result o.invariant s.invariant c.args.owner c.args.sender o.view_is s.view_is c.requires.one c.join.ensures.joined

pub returns-clause-learnt : goal.returns-clause-learnt
returns-clause-learnt g c = let o = c.owner in let s = c.sender in (
  owner_join_learnt o.inside s.inside c.join.result o.invariant s.invariant c.args.owner c.args.sender o.view_is s.view_is c.requires.one
      c.join.ensures.joined,
  sender_join_learnt o.inside s.inside c.join.result o.invariant s.invariant c.args.owner c.args.sender o.view_is s.view_is c.requires.one
      c.join.ensures.joined,
)

pub returns-clause-owned : goal.returns-clause-owned
returns-clause-owned g c =
    let mine = sym (ap (λ (v : KnownWith g.row.V.Denot). v.known.number) c.owner.view_is) in
    still_owned 0 c.args.owner.known _ mine (returns-clause-owner g c)
