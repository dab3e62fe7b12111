use Rattle.wq_race.proofs.Common.{length, ap, arith, refl, ◌∙◌, Known, length-new_senders}
use Rattle.wq_race.proofs.Made.{length-last, shared, new_team}
use Rattle.wq_race.proofs.team.Team.new.Goals as goal

pub take_last-program-requires : goal.take_last-program-requires
take_last-program-requires c =
    let l = c.layout.result in let q = c.in_ok-owner.owner.queue in
    omega (arith, ap length c.in_ok-owner.ensures.made.1, length-new_senders q l l.senders, c.layout.ensures.size.senders_is)

pub take_last-own-requires : goal.take_last-own-requires
take_last-own-requires c =
    let l = c.layout.result in let q = c.in_ok-owner.owner.queue in
    omega (
      arith,
      length-last c.in_ok-owner.senders.items c.take_last-program.new.senders.items c.take_last-program.result _ (ap length c.in_ok-owner.ensures.made.1
          ∙ length-new_senders q l l.senders) c.take_last-program.ensures,
      c.layout.ensures.size.senders_is,
    )

pub new-requires-2-clause-one : goal.new-requires-2-clause-one
new-requires-2-clause-one c =
    let l = c.layout.result in let q = c.in_ok-owner.owner.queue in
    let s = shared q l c.args.plan.senders _ _ _ _ _ c.layout.ensures.size.senders_is c.in_ok-owner.ensures.made.1
    c.take_last-program.ensures c.take_last-own.ensures in
    ap (λ (k : Known). k.queue) s.own_is

pub returns : goal.returns
returns c =
    let l = c.layout.result in let o = c.in_ok-owner.owner in let made = c.new-2.ensures in
    let s = shared o.queue l c.args.plan.senders _ _ _ _ _ c.layout.ensures.size.senders_is c.in_ok-owner.ensures.made.1
    c.take_last-program.ensures c.take_last-own.ensures in
    let unrun = ap (λ w. w.ran.items) made.parts.5 ∙ c.new.ensures.none in
    record {
      made = new_team c.args.plan l o _ _ _ _ c.layout.ensures.size c.in_ok-owner.ensures.made.0 s refl refl made.parts.0
          made.parts.1 made.parts.2 unrun made.owner made.sender made.legal;
    }
