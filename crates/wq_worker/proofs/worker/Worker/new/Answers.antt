use Rattle.wq_worker.proofs.Common.{sym, ap, ◌∙◌, arith, items_among}
use Rattle.wq_worker.proofs.Joined.{joined_grows, joined_begun, joined_idle, joined_open}
use Rattle.wq_worker.proofs.worker.Worker.new.Goals as goal

pub invariant_of-result : goal.invariant_of-result
invariant_of-result g c =
    let e = c.join-pair.ensures in let p = c.join-pair.result in record {
      legal = e.owner.legal;
      numbered = e.low;
      some_try = c.requires.tries;
      within = omega arith;
      logged = c.requires.unrun ∙ ap (items_among p.layout) (sym (joined_begun c.args.owner p e.owner c.requires.none_begun));
    }

pub returns-clause-owner : goal.returns-clause-owner
returns-clause-owner g c = joined_grows c.args.owner c.join-pair.result c.join-pair.ensures.owner

pub returns-clause-sender : goal.returns-clause-sender
returns-clause-sender g c = c.join-pair.ensures.sender.grows

pub returns-clause-legal : goal.returns-clause-legal
returns-clause-legal g c = c.join-pair.ensures.owner.legal

pub returns-clause-idle : goal.returns-clause-idle
returns-clause-idle g c = joined_idle c.args.owner c.join-pair.result c.join-pair.ensures.owner c.requires.none_begun

pub returns-clause-open : goal.returns-clause-open
returns-clause-open g c = joined_open c.args.owner c.join-pair.result c.join-pair.ensures.owner
