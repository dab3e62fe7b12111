use Rattle.wq_value_worker.proofs.Common.{ℕ, List, refl, sym, ap, ◌∙◌, handed_in, owner_of, pairs_of, numbers_in}
use Rattle.wq_worker.proofs.Joined.{joined_grows, joined_begun, joined_idle, joined_open}
use Rattle.wq_value_worker.proofs.value_worker.ValueWorker.new.Goals as goal

pub invariant_of-result : goal.invariant_of-result
invariant_of-result g c =
    let e = c.join-pair.ensures in let p = c.join-pair.result in record {
      legal = e.owner.legal;
      numbered = e.low;
      some_try = c.requires.tries;
      whole = e.learnt.0.as_many;
      logged = c.requires.unrun ∙ ap (λ (ks : List ℕ). pairs_of ks (handed_in (owner_of p)))
          (sym (joined_begun c.args.owner.known p.known e.owner c.requires.none_begun));
    }

pub returns : goal.returns
returns g c =
    let e = c.join-pair.ensures in let p = c.join-pair.result in let o = c.args.owner.known in let none = c.new.ensures.none in record {
      parts = (e.owner.same.queue_is, e.owner.same.layout_is, e.sender.same.number_is, refl, ap (λ ps. numbers_in ps) none, refl);
      unqueued = none;
      owner = joined_grows o p.known e.owner;
      sender = e.sender.grows;
      learnt = e.learnt;
      legal = e.owner.legal;
      idle = joined_idle o p.known e.owner c.requires.none_begun;
      «open» = joined_open o p.known e.owner;
    }
