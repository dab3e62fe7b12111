use Rattle.wq_text.proofs.Common.{◌<◌, ◌∷◌, [], length, arith, ap, ◌∙◌, err_from_is_err_and, All-append, All-nil, item}
use Rattle.wq_text.proofs.Sound.{all_one}
use Rattle.wq_text.proofs.FollowItems.{behind-nothing, behind-more, behind-fails, behind-all}
use Rattle.wq_text.proofs.arguments.items.Goals as goal

pub loop-word-init : goal.loop-word-init
loop-word-init c =
    record {
      few = ap length c.new-follow.ensures;
      within = rw c.new-follow.ensures (All-nil _);
      told = behind-nothing
          (item c.args.layout) c.new-follow.result.items c.args.words.now c.new-follow.ensures;
    }

pub returns-in_err-item-clause-exact : goal.returns-in_err-item-clause-exact
returns-in_err-item-clause-exact c =
    let p = err_from_is_err_and c.from_residual.result c.from_residual.ensures.1 in
    rw (p.1, p.2) (behind-fails (item c.args.layout) c.loop-word.follow.items c.in_err-item.field-0.0 c.args.words.now c.loop-word.word-index _ _
    (omega arith) c.in_err-item.ensures.exact c.loop-word.invariant.told)

pub push-requires : goal.push-requires
push-requires c = omega (arith, c.loop-word.invariant.few)

pub loop-word-preserved : goal.loop-word-preserved
loop-word-preserved c = record {
  few = omega (arith, c.push.ensures.len, c.loop-word.invariant.few);
  within = rw c.push.ensures.items (All-append (λ n. n < c.args.layout.items) c.loop-word.follow.items
      (c.in_ok-item.item ∷ []) c.loop-word.invariant.within (all_one (λ n. n < c.args.layout.items) c.in_ok-item.item c.in_ok-item.ensures.within));
  told = c.loop-word.invariant.told ∙ behind-more (item c.args.layout) c.loop-word.follow.items c.push.new.self.items c.in_ok-item.item
      c.args.words.now c.loop-word.word-index _ (omega arith) c.in_ok-item.ensures.exact c.push.ensures.items;
}

pub returns-clause-exact : goal.returns-clause-exact
returns-clause-exact c =
    c.loop-word.invariant.told ∙ behind-all (item c.args.layout) c.loop-word.follow.items c.args.words.now c.loop-word.word-index (omega arith)

pub returns-clause-within : goal.returns-clause-within
returns-clause-within c = c.loop-word.invariant.within
