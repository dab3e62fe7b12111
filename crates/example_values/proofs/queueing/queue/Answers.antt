use Rattle.std.proofs.Common.{◌≡◌, ap, refl, ◌∙◌, ◌++◌}
use Rattle.std.specs.Prelude.{box_value}
use Rattle.std.proofs.lemmas.List.Elements.{filter_map-append}
use Rattle.wq_values.specs.ValueAnswer.{ValueAnswer}
use Rattle.wq_values.specs.ValueAnswer.TheVariants as answer
use Rattle.wq_values.specs.OwnBrought.{own_brought, queued_value}
use Rattle.example_values.specs.Messages.{BoxedNumber, number_in, numbers_of, told_of}
use Rattle.example_values.proofs.queueing.queue.Goals as goal

told : (message : BoxedNumber) (a : ValueAnswer BoxedNumber) → numbers_of (queued_value message a) ≡ told_of (box_value message) a
told message (answer.Queued first wakes) = refl
told message (answer.Pending back) = refl
told message (answer.Closed back) = refl
told message (answer.Contended back) = refl
told message (answer.Draining back) = refl

pub returns-clause-brought : goal.returns-clause-brought
returns-clause-brought g c =
    let e = c.queue_value_wait-answer.ensures in let s = c.args.sender.now in let old = own_brought s.known.number s.known.seen s.brought in
    ap numbers_of (c.queued_brings.ensures.grows c.args.item 0 c.args.message c.queue_value_wait-answer.result s _ e.answer e.value e.learnt) ∙
    (filter_map-append number_in old (queued_value c.args.message c.queue_value_wait-answer.result) ∙
    ap (λ ys. numbers_of old ++ ys) (told c.args.message c.queue_value_wait-answer.result))
