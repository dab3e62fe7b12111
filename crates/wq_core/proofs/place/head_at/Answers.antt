use Rattle.wq_core.proofs.Common.{◌≡◌, Some, head_at}
use Rattle.wq_core.proofs.Words.{head_coded}
use Rattle.wq_core.proofs.place.head_at.Goals as goal

pub unreachable-requires : goal.unreachable-requires
unreachable-requires c =
    let coded = head_coded c.args.word c.requires in
    let is : c.from_word.result ≡ Some (head_at c.args.word) = c.from_word.ensures.given_back (head_at c.args.word) coded.0 coded.1 in
    absurd (cc (is, c.in-None.is))

pub returns : goal.returns
returns c =
    let coded = head_coded c.args.word c.requires in
    let is : c.from_word.result ≡ Some (head_at c.args.word) = c.from_word.ensures.given_back (head_at c.args.word) coded.0 coded.1 in
    record { head = cc (is, c.in-Some.is) }
