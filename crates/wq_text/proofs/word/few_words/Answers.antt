use Rattle.std.proofs.Common.{lit<}
use Rattle.std.proofs.lemmas.Iterator.Splits.{YieldsList-from_str_split}
use Rattle.wq_text.specs.Word.{words}
use Rattle.wq_text.proofs.Words.{found_room}
use Rattle.wq_text.proofs.word.few_words.Goals as goal

pub returns : goal.returns
returns c =
    let road =
    YieldsList-from_str_split 32 c.args.line.now (lit< tt) c.split.ensures.text c.split.ensures.has_more c.split.ensures.pattern in
    rw c.ok.ensures.value (found_room _ c.split.result (words c.args.line.now) c.from_iter.result c.from_iter.ensures.ran road)
