use Rattle.wq_table.proofs.Common.{rules, ℕ, ◌∙◌, ap, replicate}
use Rattle.wq_table.proofs.Opened.{opens_slots}
use Rattle.wq_table.proofs.making.new_words.Goals as goal

pub vacant-requires : goal.vacant-requires
vacant-requires g c = opens_slots c.args.layout c.as_slice.result.now _ (c.as_slice.ensures.value ∙
    (c.in_ok-row.ensures.items_if_clones_equal (λ y is. search rules) ∙ ap (λ (n : ℕ). replicate n 0) c.word_count.ensures.words))
