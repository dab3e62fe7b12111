use Rattle.wq_table.proofs.Common.{arith, ◌≡◌, sym, ap, ◌∙◌, arc_value, number_count, word_count}
use Rattle.wq_table.proofs.Opened.{offs_slots}
use Rattle.wq_table.proofs.making.cut_off.Goals as goal

pub split_seat-seat-requires : goal.split_seat-seat-requires
split_seat-seat-requires g c =
    let same : c.deref.result.now.shared.table_id ≡ (arc_value c.args.uncut.now.words).shared.table_id = ap (λ t. t.shared.table_id) c.deref.ensures ∙
    ap (λ t. t.shared.table_id) c.in_ok-words.ensures in
    let wide : c.deref.result.now.shared.table_id.words ≡ word_count (number_count c.args.layout) =
    ap (λ z. z.words) (same ∙ sym c.requires.cut.seated) ∙ c.requires.cut.wide in
    (c.requires.cut.seated ∙ sym same, omega (arith, wide), offs_slots _ _ _)
