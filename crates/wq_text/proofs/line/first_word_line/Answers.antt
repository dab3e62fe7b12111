use Rattle.wq_text.proofs.Common.{ℕ, List, map, Bor, sym, ap, ◌∙◌, Most, err_from_is_err_and}
use Rattle.wq_text.proofs.LineWords.{header_given, header_fails}
use Rattle.wq_text.proofs.Sound.{keeps_header}
use Rattle.wq_text.proofs.line.first_word_line.Goals as goal

pub returns-in_err-next-clause-exact : goal.returns-in_err-next-clause-exact
returns-in_err-next-clause-exact g c =
    let p = err_from_is_err_and c.from_residual.result c.from_residual.ensures.1 in
    rw (p.1, p.2) (header_fails g.L.Language.grammar c.args.awaited c.args.first.now
    (map (λ (w : Bor (List ℕ)). w.now) c.args.others.now) c.in_err-next.field-0.0 c.names_seats.result c.most.result
    (sym c.is_header.ensures ∙ c.if-is_header.true) c.names_seats.ensures c.most.ensures c.in_err-next.ensures.exact)

pub returns-then-is_header-clause-exact : goal.returns-then-is_header-clause-exact
returns-then-is_header-clause-exact g c =
    header_given g.L.Language.grammar c.args.awaited c.args.first.now
    (map (λ (w : Bor (List ℕ)). w.now) c.args.others.now) c.names_seats.result c.most.result c.in_ok-next.next
    (sym c.is_header.ensures ∙ c.if-is_header.true) c.names_seats.ensures c.most.ensures c.in_ok-next.ensures.exact

pub returns-then-is_header-clause-sound : goal.returns-then-is_header-clause-sound
returns-then-is_header-clause-sound g c =
    let same = ap (λ (m : Most). m.senders) c.most.ensures in
    keeps_header g.L.Language.grammar.most.senders g.L.Language.fits c.args.awaited c.in_ok-next.next (rw same at c.in_ok-next.ensures.sound)
