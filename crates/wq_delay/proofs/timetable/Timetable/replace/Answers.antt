use Rattle.wq_delay.proofs.Common.{◌≡◌, ◌<◌, Bool, true, not, ◌&&◌, List, ◌==◌, sym, ap, ◌∙◌, subst, arith, nat_tests, Entry, on_table, AreArmedBefore}
use Rattle.wq_delay.proofs.Common.{on_table-without, all-without}
use Rattle.wq_delay.proofs.timetable.Timetable.replace.Goals as goal

pub put-requires-clause-off : goal.put-requires-clause-off
put-requires-clause-off c =
    let k = c.args.item in let es = c.args.self.now.entries in let same : (k == k) ≡ true = grind (arith, nat_tests) in
    ap (on_table k) c.take.ensures.entries ∙ (on_table-without k k es ∙ ap (λ (z : Bool). not z && on_table k es) same)

pub put-requires-clause-last : goal.put-requires-clause-last
put-requires-clause-last c =
    subst (λ (z : List Entry). AreArmedBefore c.args.arming z) (sym c.take.ensures.entries)
    (all-without (λ e. e.arming < c.args.arming) c.args.item c.args.self.now.entries c.requires.last)
