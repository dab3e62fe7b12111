use Rattle.std.proofs.Common.{[], ◌∷◌, ◌++◌}
use Rattle.wq_check.proofs.checker.Checker.event.Goals as goal

pub invariant_of-self : goal.invariant_of-self
invariant_of-self c =
    let told = c.self.invariant in
    let stands' = c.make.ensures.told told.0 told.1.stands in (
      told.0 ++ c.args.event ∷ [],
      record {
        stands = stands';
        counted = c.with-self-inside.ensures told.0 told.1.counted (c.waiting_count.ensures (told.0 ++ c.args.event ∷ []) stands');
      },
    )

pub returns-clause-told : goal.returns-clause-told
returns-clause-told c = λ h o.
    let at = rw (← c.self.view_is) at o in
    let stands' = c.make.ensures.told h at.stands in
    record {
      stands = stands';
      counted = c.with-self-inside.ensures h at.counted (c.waiting_count.ensures (h ++ c.args.event ∷ []) stands');
    }
