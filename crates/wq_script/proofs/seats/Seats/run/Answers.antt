use Rattle.wq_script.proofs.Common.{sym, ap, ◌∙◌, subst, Layout, IsLegal, ends_at}
use Rattle.wq_script.proofs.HasExecuted.{row_ran}
use Rattle.wq_script.proofs.seats.Seats.run.Goals as goal

pub execute_row-requires : goal.execute_row-requires
execute_row-requires c =
    let g = c.requires.seated.1 in
    record {
      items = sym (ap (λ (l : Layout). l.items) g.sender.layout_is ∙ g.wider.items);
      barriers = sym (ap (λ (l : Layout). l.barriers) g.sender.layout_is ∙ g.wider.barriers);
      legal = subst (λ (l : Layout). IsLegal l c.args.self.now.worker.seen) (sym g.sender.layout_is) g.seen;
    }

pub returns : goal.returns
returns c = λ h g idle lists. row_ran c.args.layout.now c.args.self.now c.publish_worker.new.self h c.execute_row.new.worker c.args.limit
    (ends_at c.args.last) c.in_ok-ran.ran.items g idle lists c.in_ok-ran.ensures c.publish_worker.ensures
