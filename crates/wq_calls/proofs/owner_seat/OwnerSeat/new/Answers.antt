use Rattle.wq_calls.proofs.Common.{refl, sym, ap, ◌∙◌, subst, TableId, ValueStanding, standing_of, Owning, kept_batch, Open, None, OwnsSlots}
use Rattle.wq_table.proofs.NewChairs.{owner_chair}
use Rattle.wq_calls.proofs.Built.{executes_new}
use Rattle.wq_calls.proofs.owner_seat.OwnerSeat.new.Goals as goal

pub returns-clause-owns : goal.returns-clause-owns
returns-clause-owns g c = let chair = c.args.chair in let is = c.requires.unseen.1 in
    let s : Owning = record {
      chair = standing_of chair;
      layout = c.args.layout;
      row = c.empty.result;
      running = None;
      phase = Open;
      counts = record { chained = 0; chain_busy = 0; ended = 0 };
    } in record {
      queue = executes_new s
          (ap standing_of is ∙ ap (λ (q : TableId). owner_chair q c.args.layout) (sym (ap (λ (z : ValueStanding g.row.V.Denot). z.queue) is)))
          c.empty.ensures refl refl refl;
      slots = subst (λ (z : ValueStanding g.row.V.Denot). OwnsSlots z (kept_batch z.first.part.stage)) (sym is)
          (record { some = λ deep. record { numbers_are = refl; each = tt }; none = λ bare. refl });
    }
