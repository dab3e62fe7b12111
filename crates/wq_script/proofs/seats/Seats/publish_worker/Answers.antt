use Rattle.wq_script.proofs.Common.{List, [], set, arith, sym, ap, ◌∙◌, subst, with_item, get_or-set_same, IsPrefix, Event, Known, Seats, StaysSilent, AllHear}
use Rattle.wq_script.proofs.Common.{Publishes, worker_sender, worker_owner, prefix_on}
use Rattle.wq_script.proofs.Hearing.{stays_on, sees_stays, moves_stay, all_hear_nothing, all_hear_set, all_hear_less, all_hear_on, queue_heard}
use Rattle.wq_script.proofs.seats.Seats.publish_worker.Goals as goal

pub meet-requires : goal.meet-requires
meet-requires c = ap (λ (k : Known). k.queue) c.index_mut.ensures.value ∙ c.requires.one.senders 0 c.index_mut.result.now c.requires.some
    ∙ sym c.requires.one.worker

pub publish-requires : goal.publish-requires
publish-requires c =
    let q : List Known = c.args.self.now.senders.items in
    let x : Known = c.index_mut.result.now in
    let k : Known = c.meet.new.sender in
    let one : AllHear [] q (set q 0 k) = all_hear_set [] q q 0 x k c.requires.some (all_hear_nothing q)
    (subst (λ (v : Known). StaysSilent v k) c.index_mut.ensures.value (sees_stays 0 x k c.meet.ensures.sender)) in
    record {
      place = omega (arith, one.count, c.requires.some);
      one = record {
        senders = λ i d lt. queue_heard [] q (set q 0 k) one i d (omega (arith, lt, one.count)) ∙ c.requires.one.senders i d (omega (arith, lt, one.count));
        worker = c.meet.ensures.worker.queue ∙ c.requires.one.worker;
      };
    }

pub returns : goal.returns
returns c =
    let s = c.args.self.now in
    let q : List Known = s.senders.items in
    let x : Known = c.index_mut.result.now in
    let k : Known = c.meet.new.sender in let w = c.meet.new.self in let m = c.meet.ensures in
    let t = c.publish.new.self in
    let mid : Seats = record { worker = w; delay = s.delay; senders = with_item s.senders 0 k } in
    let told : List Event = s.worker.seen in
    let one : AllHear [] q (set q 0 k) =
    all_hear_set [] q q 0 x k c.requires.some (all_hear_nothing q)
    (subst (λ (v : Known). StaysSilent v k) c.index_mut.ensures.value (sees_stays 0 x k m.sender)) in
    let both = moves_stay 0 s.worker w m.worker in
    let knows : IsPrefix told k.seen = subst (λ (v : List Event). IsPrefix told v) (sym m.both) both.0.begins in
    let g : Publishes k.seen mid t = subst (λ (v : Known). Publishes v.seen mid t) (get_or-set_same q 0 k x c.requires.some) (c.publish.ensures.sender x) in
    record {
      sender = record {
        stays = stays_on (worker_sender s.worker) (worker_sender w) (worker_sender t.worker) both.0 g.sender.stays;
        knows =
            prefix_on told k.seen t.worker.seen knows g.sender.knows;
      };
      owner = record {
        stays = stays_on (worker_owner s.worker) (worker_owner w) (worker_owner t.worker) both.1 g.owner.stays;
        knows =
            prefix_on told k.seen t.worker.seen knows g.owner.knows;
      };
      delay = record { stays = g.delay.stays; knows = prefix_on told k.seen t.delay.sender.seen knows g.delay.knows };
      senders = all_hear_on told q (set q 0 k) t.senders.items one (all_hear_less told k.seen (set q 0 k) t.senders.items knows g.senders);
      work = record { work_is = g.work.work_is ∙ m.work.0; unqueued_is = g.work.unqueued_is ∙ m.work.1; tries_is = g.work.tries_is ∙ m.worker.tries };
      table = g.table;
      legal = g.legal;
    }
