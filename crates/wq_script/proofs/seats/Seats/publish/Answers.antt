use Rattle.wq_script.proofs.Common.{ℕ, ◌<◌, List, [], length, get_or, set, arith, sym, ap, ◌∙◌, subst, with_item, get_or_default, IsPrefix, Event, Known, Seats}
use Rattle.wq_script.proofs.Common.{StaysSilent, AllHear, Publishes, prefix_on}
use Rattle.wq_script.proofs.Hearing.{stays_on, sees_stays, keeps_same, same_table_on, moves_stay, all_hear_nothing, all_hear_set, all_hear_less, all_hear_on}
use Rattle.wq_script.proofs.Hearing.{queue_heard}
use Rattle.wq_script.proofs.seats.Seats.publish.Goals as goal

pub meet-requires : goal.meet-requires
meet-requires c =
    let x : Known = c.index_mut.result.now in
    sym (ap (λ (k : Known). k.queue) c.index_mut.ensures.value ∙ c.requires.one.senders c.args.place x c.requires.place)

pub meet_each-requires : goal.meet_each-requires
meet_each-requires c =
    let x : Known = c.index_mut.result.now in
    let q : List Known = c.args.self.now.senders.items in
    let one : AllHear [] q (set q c.args.place c.meet.new.other) = all_hear_set [] q q c.args.place x c.meet.new.other c.requires.place (all_hear_nothing q)
    (subst (λ (v : Known). StaysSilent v c.meet.new.other) c.index_mut.ensures.value (sees_stays 0 x c.meet.new.other c.meet.ensures.that)) in
    record {
      one = λ i d lt. queue_heard [] q (set q c.args.place c.meet.new.other) one i d (omega (arith, lt, one.count))
          ∙ c.requires.one.senders i d (omega (arith, lt, one.count)) ∙ sym c.meet.ensures.this.seen.same.queue_is;
    }

pub meet-requires-2 : goal.meet-requires-2
meet-requires-2 c =
    let x : Known = c.index_mut.result.now in
    let y : Known = c.index_mut-2.result.now in
    let q : List Known = c.args.self.now.senders.items in
    let one : AllHear [] q (set q c.args.place c.meet.new.other) = all_hear_set [] q q c.args.place x c.meet.new.other c.requires.place (all_hear_nothing q)
    (subst (λ (v : Known). StaysSilent v c.meet.new.other) c.index_mut.ensures.value (sees_stays 0 x c.meet.new.other c.meet.ensures.that)) in
    let all = all_hear_on c.meet.new.self.sender.seen q (set q c.args.place c.meet.new.other) c.meet_each.new.senders.items one c.meet_each.ensures.senders in
    let here : 0 < length q = omega (arith, c.requires.place) in
    ap (λ (k : Known). k.queue) c.index_mut-2.ensures.value ∙ queue_heard c.meet.new.self.sender.seen q c.meet_each.new.senders.items all 0 y here
    ∙ c.requires.one.senders 0 y here ∙ sym c.requires.one.worker

pub returns : goal.returns
returns c =
    let s = c.args.self.now in let p : ℕ = c.args.place in
    let q : List Known = s.senders.items in
    let x : Known = c.index_mut.result.now in let y : Known = c.index_mut-2.result.now in
    let k : Known = c.meet.new.other in let e = c.meet.new.self in let m = c.meet.ensures in
    let news : List Known = c.meet_each.new.senders.items in
    let f = c.meet_each.new.delay in let me = c.meet_each.ensures in
    let z : Known = c.meet-2.new.sender in let w = c.meet-2.new.self in let m2 = c.meet-2.ensures in
    let met : StaysSilent x k = sees_stays 0 x k m.that in
    let led : StaysSilent s.delay.sender e.sender = sees_stays 0 s.delay.sender e.sender m.this.seen in
    let one : AllHear [] q (set q p k) =
    all_hear_set [] q q p x k c.requires.place (all_hear_nothing q) (subst (λ (v : Known). StaysSilent v k) c.index_mut.ensures.value met) in
    let last : StaysSilent y z = sees_stays 0 y z m2.sender in
    let both = moves_stay 0 s.worker w m2.worker in
    let t : Seats = record { worker = w; delay = f; senders = with_item c.meet_each.new.senders 0 z } in
    let all : (told : List Event) → IsPrefix told e.sender.seen → Publishes told s t = λ told knows.
    let heard : AllHear told q news = all_hear_less told e.sender.seen q news knows (all_hear_on e.sender.seen q (set q p k) news one me.senders) in
    let here : 0 < length news = omega (arith, c.requires.place, heard.count) in
    let worker : IsPrefix told w.seen = subst (λ (v : List Event). IsPrefix told v) m2.both (prefix_on told y.seen z.seen
    (subst (λ (v : Known). IsPrefix told v.seen) (sym c.index_mut-2.ensures.value) (heard.each 0 y (omega (arith, c.requires.place))).knows) last.begins) in
    record {
      sender = record { stays = both.0; knows = worker };
      owner = record { stays = both.1; knows = worker };
      delay = record {
        stays = stays_on s.delay.sender e.sender f.sender led me.delay;
        knows =
            prefix_on told e.sender.seen f.sender.seen knows me.delay.begins;
      };
      senders = all_hear_set told q news 0 y z here heard (subst (λ (v : Known). StaysSilent v z) c.index_mut-2.ensures.value last);
      work = record { work_is = m2.work.0; unqueued_is = m2.work.1; tries_is = m2.worker.tries };
      table = same_table_on s.delay e f (keeps_same [] 0 s.delay e m.this) me.table;
      legal = m2.worker.legal;
    } in
    record {
      sender = λ d. all (get_or q p d).seen (subst (λ (v : Known). IsPrefix v.seen e.sender.seen)
          (c.index_mut.ensures.value ∙ get_or_default q p x d c.requires.place)
          (subst (λ (v : List Event). IsPrefix x.seen v) m.both met.begins));
      delay = all s.delay.sender.seen led.begins;
    }
