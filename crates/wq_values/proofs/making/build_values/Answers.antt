use Rattle.wq_values.proofs.Common.{◌≡◌, ℕ, [], map, refl, sym, ap, ◌∙◌, subst, arith, Holds, new_senders, ValueStanding, AreKnown, KnownWith}
use Rattle.wq_calls.specs.Known.{AreNumbered}
use Rattle.wq_calls.proofs.Built.{owner_new, values_new, all_values, length_values, values_known}
use Rattle.wq_calls.proofs.Seated.{free_new, numbered_new}
use Rattle.wq_values.proofs.making.build_values.Goals as goal

pub invariant_of-owner : goal.invariant_of-owner
invariant_of-owner g c = let e = c.new.ensures in let is = e.chair ∙ c.in_ok-chair.ensures.seats.0 in record {
  owns = e.owns;
  alone = ap (λ (x : ValueStanding g.row.V.Denot). x.others) is;
  slots = omega (
    arith,
    ap (λ (x : ValueStanding g.row.V.Denot). x.queue.slots) e.chair,
    c.in_ok-chair.ensures.slots,
    c.number_count-slots.ensures.count,
  );
  known = subst AreKnown (sym is) (record { as_many = refl; carries = λ place k y stands has. absurd cc });
}

pub returns : goal.returns
returns g c = let e = c.new.ensures in let chair = c.in_ok-chair.chair in let is = c.in_ok-chair.ensures.seats in let l = c.args.layout in
    let q = c.new.result.chair.queue in let all = c.in_ok-senders.senders.items in
    let owner = owner_new l chair c.new.result is.0 e.chair e.layout in
    let made = values_new l chair c.new.result is.0 e.chair e.layout all (c.in_ok-senders.ensures chair.queue is.1) in
    let seen = ap (λ (x : ValueStanding g.row.V.Denot). x.first.part.seen) (e.chair ∙ is.0) in
    let brought = ap (λ (x : ValueStanding g.row.V.Denot). x.first.brought) (e.chair ∙ is.0) in record {
      made = (λ i. record { known = owner i; brought = brought i }, made);
      one = all_values (λ (s : KnownWith g.row.V.Denot). s.known.queue ≡ q) q l all made (λ s. refl);
      layouts = (e.layout, all_values (λ (s : KnownWith g.row.V.Denot). s.known.layout ≡ l) q l all made (λ s. refl));
      count = length_values q l all made;
      numbers = subst AreNumbered (sym (ap (map (λ (s : KnownWith g.row.V.Denot). s.known)) made ∙ values_known g.row.V.Denot (new_senders q l l.senders)))
          (numbered_new q l l.senders);
      unseen = (seen, all_values (λ (s : KnownWith g.row.V.Denot). s.known.seen ≡ []) q l all made (λ s. refl));
      free = all_values (λ (s : KnownWith g.row.V.Denot). (k : ℕ) → ¬ Holds s.known.seen s.known.number k) q l all made free_new;
      unbrought = (brought, all_values (λ (s : KnownWith g.row.V.Denot). s.brought ≡ []) q l all made (λ s. refl));
    }
