use Rattle.wq_live.proofs.Common.{◌≡◌, ℕ, [], length, refl, sym, ap, ◌∙◌, subst, All, ValueStanding, Bare, Known, new_senders, Holds}
use Rattle.wq_calls.specs.Known.{AreNumbered}
use Rattle.wq_calls.proofs.Built.{owner_new, senders_new}
use Rattle.wq_calls.proofs.Seated.{free_new, length-new_senders, all_new, numbered_new}
use Rattle.wq_live.proofs.making.build.Goals as goal

pub invariant_of-owner : goal.invariant_of-owner
invariant_of-owner c = let made = c.new.ensures in let is = c.in_ok-chair.ensures.seats.0 in record {
  owns = made.owns;
  alone = ap (λ (x : ValueStanding Bare). x.others) (made.chair ∙ is);
  bare = ap (λ (x : ValueStanding Bare). x.queue.slots) made.chair ∙ c.in_ok-chair.ensures.slots;
}

made : (c : goal.After-new) → c.in_ok-senders.senders.items ≡ new_senders c.new.result.chair.queue c.args.layout c.args.layout.senders
made c = let e = c.new.ensures in senders_new c.args.layout c.in_ok-chair.chair c.new.result c.in_ok-chair.ensures.seats.0 e.chair e.layout _
    (c.in_ok-senders.ensures c.in_ok-chair.chair.queue c.in_ok-chair.ensures.seats.1)

pub returns-clause-made : goal.returns-clause-made
returns-clause-made c = let e = c.new.ensures in
    (owner_new c.args.layout c.in_ok-chair.chair c.new.result c.in_ok-chair.ensures.seats.0 e.chair e.layout, made c)

pub returns-clause-one : goal.returns-clause-one
returns-clause-one c = let q = c.new.result.chair.queue in let l = c.args.layout in let P = λ (s : Known). s.queue ≡ q in
    subst (All P) (sym (made c)) (all_new P q l l.senders (λ s. refl))

pub returns-clause-layouts : goal.returns-clause-layouts
returns-clause-layouts c = let q = c.new.result.chair.queue in let l = c.args.layout in let P = λ (s : Known). s.layout ≡ l in
    (c.new.ensures.layout, subst (All P) (sym (made c)) (all_new P q l l.senders (λ s. refl)))

pub returns-clause-count : goal.returns-clause-count
returns-clause-count c = let l = c.args.layout in ap length (made c) ∙ length-new_senders c.new.result.chair.queue l l.senders

pub returns-clause-numbers : goal.returns-clause-numbers
returns-clause-numbers c = let l = c.args.layout in subst AreNumbered (sym (made c)) (numbered_new c.new.result.chair.queue l l.senders)

pub returns-clause-unseen : goal.returns-clause-unseen
returns-clause-unseen c = let q = c.new.result.chair.queue in let l = c.args.layout in let P = λ (s : Known). s.seen ≡ [] in
    let seen = ap (λ (x : ValueStanding Bare). x.first.part.seen) (c.new.ensures.chair ∙ c.in_ok-chair.ensures.seats.0) in
    (seen, subst (All P) (sym (made c)) (all_new P q l l.senders (λ s. refl)))

pub returns-clause-free : goal.returns-clause-free
returns-clause-free c = let l = c.args.layout in let P = λ (s : Known). (k : ℕ) → ¬ Holds s.seen s.number k in
    subst (All P) (sym (made c)) (all_new P c.new.result.chair.queue l l.senders free_new)
