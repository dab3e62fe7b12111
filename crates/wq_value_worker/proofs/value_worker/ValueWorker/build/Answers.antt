use Rattle.wq_value_worker.proofs.Common.{◌≡◌, ℕ, [], ◌∷◌, sym, ap, ◌∙◌, subst, begun, new_senders}
use Rattle.std.proofs.Common.{map}
use Rattle.std.proofs.lemmas.List.{map-append}
use Rattle.wq_words.specs.History.{Holds}
use Rattle.wq_values.specs.Known.{AreNumbered}
use Rattle.std.specs.Prelude.{All}
use Rattle.wq_values.specs.KnownWith.{KnownWith, knowing_nothing}
use Rattle.wq_calls.proofs.Seated.{all_front, all_last, numbered_front}
use Rattle.wq_worker.proofs.Joined.{made_new, made_open}
use Rattle.wq_calls.proofs.ValueJoined.{values_less}
use Rattle.wq_value_worker.proofs.value_worker.ValueWorker.build.Goals as goal

pub new-requires : goal.new-requires
new-requires g c = let o = c.in-Ok.ensures in let P = λ (k : KnownWith g.row.V.Denot). k.known.queue ≡ c.in-Ok.owner.known.queue in record {
  one = all_last P c.pop.new.self.items c.in-Some.sender (subst (All P) c.in-Some.ensures.items o.one);
  tries = c.requires.tries;
  none_begun = ap begun o.unseen.0;
  unrun = c.requires.unrun;
}

pub returns-in-Some-clause-worker : goal.returns-in-Some-clause-worker
returns-in-Some-clause-worker g c =
    let n = c.new.ensures in let o = c.in-Ok.ensures in let s = c.in-Some.sender in let P = λ (k : KnownWith g.row.V.Denot). k.known.seen ≡ [] in
    made_new c.args.layout c.args.work c.args.tries c.in-Ok.owner.known s.known c.new.result.worker o.layouts.0 o.unseen.0
    (all_last P c.pop.new.self.items s (subst (All P) c.in-Some.ensures.items o.unseen.1))
    n.parts n.owner n.sender n.legal n.idle

pub returns-in-Some-clause-senders : goal.returns-in-Some-clause-senders
returns-in-Some-clause-senders g c =
    let parts = c.new.ensures.parts in let xs = c.pop.new.self.items in let l = c.args.layout in
    let last = values_less c.in-Ok.owner.known.queue l l.senders c.in-Ok.senders.items xs c.in-Some.sender c.in-Ok.ensures.made.1 c.in-Some.ensures.items in
    let number = parts.2 ∙ ap (λ (k : KnownWith g.row.V.Denot). k.known.number) last.1 in
    last.0 ∙ (λ i. map knowing_nothing (new_senders (sym parts.0 i) l (sym number i)))

pub returns-in-Some-clause-one : goal.returns-in-Some-clause-one
returns-in-Some-clause-one g c = let P = λ (k : KnownWith g.row.V.Denot). k.known.queue ≡ c.in-Ok.owner.known.queue in
    λ k d low. all_front P c.pop.new.self.items c.in-Some.sender (subst (All P) c.in-Some.ensures.items c.in-Ok.ensures.one) k d low ∙ sym c.new.ensures.parts.0

pub returns-in-Some-clause-layouts : goal.returns-in-Some-clause-layouts
returns-in-Some-clause-layouts g c = let P = λ (k : KnownWith g.row.V.Denot). k.known.layout ≡ c.args.layout in
    all_front P c.pop.new.self.items c.in-Some.sender (subst (All P) c.in-Some.ensures.items c.in-Ok.ensures.layouts.1)

pub returns-in-Some-clause-last : goal.returns-in-Some-clause-last
returns-in-Some-clause-last g c = let l = c.args.layout in
    let last = values_less c.in-Ok.owner.known.queue l l.senders c.in-Ok.senders.items c.pop.new.self.items c.in-Some.sender c.in-Ok.ensures.made.1
    c.in-Some.ensures.items in
    c.new.ensures.parts.2 ∙ ap (λ (k : KnownWith g.row.V.Denot). k.known.number) last.1

pub returns-in-Some-clause-numbers : goal.returns-in-Some-clause-numbers
returns-in-Some-clause-numbers g c =
    let xs = c.pop.new.self.items in let s = c.in-Some.sender in let f = λ (k : KnownWith g.row.V.Denot). k.known in
    (numbered_front (map f xs) s.known (subst AreNumbered (ap (map f) c.in-Some.ensures.items ∙ map-append f xs (s ∷ [])) c.in-Ok.ensures.numbers)).0

pub returns-in-Some-clause-unseen : goal.returns-in-Some-clause-unseen
returns-in-Some-clause-unseen g c = let P = λ (k : KnownWith g.row.V.Denot). k.known.seen ≡ [] in
    all_front P c.pop.new.self.items c.in-Some.sender (subst (All P) c.in-Some.ensures.items c.in-Ok.ensures.unseen.1)

pub returns-in-Some-clause-free : goal.returns-in-Some-clause-free
returns-in-Some-clause-free g c = let P = λ (s : KnownWith g.row.V.Denot). (k : ℕ) → ¬ Holds s.known.seen s.known.number k in
    all_front P c.pop.new.self.items c.in-Some.sender (subst (All P) c.in-Some.ensures.items c.in-Ok.ensures.free)

pub returns-in-Some-clause-open : goal.returns-in-Some-clause-open
returns-in-Some-clause-open g c = made_open c.in-Ok.owner.known.seen c.new.result.worker.seen c.in-Ok.ensures.unseen.0 c.new.ensures.open
