use Rattle.std.proofs.Common.{◌≡◌, ℕ, [], length, sym, ap, ◌∙◌, subst}
use Rattle.std.specs.Prelude.{All}
use Rattle.wq_words.specs.History.{Holds, begun}
use Rattle.wq_live.specs.Known.{QueueId, Known, new_senders, AreNumbered}
use Rattle.wq_calls.proofs.Seated.{one_less, all_front, all_last, numbered_front}
use Rattle.wq_worker.proofs.Joined.{made_new, made_open}
use Rattle.wq_worker.proofs.worker.Worker.build.Goals as goal

pub new-requires : goal.new-requires
new-requires g c = let o = c.in-Ok.ensures in let P = λ (k : Known). k.queue ≡ c.in-Ok.owner.queue in record {
  one = all_last P c.pop.new.self.items c.in-Some.sender (subst (All P) c.in-Some.ensures.items o.one);
  tries = c.requires.tries;
  none_begun = ap begun o.unseen.0;
  unrun = c.requires.unrun;
}

pub returns-in-Some-clause-worker : goal.returns-in-Some-clause-worker
returns-in-Some-clause-worker g c = let n = c.new.ensures in let o = c.in-Ok.ensures in let s = c.in-Some.sender in
    made_new c.args.layout c.args.work c.args.tries c.in-Ok.owner s c.new.result o.layouts.0 o.unseen.0
    (all_last (λ (k : Known). k.seen ≡ []) c.pop.new.self.items s (subst (All (λ (k : Known). k.seen ≡ [])) c.in-Some.ensures.items o.unseen.1))
    n.parts n.owner n.sender n.legal n.idle

pub returns-in-Some-clause-senders : goal.returns-in-Some-clause-senders
returns-in-Some-clause-senders g c =
    let o = c.in-Ok.ensures in let parts = c.new.ensures.parts in let xs = c.pop.new.self.items in let l = c.args.layout in
    let last = one_less c.in-Ok.owner.queue l l.senders c.in-Ok.senders.items xs c.in-Some.sender o.made.1 c.in-Some.ensures.items in
    let number = parts.2 ∙ ap (λ (k : Known). k.number) last.1 in
    last.0 ∙ (ap (λ (q : QueueId). new_senders q l (length xs)) (sym parts.0) ∙ ap (new_senders c.new.result.queue l) (sym number))

pub returns-in-Some-clause-one : goal.returns-in-Some-clause-one
returns-in-Some-clause-one g c = let P = λ (k : Known). k.queue ≡ c.in-Ok.owner.queue in
    λ k d low. all_front P c.pop.new.self.items c.in-Some.sender (subst (All P) c.in-Some.ensures.items c.in-Ok.ensures.one) k d low ∙ sym c.new.ensures.parts.0

pub returns-in-Some-clause-layouts : goal.returns-in-Some-clause-layouts
returns-in-Some-clause-layouts g c = let P = λ (k : Known). k.layout ≡ c.args.layout in
    all_front P c.pop.new.self.items c.in-Some.sender (subst (All P) c.in-Some.ensures.items c.in-Ok.ensures.layouts.1)

pub returns-in-Some-clause-numbers : goal.returns-in-Some-clause-numbers
returns-in-Some-clause-numbers g c =
    let both = numbered_front c.pop.new.self.items c.in-Some.sender (subst AreNumbered c.in-Some.ensures.items c.in-Ok.ensures.numbers) in
    (both.0, c.new.ensures.parts.2 ∙ both.1)

pub returns-in-Some-clause-unseen : goal.returns-in-Some-clause-unseen
returns-in-Some-clause-unseen g c = let P = λ (k : Known). k.seen ≡ [] in
    all_front P c.pop.new.self.items c.in-Some.sender (subst (All P) c.in-Some.ensures.items c.in-Ok.ensures.unseen.1)

pub returns-in-Some-clause-free : goal.returns-in-Some-clause-free
returns-in-Some-clause-free g c = let P = λ (s : Known). (k : ℕ) → ¬ Holds s.seen s.number k in
    all_front P c.pop.new.self.items c.in-Some.sender (subst (All P) c.in-Some.ensures.items c.in-Ok.ensures.free)

pub returns-in-Some-clause-open : goal.returns-in-Some-clause-open
returns-in-Some-clause-open g c = made_open c.in-Ok.owner.seen c.new.result.seen c.in-Ok.ensures.unseen.0 c.new.ensures.open
