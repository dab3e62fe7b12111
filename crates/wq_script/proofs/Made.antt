-- The seats of a new queue.
use Rattle.wq_script.proofs.Common.{◌≡◌, ℕ, ◌+◌, List, [], length, get_or, refl, sym, ap, ◌∙◌, subst, arith, QueueId, Layout, Event, IsLegal, legal_nil}
use Rattle.wq_script.proofs.Common.{owner_seat, own, Grows, Known, new_sender, new_owner, new_senders, length-new_senders, get_or-new_senders, made_nothing}
use Rattle.wq_script.proofs.Common.{Seats, IsAt, IsWider, Seated, Holds}

pub new_seated : (layout wide : Layout) (q : QueueId) (s : Seats) (o a b : Known) → IsWider layout wide → o ≡ new_owner q wide
    → a ≡ new_sender q wide layout.senders → b ≡ new_sender q wide (layout.senders + 1)
    → s.senders.items ≡ new_senders q wide layout.senders → s.worker.queue ≡ o.queue → s.worker.layout ≡ o.layout → s.worker.number ≡ a.number
    → s.worker.tries ≡ 1
    → Grows owner_seat [] 0 o.seen s.worker.seen → Grows a.number [] 0 a.seen s.worker.seen → IsLegal s.worker.layout s.worker.seen
    → s.delay.sender ≡ b → Seated layout s []
new_seated layout wide q s o a b wider is_o is_a is_b senders queue lay number tries grows_o grows_a legal delay = record {
  queue = q;
  wide = wide;
  wider = wider;
  legal = legal_nil wide;
  count = ap length senders ∙ length-new_senders q wide layout.senders;
  senders = λ i d lt. let at : get_or s.senders.items i d ≡ new_sender q wide i = ap (λ (x : List Known). get_or x i d) senders
      ∙ get_or-new_senders q wide layout.senders i d lt in
      subst (λ (k : Known). IsAt q wide i [] k) (sym at) record { queue_is = refl; layout_is = refl; number_is = refl; begins = ([], refl); mine = refl };
  sender = record {
    queue_is = queue ∙ ap (λ (k : Known). k.queue) is_o;
    layout_is = lay ∙ ap (λ (k : Known). k.layout) is_o;
    number_is = number ∙ ap (λ (k : Known). k.number) is_a;
    begins = (s.worker.seen, refl);
    mine = subst (λ (n : ℕ). own n s.worker.seen ≡ []) (ap (λ (k : Known). k.number) is_a)
        (made_nothing a.number 0 a.seen s.worker.seen (ap (λ (k : Known). k.seen) is_a) grows_a);
  };
  owner = record {
    queue_is = queue ∙ ap (λ (k : Known). k.queue) is_o;
    layout_is = lay ∙ ap (λ (k : Known). k.layout) is_o;
    number_is = refl;
    begins = (s.worker.seen, refl);
    mine = made_nothing owner_seat 0 o.seen s.worker.seen (ap (λ (k : Known). k.seen) is_o) grows_o;
  };
  delay = subst (λ (k : Known). IsAt q wide (layout.senders + 1) [] k)
      (sym (delay ∙ is_b)) record { queue_is = refl; layout_is = refl; number_is = refl; begins = ([], refl); mine = refl };
  tries = tries;
  seen = subst (λ (l : Layout). IsLegal l s.worker.seen) (lay ∙ ap (λ (k : Known). k.layout) is_o) legal;
}

-- a new sender holds nothing
pub new_free : (k : Known) (j : ℕ) → k.seen ≡ [] → Holds k.seen k.number j → ⊥
new_free k j none holds = let empty : Holds [] k.number j = subst (λ (x : List Event). Holds x k.number j) none holds in absurd (omega (arith, empty))
