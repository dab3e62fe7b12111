-- What a sender sees, step after step and call after call.
use Rattle.wq_calls.proofs.Common.{◌≡◌, ℕ, ◌+◌, ◌<◌, ◌≤◌, Bool, true, false, ◌==◌, List, [], ◌∷◌, ◌++◌, sym, refl, ap, ◌∙◌, subst, arith, append_assoc}
use Rattle.wq_calls.proofs.Common.{eq-eqb, IsTrue, false≢true, Machine, IsSound, IsPartOf, see, Standing, seeing, Layout, Event, Hold, Push, Holds}
use Rattle.wq_calls.proofs.Common.{IsLegal, legal_front, kept, Grows, own-append, IsPushed, TestsAndSets, IsSender, Known, IsSame, Sees, sender_counts}
use Rattle.wq_calls.proofs.Common.{sender_view, Sends}
use Rattle.std.proofs.Common.{◌&&◌}
use Rattle.wq_words.specs.History.{starts_hold, stops_hold}
use Rattle.wq_calls.proofs.Counting.{count_on, count_one, counts_none}
use Rattle.wq_calls.specs.Sits.{Sending as Inside}
use Rattle.wq_calls.proofs.Tells.{TellsSo, meet_tells, meet_sender}
use Rattle.wq_calls.proofs.Growing.{grows_on, grows_held}
use Rattle.wq_words.proofs.Seen.{starts_own}
use Rattle.wq_words.proofs.Seen.{stops_own}

-- what a step of the chair tells its sender
pub grows_tells : (s t : Inside) (xs : ℕ → List Event) (n : ℕ) → Sends s → TellsSo (xs s.chair.part.seat) n s.chair.part t.chair.part
    → Grows s.number (xs s.number) n s.chair.part.seen t.chair.part.seen
grows_tells s t xs n sends told = subst (λ (c : ℕ). Grows c (xs c) n s.chair.part.seen t.chair.part.seen) sends.number_is told.grows

pub sends_tells : (s t : Inside) (xs : List Event) (n : ℕ) → Sends s → t.layout ≡ s.layout → t.number ≡ s.number
    → TellsSo xs n s.chair.part t.chair.part → IsSender t.chair.part.stage → t.counts ≡ sender_counts s.number t.chair.part.seen → Sends t
sends_tells s t xs n sends layout number told stage counts = record {
  layout_is = told.layout_is ∙ (sends.layout_is ∙ sym layout);
  number_is = told.seat_is ∙ (sends.number_is ∙ sym number);
  low = omega (arith, sends.low, number, ap (λ (l : Layout). l.senders) layout);
  stage = stage;
  legal = subst (λ (l : Layout). IsLegal l t.chair.part.seen) (sends.layout_is ∙ sym layout) told.legal;
  counts_are = counts ∙ ap (λ (c : ℕ). sender_counts c t.chair.part.seen) (sym number);
}

pub sees_tells : (s t : Inside) (now : Known) (xs : ℕ → List Event) (n : ℕ) → sender_view s ≡ now → Sends s → t.layout ≡ s.layout
    → t.number ≡ s.number → t.chair.queue ≡ s.chair.queue
    → TellsSo (xs s.chair.part.seat) n s.chair.part t.chair.part → Sees (xs now.number) n now (sender_view t)
sees_tells s t now xs n view sends layout number queue told = subst (λ (v : Known). Sees (xs v.number) n v (sender_view t)) view record {
  same = record { queue_is = queue; layout_is = layout; number_is = number };
  grows = grows_tells s t xs n sends told;
  legal = subst (λ (l : Layout). IsLegal l t.chair.part.seen) (sends.layout_is ∙ sym layout) told.legal;
}

-- it is one of the senders
pub sender_low : (s : Inside) (now : Known) → sender_view s ≡ now → Sends s → now.number < now.layout.senders
sender_low s now view sends = subst (λ (v : Known). v.number < v.layout.senders) view sends.low

-- what the sender of this view holds its chair's seat holds
pub holds_view : (s : Inside) (now : Known) (k : ℕ) → sender_view s ≡ now → Sends s → Holds now.seen now.number k
    → Holds s.chair.part.seen s.chair.part.seat k
holds_view s now k view sends have = subst (λ (c : ℕ). Holds s.chair.part.seen c k) (sym sends.number_is)
    (subst (λ (v : Known). Holds v.seen v.number k) (sym view) have)

-- it is the same seat step after step
pub same_none : (s : Known) → IsSame s s
same_none s = record { queue_is = refl; layout_is = refl; number_is = refl }

pub same_on : (s t u : Known) → IsSame s t → IsSame t u → IsSame s u
same_on s t u a b = record { queue_is = b.queue_is ∙ a.queue_is; layout_is = b.layout_is ∙ a.layout_is; number_is = b.number_is ∙ a.number_is }

-- what came new before, and what is seen then
pub sees_after : (xs ys : ℕ → List Event) (n m k : ℕ) (s t u : Known) → k ≤ n + m → IsSame s t → Grows s.number (xs s.number) n s.seen t.seen
    → Sees (ys t.number) m t u → Sees (xs s.number ++ ys s.number) k s u
sees_after xs ys n m k s t u sum same grows b = record {
  same = same_on s t u same b.same;
  grows = grows_on s.number (xs s.number) (ys s.number) n m k s.seen t.seen u.seen sum grows
      (subst (λ (c : ℕ). Grows c (ys c) m t.seen u.seen) same.number_is b.grows);
  legal = b.legal;
}

-- what was seen before, and then
pub sees_on : (xs ys : ℕ → List Event) (n m k : ℕ) (s t u : Known) → k ≤ n + m → Sees (xs s.number) n s t → Sees (ys t.number) m t u
    → Sees (xs s.number ++ ys s.number) k s u
sees_on xs ys n m k s t u sum a b = sees_after xs ys n m k s t u sum a.same a.grows b

pub sees_held : (k n : ℕ) (s t : Known) → Sees [] n s t → Holds s.seen s.number k → Holds t.seen t.number k
sees_held k n s t sees have = subst (λ (c : ℕ). Holds t.seen c k) (sym sees.same.number_is) (grows_held s.number k n s.seen t.seen sees.grows have)

-- who began to hold holds
pub sees_hold : (k n : ℕ) (s t : Known) → Sees (Hold s.number k ∷ []) n s t → Holds t.seen t.number k
sees_hold k n s t sees =
    let c = s.number in let xs = Hold c k ∷ [] in let g = sees.grows in
    let starts = count_on (starts_hold c k) c (starts_own c k) xs n s.seen t.seen g in
    let stops = count_on (stops_hold c k) c (stops_own c k) xs n s.seen t.seen g in
    let one = count_one (starts_hold c k) (Hold c k) true (ap (λ (b : Bool). b && (c == c)) (eq-eqb k k refl) ∙ eq-eqb c c refl) in
    let none = count_one (stops_hold c k) (Hold c k) false refl in
    let before = (kept t.layout s.seen (legal_front t.layout s.seen g.new (subst (IsLegal t.layout) g.is sees.legal)) c k).0 in
    subst (λ (d : ℕ). Holds t.seen d k) (sym sees.same.number_is) (omega (arith, starts, stops, one, none, before))

-- a push stays the last of its sender's events where no other comes
pub pushed_on : (s k n : ℕ) (a b : Bool) (v w : List Event) → IsPushed s k a b v → Grows s [] n v w → IsPushed s k a b w
pushed_on s k n a b v w p g = record {
  before = p.before;
  after = p.after ++ g.new;
  is = g.is ∙ (ap (λ (x : List Event). x ++ g.new) p.is ∙ append_assoc p.before (Push s k ∷ p.after) g.new);
  last = own-append s p.after g.new ∙ (λ i. p.last i ++ g.mine i);
  first_is = p.first_is;
  wakes_is = p.wakes_is;
}

pub hold_held : (k : ℕ) (b : Bool) (s t : Known) → TestsAndSets k b s t → IsTrue b → Holds t.seen t.number k
hold_held k true s t sees is = sees_hold k 0 s t sees
hold_held k false s t sees is = absurd (false≢true is)

-- a sender that another met
pub meet_sends : (s t : Inside) (m : Machine) → IsSound m → IsPartOf m s.chair.part
    → t.chair ≡ seeing m s.chair
    → t.layout ≡ s.layout
    → t.number ≡ s.number → t.counts ≡ s.counts → Sends s → Sends t
meet_sends s t m sound f is layout number counts sends =
    let parts : t.chair.part ≡ see m.history s.chair.part = ap (λ (x : Standing). x.part) is in
    let told = meet_tells m s.chair.part t.chair.part sound f parts in
    sends_tells s t [] 0 sends layout number told (meet_sender m s.chair.part t.chair.part parts sends.stage)
    (counts ∙ counts_none s.number 0 s.chair.part.seen t.chair.part.seen s.counts sends.counts_are (grows_tells s t (λ z. []) 0 sends told))

pub meet_sees : (s t : Inside) (now : Known) (m : Machine) → IsSound m → IsPartOf m s.chair.part
    → t.chair ≡ seeing m s.chair
    → t.layout ≡ s.layout
    → t.number ≡ s.number → sender_view s ≡ now → Sends s → Sees [] 0 now (sender_view t)
meet_sees s t now m sound f is layout number view sends =
    sees_tells s t now (λ z. []) 0 view sends layout number (ap (λ (x : Standing). x.queue) is)
    (meet_tells m s.chair.part t.chair.part sound f (ap (λ (x : Standing). x.part) is))

-- two that met are of queues of one layout
pub meet_layout : (s t : Inside) (now now' : Known) (m : Machine) → IsPartOf m s.chair.part → IsPartOf m t.chair.part → sender_view s ≡ now
    → sender_view t ≡ now' → Sends s → Sends t → now'.layout ≡ now.layout
meet_layout s t now now' m f g view view' sends sends' =
    sym (ap (λ (v : Known). v.layout) view') ∙
    (sym sends'.layout_is ∙ (g.layout_is ∙ (sym f.layout_is ∙ (sends.layout_is ∙ ap (λ (v : Known). v.layout) view))))

-- what was queued stays queued where no own event comes
pub queued_on : (k n : ℕ) (a b : Bool) (s t u : Known) → Sees (Hold s.number k ∷ Push s.number k ∷ []) n s t × IsPushed s.number k a b t.seen
    → Sees [] 0 t u → Sees (Hold s.number k ∷ Push s.number k ∷ []) n s u × IsPushed s.number k a b u.seen
queued_on k n a b s t u queued sees = (
  sees_on (λ z. Hold z k ∷ Push z k ∷ []) (λ z. []) n 0 n s t u (omega arith) queued.0 sees,
  pushed_on s.number k 0 a b t.seen u.seen queued.1 (subst (λ (c : ℕ). Grows c [] 0 t.seen u.seen) queued.0.same.number_is sees.grows),
)
