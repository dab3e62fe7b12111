-- Seats of one queue, of which one acts.
use Rattle.wq_script.proofs.Common.{◌≡◌, ℕ, ◌+◌, ◌<◌, ◌≤◌, Bool, true, false, not, ◌==◌, ◌||◌, ◌⊎◌, List, [], ◌++◌, length, get_or, set, arith, inl, inr, refl}
use Rattle.wq_script.proofs.Common.{sym, ◌∙◌, subst, eq-eqb, filter, get_or-set_other, get_or-set_same, length-set, cases_lt, cases_eq, eqb-true, false≢true}
use Rattle.wq_script.proofs.Common.{IsPrefix, QueueId, Layout, Event, IsLegal, owner_seat, own, others, Known, Sees, is_ours, WorkerState, Moves, Lists, Seats}
use Rattle.wq_script.proofs.Common.{Hears, IsAt, IsWider, Seated, worker_sender, worker_owner, prefix_on, DelayState, with_item, prefix_self, seat_of, Publishes, ap}
use Rattle.wq_words.proofs.Seen.{own_between}
use Rattle.wq_words.proofs.Alone.{IsSeat, settle}
use mathlib.Core.Bool.{or-true}
use Rattle.std.proofs.lemmas.Bool.{or_cases}

-- a seat that did not act hears z: it made no event there
pub still_none : (queue : QueueId) (layout : Layout) (c : ℕ) (h z : List Event) (k k' : Known) → IsPrefix h z → IsAt queue layout c h k → Hears z k k'
    → own c z ≡ own c h
still_none queue layout c h z k k' begins at heard =
    own_between c h z k'.seen begins heard.knows (subst (λ (n : ℕ). own n k'.seen ≡ own n k.seen) at.number_is heard.stays.mine ∙ at.mine)

pub still_at : (queue : QueueId) (layout : Layout) (c : ℕ) (h z : List Event) (k k' : Known) → IsPrefix h z → IsAt queue layout c h k → Hears z k k'
    → IsAt queue layout c z k'
still_at queue layout c h z k k' begins at heard = record {
  queue_is = heard.stays.same.queue_is ∙ at.queue_is;
  layout_is = heard.stays.same.layout_is ∙ at.layout_is;
  number_is = heard.stays.same.number_is ∙ at.number_is;
  begins = heard.knows;
  mine = subst (λ (n : ℕ). own n k'.seen ≡ own n k.seen) at.number_is heard.stays.mine ∙ (at.mine ∙ sym (still_none queue layout c h z k k' begins at heard));
}

-- where each number's seat made no event, but those that f names
pub none_of_others : (layout wide : Layout) (f : ℕ → Bool) (h z : List Event) → IsWider layout wide
    → ((i : ℕ) → i < layout.senders → f i ≡ false → own i z ≡ own i h) → (f layout.senders ≡ false → own layout.senders z ≡ own layout.senders h)
    → (f (layout.senders + 1) ≡ false → own (layout.senders + 1) z ≡ own (layout.senders + 1) h) → (f owner_seat ≡ false → own owner_seat z ≡ own owner_seat h)
    → (c : ℕ) → IsSeat wide c → f c ≡ false → own c z ≡ own c h
none_of_others layout wide f h z wider senders worker delay owner c seat other = elim seat [
  | inr is ↦ subst (λ (n : ℕ). f n ≡ false → own n z ≡ own n h) (sym is) owner other
  | inl lt ↦ elim (cases_lt c layout.senders) [
    | inl less ↦ senders c less other
    | inr ge ↦ elim (cases_eq c layout.senders) [
      | inl is ↦ subst (λ (n : ℕ). f n ≡ false → own n z ≡ own n h) (sym is) worker other
      | inr ne ↦ let is : layout.senders + 1 ≡ c = omega (arith, ge, ne, lt, wider.senders) in subst (λ (n : ℕ). f n ≡ false → own n z ≡ own n h) is delay other
    ]
  ]
]

-- From h one of the seats went on from v to z and made the events xs there, and no other made any: none of n events that were
-- to be of others.
pub record Acts (layout : Layout) (t : Seats) (h v z xs : List Event) (n : ℕ) : Type 0 where
  pub alone : v ≡ h
  pub is : z ≡ h ++ xs
  pub none : n ≡ 0
  pub seated : Seated layout t (h ++ xs)

-- the seats where one of the senders went on to z
abbrev pub replacing_sender : Seats → ℕ → Known → Seats
replacing_sender s p z = record { worker = s.worker; delay = s.delay; senders = with_item s.senders p z }

module _ (layout : Layout) (s t : Seats) (h : List Event) (g : Seated layout s h) where
  -- the seat c stands at h, or is one of those that f names and stands at z
  abbrev StandsAtEither : (ℕ → Bool) → List Event → ℕ → Known → Type 0
  StandsAtEither f z c k = IsAt g.queue g.wide c h k ⊎ ((f c ≡ true) × IsAt g.queue g.wide c z k)

  record StandAll (f : ℕ → Bool) (z : List Event) (m : Seats) : Type 0 where
    count : length m.senders.items ≡ layout.senders
    senders : (i : ℕ) (d : Known) → i < layout.senders → StandsAtEither f z i (get_or m.senders.items i d)
    sender : StandsAtEither f z layout.senders (worker_sender m.worker)
    owner : StandsAtEither f z owner_seat (worker_owner m.worker)
    delay : StandsAtEither f z (layout.senders + 1) m.delay.sender
    tries : m.worker.tries ≡ 1

  -- those that f names have acted, and then all have heard z
  module _ (f : ℕ → Bool) (v z new xs : List Event) (n : ℕ) (m : Seats) (stand : StandAll f z m) (all : Publishes z m t) (legal : IsLegal g.wide z)
      (begins : IsPrefix h v) (ours_same : (c : ℕ) → IsSeat g.wide c → f c ≡ true → own c v ≡ own c h) (is : z ≡ v ++ new) where
    further : IsPrefix h z
    further = prefix_on h v z begins (new, sym is)

    heard_at : (c : ℕ) (k k' : Known) → StandsAtEither f z c k → Hears z k k' → IsAt g.queue g.wide c z k'
    heard_at c k k' (inl at) heard = still_at g.queue g.wide c h z k k' further at heard
    heard_at c k k' (inr at) heard = still_at g.queue g.wide c z z k k' (prefix_self z) at.1 heard

    heard_none : (c : ℕ) (k k' : Known) → StandsAtEither f z c k → Hears z k k' → f c ≡ false → own c z ≡ own c h
    heard_none c k k' (inl at) heard other = still_none g.queue g.wide c h z k k' further at heard
    heard_none c k k' (inr at) heard other = absurd (false≢true (sym other ∙ at.0))

    others_same : (c : ℕ) → IsSeat g.wide c → f c ≡ false → own c z ≡ own c h
    others_same =
        let d = m.delay.sender in
        none_of_others layout g.wide f h z g.wider
        (λ i lt. heard_none i (get_or m.senders.items i d) (get_or t.senders.items i d) (stand.senders i d lt)
        (all.senders.each i d (omega (arith, lt, stand.count))))
        (heard_none layout.senders (worker_sender m.worker) (worker_sender t.worker) stand.sender all.sender)
        (heard_none (layout.senders + 1) m.delay.sender t.delay.sender stand.delay all.delay)
        (heard_none owner_seat (worker_owner m.worker) (worker_owner t.worker) stand.owner all.owner)

    all_seated : Seated layout t z
    all_seated =
        let sender = heard_at layout.senders (worker_sender m.worker) (worker_sender t.worker) stand.sender all.sender in
        record {
          queue = g.queue;
          wide = g.wide;
          wider = g.wider;
          legal = legal;
          count = all.senders.count ∙ stand.count;
          senders = λ i d lt. heard_at i (get_or m.senders.items i d) (get_or t.senders.items i d) (stand.senders i d lt)
              (all.senders.each i d (omega (arith, lt, stand.count)));
          sender = sender;
          owner = heard_at owner_seat (worker_owner m.worker) (worker_owner t.worker) stand.owner all.owner;
          delay = heard_at (layout.senders + 1) m.delay.sender t.delay.sender stand.delay all.delay;
          tries = all.work.tries_is ∙ stand.tries;
          seen = subst (λ (l : Layout). IsLegal l t.worker.seen) sender.layout_is all.legal;
        }

    acts_so : filter (λ e. f (seat_of e)) new ≡ xs → n ≤ length (filter (λ e. not (f (seat_of e))) new)
        → Acts layout t h v z xs n × (filter (λ e. not (f (seat_of e))) new ≡ [])
    acts_so mine some =
        let done = settle g.wide f h v z new xs n begins ours_same is mine some legal others_same in
        (record { alone = done.0; is = done.1; none = done.2; seated = subst (λ (w : List Event). Seated layout t w) done.1 all_seated }, done.3)

  -- the seat of the number p, which acted
  acted : (p : ℕ) (x k : Known) (xs : List Event) (n : ℕ) → IsAt g.queue g.wide p h x → Sees xs n x k → IsAt g.queue g.wide p k.seen k
  acted p x k xs n at sees = record {
    queue_is = sees.same.queue_is ∙ at.queue_is;
    layout_is = sees.same.layout_is ∙ at.layout_is;
    number_is = sees.same.number_is ∙ at.number_is;
    begins = prefix_self k.seen;
    mine = refl;
  }

  -- one seat acted, and no other made any event
  one_acts : (p : ℕ) (x k : Known) (xs : List Event) (n : ℕ) (m : Seats) → IsAt g.queue g.wide p h x → Sees xs n x k
      → StandAll (λ c. c == p) k.seen m → Publishes k.seen m t → Acts layout t h x.seen k.seen xs n
  one_acts p x k xs n m at sees stand all =
      let new : List Event = sees.grows.new in
      let legal : IsLegal g.wide k.seen = subst (λ (l : Layout). IsLegal l k.seen) (sees.same.layout_is ∙ at.layout_is) sees.legal in
      (acts_so (λ c. c == p) x.seen k.seen new xs n m stand all legal at.begins
      (λ c seat on. subst (λ (q : ℕ). own q x.seen ≡ own q h) (sym (eqb-true c p on)) at.mine) sees.grows.is
      (subst (λ (q : ℕ). own q new ≡ xs) at.number_is sees.grows.mine)
      (subst (λ (q : ℕ). n ≤ length (others q new)) at.number_is sees.grows.theirs)).0

  -- a sender acted, and then all heard what it had seen
  pub sender_acts : (p : ℕ) (x k : Known) (xs : List Event) (n : ℕ) → p < layout.senders → x ≡ get_or s.senders.items p x → Sees xs n x k
      → Publishes k.seen (replacing_sender s p k) t → Acts layout t h x.seen k.seen xs n
  sender_acts p x k xs n lt is sees all =
      let q : List Known = s.senders.items in
      let at : IsAt g.queue g.wide p h x = subst (λ (v : Known). IsAt g.queue g.wide p h v) (sym is) (g.senders p x lt) in
      let put : (i : ℕ) (d : Known) → i ≡ p → get_or (set q p k) i d ≡ k =
      λ i d is. ap (λ (j : ℕ). get_or (set q p k) j d) is ∙ get_or-set_same q p k d (omega (arith, lt, g.count)) in
      one_acts p x k xs n (replacing_sender s p k) at sees record {
        count = length-set q p k ∙ g.count;
        senders = λ i d less. elim (cases_eq i p) [
          | inl is ↦ inr (
            eq-eqb i p is,
            subst (λ (v : Known). IsAt g.queue g.wide i k.seen v) (sym (put i d is))
                (subst (λ (c : ℕ). IsAt g.queue g.wide c k.seen k) (sym is) (acted p x k xs n at sees)),
          )
          | inr ne ↦ inl (subst (λ (v : Known). IsAt g.queue g.wide i h v) (sym (get_or-set_other q p i k d ne)) (g.senders i d less))
        ];
        sender = inl g.sender;
        owner = inl g.owner;
        delay = inl g.delay;
        tries = g.tries;
      } all

  -- the delay table's sender acted
  pub delay_acts : (d : DelayState) (xs : List Event) (n : ℕ) → Sees xs n s.delay.sender d.sender
      → Publishes d.sender.seen (record { worker = s.worker; delay = d; senders = s.senders }) t → Acts layout t h s.delay.sender.seen d.sender.seen xs n
  delay_acts d xs n sees all =
      let p : ℕ = layout.senders + 1 in
      one_acts p s.delay.sender d.sender xs n (record { worker = s.worker; delay = d; senders = s.senders }) g.delay sees record {
        count = g.count;
        senders = λ i e lt. inl (g.senders i e lt);
        sender = inl g.sender;
        owner = inl g.owner;
        delay = inr (eq-eqb p p refl, acted p s.delay.sender d.sender xs n g.delay sees);
        tries = g.tries;
      } all

  -- the worker acted
  pub worker_acts : (w : WorkerState Lists) (xs : List Event) (n : ℕ) (moves : Moves xs n s.worker w)
      → Publishes w.seen (record { worker = w; delay = s.delay; senders = s.senders }) t
      → Acts layout t h s.worker.seen w.seen xs n × (filter (λ e. not (is_ours layout.senders e)) moves.adds.new ≡ [])
  worker_acts w xs n moves all =
      let v : List Event = s.worker.seen in let p : ℕ = layout.senders in let new : List Event = moves.adds.new in
      let f : ℕ → Bool = λ c. (c == p) || (c == owner_seat) in
      let stand : StandAll f w.seen (record { worker = w; delay = s.delay; senders = s.senders }) = record {
        count = g.count;
        senders = λ i d lt. inl (g.senders i d lt);
        sender = inr (
          ap (λ (b : Bool). b || (p == owner_seat)) (eq-eqb p p refl),
          record {
            queue_is = moves.queue ∙ g.sender.queue_is;
            layout_is = moves.layout ∙ g.sender.layout_is;
            number_is = moves.number ∙ g.sender.number_is;
            begins = prefix_self w.seen;
            mine = refl;
          },
        );
        owner = inr (
          or-true (owner_seat == p),
          record {
            queue_is = moves.queue ∙ g.sender.queue_is;
            layout_is = moves.layout ∙ g.sender.layout_is;
            number_is = refl;
            begins = prefix_self w.seen;
            mine = refl;
          },
        );
        delay = inl g.delay;
        tries = moves.tries ∙ g.tries;
      } in
      acts_so f v w.seen new xs n (record { worker = w; delay = s.delay; senders = s.senders }) stand all
      (subst (λ (l : Layout). IsLegal l w.seen) (moves.layout ∙ g.sender.layout_is) moves.legal) g.sender.begins
      (λ c seat on. elim (or_cases (c == p) (c == owner_seat) on) [
        | inl is ↦ subst (λ (m : ℕ). own m v ≡ own m h) (sym (eqb-true c p is)) g.sender.mine
        | inr is ↦ subst (λ (m : ℕ). own m v ≡ own m h) (sym (eqb-true c owner_seat is)) g.owner.mine
      ]) moves.adds.is
      (subst (λ (m : ℕ). filter (is_ours m) new ≡ xs) g.sender.number_is moves.adds.ours)
      (subst (λ (m : ℕ). n ≤ length (filter (λ e. not (is_ours m e)) new)) g.sender.number_is moves.adds.theirs)
