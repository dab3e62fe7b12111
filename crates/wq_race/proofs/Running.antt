-- A team whose threads have ended.
use Rattle.std.proofs.lemmas.Nat.{mul-le}
use Rattle.wq_race.proofs.Common.{◌≡◌, ℕ, suc, ◌+◌, ◌*◌, ◌^◌, ◌<◌, ◌≤◌, List, [], ◌++◌, length, get_or, sym, ap, ◌∙◌, subst, arith, count_by}
use Rattle.wq_race.proofs.Common.{AllByRecursion, QueueId, Layout, Event, IsRunning, IsShut, is_close, is_drain, owner_seat, own, Grows, closed_count}
use Rattle.wq_race.proofs.Common.{count_same, begun_same, Known}
use Rattle.wq_race.proofs.Common.{new_sender, is_chain, is_chain_busy, SendsAll, Plan, Team, IsLayoutOf, IsNewTeam, items_at, HasQueued, IsOfStop, HasStopped}
use Rattle.wq_race.proofs.Common.{HasServed, HasRaced, length-new_senders, get_or-new_senders, AllQueued, IsQueuer}
use Rattle.wq_words.proofs.ShutOwn.{shut_same, drain_own}
use Rattle.wq_race.proofs.Serving.{chains_same, asks_same}

pub untouched_unclosed : (h : List Event) → own owner_seat h ≡ [] → count_by is_close h ≡ 0
untouched_unclosed h none = closed_count [] h none

pub untouched_undrained : (h : List Event) → own owner_seat h ≡ [] → count_by is_drain h ≡ 0
untouched_undrained h none = count_same is_drain owner_seat drain_own [] h none

pub untouched_open : (h : List Event) → own owner_seat h ≡ [] → ¬ IsShut h
untouched_open h none shut = let never : IsShut [] = shut_same h [] (sym none) shut in omega (arith, never)

pub untouched_idle : (h : List Event) → own owner_seat h ≡ [] → ¬ IsRunning h
untouched_idle h none runs = omega (arith, runs, ap (length {A = ℕ}) (begun_same [] h none))

pub untouched_unchained : (h : List Event) → own owner_seat h ≡ [] → count_by is_chain h ≡ 0
untouched_unchained h none = chains_same [] h none

pub untouched_unasked : (h : List Event) → own owner_seat h ≡ [] → count_by is_chain_busy h ≡ 0
untouched_unasked h none = asks_same [] h none

-- a sender's items are below those of all
pub own_room : (s n m : ℕ) → s < n → s * m + m ≤ n * m
own_room s n m lt =
    let all : suc s * m ≤ n * m = mul-le (suc s) m n m (omega (arith, lt)) (omega arith) in
    let step : suc s * m ≡ s * m + m = omega arith in omega (arith, all, step)

pub rooms : (plan : Plan) (t : Team) → IsNewTeam plan t → (i : ℕ) (d : Known) → i < length t.senders.items
    → (get_or t.senders.items i d).number * plan.own + plan.own ≤ (get_or t.senders.items i d).layout.items
rooms plan t new i d lt =
    let q = t.worker.queue in let l = t.worker.layout in
    let few : i < plan.senders = omega (arith, lt, ap length new.senders_are, length-new_senders q l plan.senders) in
    let at : get_or t.senders.items i d ≡ new_sender q l i = ap (λ (xs : List Known). get_or xs i d) new.senders_are
    ∙ get_or-new_senders q l plan.senders i d few in
    subst (λ (k : Known). k.number * plan.own + plan.own ≤ k.layout.items) (sym at) (omega (arith, own_room i plan.senders plan.own few, new.layout.items_is))

-- what a seat that had seen nothing has made
pub own-first : (c : ℕ) (es v w : List Event) → v ≡ [] → Grows c es 0 v w → own c w ≡ es
own-first c es v w none g = ap (own c) (g.is ∙ ap (λ (z : List Event). z ++ g.new) none) ∙ g.mine

pub queuer : (m i : ℕ) (q : QueueId) (l : Layout) (a b : Known) → a ≡ new_sender q l i → HasQueued (items_at a.number m) a b → IsQueuer m q l i b
queuer m i q l a b at h =
    let number : a.number ≡ i = ap (λ (k : Known). k.number) at in
    let size : a.layout ≡ l = ap (λ (k : Known). k.layout) at in
    let mine : own a.number b.seen ≡ h.events = own-first a.number h.events a.seen b.seen (ap (λ (k : Known). k.seen) at) h.grows in
    record {
      number_is = h.same.number_is ∙ number;
      queue_is = h.same.queue_is ∙ ap (λ (k : Known). k.queue) at;
      layout_is = h.same.layout_is ∙ size;
      queued = subst (λ (n : ℕ). SendsAll n (items_at n m) (own n b.seen)) number
          (subst (λ (es : List Event). SendsAll a.number (items_at a.number m) es) (sym mine) h.queued);
    }

pub has_raced : (plan : Plan) (old new : Team) → IsNewTeam plan old → HasServed old.worker new.worker
    → AllQueued plan.own old.senders.items new.senders.items → HasStopped (2 * 2 ^ 32) old.program new.program → HasRaced plan new
has_raced plan old new n served all stopped =
    let q = old.worker.queue in let l = old.worker.layout in
    let count : length old.senders.items ≡ plan.senders = ap length n.senders_are ∙ length-new_senders q l plan.senders in
    let p : old.program.number ≡ plan.senders + 1 = ap (λ (k : Known). k.number) n.program_is in
    let size : old.program.layout ≡ new.worker.layout = ap (λ (k : Known). k.layout) n.program_is ∙ sym served.same.layout_is in
    let mine : own (plan.senders + 1) new.program.seen ≡ stopped.events = subst (λ (c : ℕ). own c new.program.seen ≡ stopped.events) p
    (own-first old.program.number stopped.events old.program.seen new.program.seen (ap (λ (k : Known). k.seen) n.program_is) stopped.grows) in
    record {
      layout = subst (IsLayoutOf plan.senders plan.own) (sym served.same.layout_is) n.layout;
      count = all.count ∙ count;
      each = λ i d lt.
          let at : get_or old.senders.items i d ≡ new_sender q l i = ap (λ (xs : List Known). get_or xs i d) n.senders_are
          ∙ get_or-new_senders q l plan.senders i d lt in
          let made = queuer plan.own i q l (get_or old.senders.items i d) (get_or new.senders.items i d) at (all.each i d (omega (arith, lt, count))) in
          subst (λ (k : Layout). IsQueuer plan.own new.worker.queue k i (get_or new.senders.items i d)) (sym served.same.layout_is)
          (subst (λ (k : QueueId). IsQueuer plan.own k l i (get_or new.senders.items i d)) (sym served.same.queue_is) made);
      number_is = served.same.number_is ∙ n.number_is;
      unsent = subst (λ (c : ℕ). own c new.worker.seen ≡ []) n.number_is (served.quiet.unsent ∙ n.unsent);
      unchained = served.quiet.unchained ∙ untouched_unchained old.worker.seen n.untouched;
      unasked = served.quiet.unasked ∙ untouched_unasked old.worker.seen n.untouched;
      unclosed = served.closes_is ∙ untouched_unclosed old.worker.seen n.untouched;
      undrained = served.drains_is ∙ untouched_undrained old.worker.seen n.untouched;
      stopped = served.stopped;
      idle = served.idle;
      legal = served.legal;
      program_number = stopped.same.number_is ∙ p;
      program_queue = stopped.same.queue_is ∙ (ap (λ (k : Known). k.queue) n.program_is ∙ sym served.same.queue_is);
      stops = subst (λ (k : Layout). AllByRecursion (IsOfStop k) (own (plan.senders + 1) new.program.seen)) size
          (subst (λ (es : List Event). AllByRecursion (IsOfStop old.program.layout) es) (sym mine) stopped.of_stop);
      few_stops = omega (arith, ap length mine, stopped.few_events);
    }
