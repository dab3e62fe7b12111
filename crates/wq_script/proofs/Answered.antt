-- What is counted of a queueing, and of the calls of the delay table.
use Rattle.wq_script.proofs.Common.{◌≡◌, ◌≢◌, ℕ, ◌+◌, Bool, true, false, ◌&&◌, ◌||◌, ◌==◌, List, [], ◌∷◌, ◌++◌, length, map, refl, sym, subst, arith}
use Rattle.wq_script.proofs.Common.{if◌then◌else◌, count_by, AllByRecursion, Event, Hold, Busy, Push, Back, pending, closed, is_push, owner_seat}
use Rattle.wq_script.proofs.Common.{seat_of, is_busy, is_refusal, Layout, armed_of, modified_of, DelayTable, on_table, is_too_far, queue_events}
use Rattle.wq_script.proofs.Common.{queue_answer, queues_now, arm_events, arm_answer, cancel_events, modify_events, modify_answer, posted_items, advance_events}
use Rattle.wq_script.proofs.Common.{not, shut, draining, post_events, post_answer}
use Rattle.wq_script.proofs.Common.{count_by-append, Tally, Tallied, counted, counted_armed, counted_push, counted_modified, counted_posts}
use Rattle.wq_words.specs.declared.event.Why.TheVariants as why
use Rattle.wq_words.specs.declared.answer.Armed.TheVariants as armed
use Rattle.wq_words.specs.declared.answer.Modified.TheVariants as modified
use Rattle.wq_script.proofs.Tallies.{Foreign, all_foreign, tallied_on}
use Rattle.wq_script.proofs.Queueings.{queue_says, queue_adds}

-- the delay table's sender is another seat
module _ (layout : Layout) where
  pub other_seat : layout.senders + 1 ≢ layout.senders
  other_seat is = absurd (omega (arith, is))

  pub no_owner_seat : layout.senders + 1 ≢ owner_seat
  no_owner_seat is = absurd (omega (arith, is, layout.in_limits.2.1))

module _ (w s k : ℕ) (h : List Event) (t : Tally) (other : s ≢ w) (no_owner : s ≢ owner_seat) (told : Tallied t w h) where
  -- so go the counts and the events of another seat
  abbrev pub TalliesAs : Tally → List Event → Type 0
  TalliesAs u es = Tallied u w (h ++ es) × Foreign w es

  -- they go so where the sender made just these events
  by_sender : (u : Tally) (es : List Event) → AllByRecursion (λ e. seat_of e ≡ s) es → u.queued ≡ t.queued + count_by is_push es
      → u.busy ≡ t.busy + count_by is_busy es → u.refused ≡ t.refused + count_by is_refusal es → TalliesAs u es
  by_sender u es all q b r = let f = all_foreign w s es other no_owner all in (tallied_on t u w h es told f q b r, f)

  busy_counts : TalliesAs (record t { busy = t.busy + 1 }) (Busy s k ∷ [])
  busy_counts = by_sender (record t { busy = t.busy + 1 }) (Busy s k ∷ []) (refl, tt) (omega arith) refl (omega arith)

  refused_counts : TalliesAs (record t { refused = t.refused + 1 }) (Hold s k ∷ Back s k why.Closed ∷ [])
  refused_counts = by_sender (record t { refused = t.refused + 1 }) (Hold s k ∷ Back s k why.Closed ∷ []) (refl, (refl, tt)) (omega arith) (omega arith) refl

  drained_counts : TalliesAs (record t { refused = t.refused + 1 }) (Hold s k ∷ Back s k why.Draining ∷ [])
  drained_counts = by_sender (record t { refused = t.refused + 1 }) (Hold s k ∷ Back s k why.Draining ∷ []) (refl, (refl, tt)) (omega arith) (omega arith) refl

  queued_counts : TalliesAs (record t { queued = t.queued + 1 }) (Hold s k ∷ Push s k ∷ [])
  queued_counts = by_sender (record t { queued = t.queued + 1 }) (Hold s k ∷ Push s k ∷ []) (refl, (refl, tt)) refl (omega arith) (omega arith)

  no_counts : TalliesAs t []
  no_counts = by_sender t [] tt (omega arith) (omega arith) (omega arith)

  held_counts : TalliesAs t (Hold s k ∷ [])
  held_counts = by_sender t (Hold s k ∷ []) (refl, tt) (omega arith) (omega arith) (omega arith)

  post_counts : (back : Bool) → TalliesAs (if back then record t { refused = t.refused + 1 } else record t { queued = t.queued + 1 })
      ((if back then Back s k why.Closed else Push s k) ∷ [])
  post_counts true = by_sender (record t { refused = t.refused + 1 }) (Back s k why.Closed ∷ []) (refl, tt) (omega arith) (omega arith) refl
  post_counts false = by_sender (record t { queued = t.queued + 1 }) (Push s k ∷ []) (refl, tt) refl (omega arith) (omega arith)

  pub cancel_counts : (table : DelayTable) → TalliesAs t (cancel_events s k table)
  cancel_counts table = each (on_table k table.entries)
    where
      each : (b : Bool) → TalliesAs t (if b then Back s k why.Cancelled ∷ [] else [])
      each true = by_sender t (Back s k why.Cancelled ∷ []) (refl, tt) (omega arith) (omega arith) (omega arith)
      each false = no_counts

  pub queue_counts : TalliesAs (counted (queue_answer k h) t) (queue_events s k h)
  queue_counts = each (pending h k) (closed h) (draining h)
    where
      each : (set back drains : Bool) → TalliesAs (counted (queue_says h set back drains) t) (queue_adds s k set back drains)
      each true back drains = busy_counts
      each false true drains = refused_counts
      each false false true = drained_counts
      each false false false = queued_counts

  pub arm_counts : (delay : ℕ) (table : DelayTable) → TalliesAs (counted_armed (arm_answer k delay h table) t) (arm_events s k delay h table)
  arm_counts delay table = each (is_too_far delay table) (queues_now k delay h) (pending h k) (closed h) (draining h)
    where
      each : (far now set back drains : Bool)
          → TalliesAs (counted_armed (if far then armed.TooFar else (if now then armed_of (queue_says h set back drains) else armed.OnTable)) t)
          (if far then [] else (if now then queue_adds s k set back drains else Hold s k ∷ []))
      each true now set back drains = no_counts
      each false true true back drains = busy_counts
      each false true false true drains = refused_counts
      each false true false false true = drained_counts
      each false true false false false = queued_counts
      each false false set back drains = held_counts

  -- a push is counted where there is no delay
  module _ (delay : ℕ) where
    at_once : (es : List Event) → (delay == 0) ≡ true → TalliesAs (record t { queued = t.queued + 1 }) es → TalliesAs (counted_push delay t) es
    at_once es is c = subst (λ (b : Bool). TalliesAs (if b then record t { queued = t.queued + 1 } else t) es) (sym is) c

    later : (es : List Event) → (delay == 0) ≡ false → TalliesAs t es → TalliesAs (counted_push delay t) es
    later es is c = subst (λ (b : Bool). TalliesAs (if b then record t { queued = t.queued + 1 } else t) es) (sym is) c

    -- a modification of an item on the table, and of another, by the tests on which it rests
    on_counts : (zero back shuts : Bool) → (delay == 0) ≡ zero
        → TalliesAs (counted_modified delay true (if zero then (if back then modified.Closed
        else if shuts && not back then modified.Draining else modified.Moved) else modified.Moved) t)
        (if zero then (if shuts && not back then [] else (if back then Back s k why.Closed else Push s k) ∷ []) else [])
    on_counts true true true is = post_counts true
    on_counts true true false is = post_counts true
    on_counts true false true is = no_counts
    on_counts true false false is = at_once (Push s k ∷ []) is (post_counts false)
    on_counts false back shuts is = later [] is no_counts

    off_counts : (far zero set back drains : Bool) → (delay == 0) ≡ zero
        → TalliesAs (counted_modified delay false (modified_of (if far then armed.TooFar
        else (if zero || set then armed_of (queue_says h set back drains) else armed.OnTable))) t)
        (if far then [] else (if zero || set then queue_adds s k set back drains else Hold s k ∷ []))
    off_counts true zero set back drains is = no_counts
    off_counts false true true back drains is = busy_counts
    off_counts false true false true drains is = refused_counts
    off_counts false true false false true is = drained_counts
    off_counts false true false false false is = at_once (Hold s k ∷ Push s k ∷ []) is queued_counts
    off_counts false false true back drains is = busy_counts
    off_counts false false false back drains is = later (Hold s k ∷ []) is held_counts

    pub modify_counts : (table : DelayTable)
        → TalliesAs (counted_modified delay (on_table k table.entries) (modify_answer k delay h table) t) (modify_events s k delay h table)
    modify_counts table =
        each (is_too_far delay table) (on_table k table.entries) (on_counts (delay == 0) (closed h) (shut h) refl)
        (off_counts (is_too_far delay table) (delay == 0) (pending h k) (closed h) (draining h) refl)
      where
        each : (far on : Bool)
            → TalliesAs (counted_modified delay true (if delay == 0 then post_answer h else modified.Moved) t) (if delay == 0 then post_events s k h else [])
            → TalliesAs (counted_modified delay false (modified_of (arm_answer k delay h table)) t) (arm_events s k delay h table)
            → TalliesAs (counted_modified delay on (if far then modified.TooFar else
            (if on then (if delay == 0 then post_answer h else modified.Moved) else modified_of (arm_answer k delay h table))) t)
            (if far then [] else (if on then (if delay == 0 then post_events s k h else []) else arm_events s k delay h table))
        each true on moved anew = no_counts
        each false true moved anew = moved
        each false false moved anew = anew

-- the items that are posted
posts_foreign : (s : ℕ) (b : Bool) (ks : List ℕ) → AllByRecursion (λ e. seat_of e ≡ s) (map (λ k. if b then Back s k why.Closed else Push s k) ks)
posts_foreign s b [] = tt
posts_foreign s b (k ∷ ks) = (one b, posts_foreign s b ks)
  where
    one : (b : Bool) → seat_of (if b then Back s k why.Closed else Push s k) ≡ s
    one true = refl
    one false = refl

-- how many of these are pushes, found the bit set, and were refused
record AreMany (es : List Event) (pushed refused : ℕ) : Type 0 where
  pushes : count_by is_push es ≡ pushed
  busy : count_by is_busy es ≡ 0
  refusals : count_by is_refusal es ≡ refused

posts_pushed : (s : ℕ) (ks : List ℕ) → AreMany (map (λ k. Push s k) ks) (length ks) 0
posts_pushed s [] = record { pushes = refl; busy = refl; refusals = refl }
posts_pushed s (k ∷ ks) = let r = posts_pushed s ks in let es : List Event = map (λ k. Push s k) ks in record {
  pushes = omega (arith, r.pushes, count_by-append is_push (Push s k ∷ []) es);
  busy = omega (arith, r.busy, count_by-append is_busy (Push s k ∷ []) es);
  refusals = omega (arith, r.refusals, count_by-append is_refusal (Push s k ∷ []) es);
}

posts_refused : (s : ℕ) (ks : List ℕ) → AreMany (map (λ k. Back s k why.Closed) ks) 0 (length ks)
posts_refused s [] = record { pushes = refl; busy = refl; refusals = refl }
posts_refused s (k ∷ ks) = let r = posts_refused s ks in let es : List Event = map (λ k. Back s k why.Closed) ks in record {
  pushes = omega (arith, r.pushes, count_by-append is_push (Back s k why.Closed ∷ []) es);
  busy = omega (arith, r.busy, count_by-append is_busy (Back s k why.Closed ∷ []) es);
  refusals = omega (arith, r.refusals, count_by-append is_refusal (Back s k why.Closed ∷ []) es);
}

pub advance_counts : (w s tick : ℕ) (h : List Event) (t : Tally) (table : DelayTable) → s ≢ w → s ≢ owner_seat → Tallied t w h
    → Tallied (counted_posts (closed h) (length (posted_items tick h table)) t) w (h ++ advance_events s tick h table)
    × Foreign w (advance_events s tick h table)
advance_counts w s tick h t table other no_owner told = each (closed h) (posted_items tick h table)
  where
    each : (b : Bool) (ks : List ℕ) → Tallied (counted_posts b (length ks) t) w (h ++ map (λ k. if b then Back s k why.Closed else Push s k) ks)
        × Foreign w (map (λ k. if b then Back s k why.Closed else Push s k) ks)
    each true ks =
        let p = posts_refused s ks in
        by_sender w s 0 h t other no_owner told (record t { refused = t.refused + length ks }) (map (λ k. Back s k why.Closed) ks) (posts_foreign s true ks)
        (omega (arith, p.pushes)) (omega (arith, p.busy)) (omega (arith, p.refusals))
    each false ks =
        let p = posts_pushed s ks in
        by_sender w s 0 h t other no_owner told (record t { queued = t.queued + length ks }) (map (λ k. Push s k) ks) (posts_foreign s false ks)
        (omega (arith, p.pushes)) (omega (arith, p.busy)) (omega (arith, p.refusals))
