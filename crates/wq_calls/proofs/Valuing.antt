-- The queueings of items with their values.
use Rattle.wq_calls.proofs.Common.{◌≡◌, Bool, ℕ, ◌<◌, true, [], ◌∷◌, ◌++◌, Option, Some, sym, ap, ◌∙◌, subst, arith, TableId, rest, Layout, Push}
use Rattle.wq_calls.proofs.Common.{Back, None, Sees, Why, Posted, Holds, own, number_count, Standing, Hand, ValueStanding, standing_of, part_in, HasValue, Learns}
use Rattle.wq_calls.proofs.Common.{LearnsOrStays, learns_on, learns_or, Sent, Known, TestsAndSets, Answers, IsContended, Sending, sending_in}
use Rattle.wq_calls.proofs.Common.{sender_view, Sends, Settles, HoldsSlot, IsToBring, PostsSlot, answer_of, IsBroughtBy, sender_with}
use Rattle.wq_words.specs.declared.answer.Answer.TheVariants as answer
use Rattle.wq_words.specs.declared.answer.Posted.TheVariants as posted
use Rattle.wq_table.specs.Chair.{HasSeen}
use Rattle.wq_table.specs.SlotSteps.{in_front}
use Rattle.wq_table.specs.SlotChairs.{Exchanges}
use Rattle.wq_calls.specs.declared.value_answer.ValueAnswer.{ValueAnswer}
use Rattle.wq_calls.specs.declared.value_answer.ValueAnswer.TheVariants as value
use Rattle.wq_calls.specs.Sits.{sending}
use Rattle.wq_calls.specs.Tries.{Tries, IsHeldAfter}
use Rattle.wq_calls.specs.Hands.{Brings, IsEmptied, LeavesHand}
use Rattle.wq_calls.specs.KnownWith.{BringsOrReturns}
use Rattle.wq_calls.specs.Valued.{IsFilledAfter, Returns, SettlesValue}
use Rattle.wq_calls.proofs.Sends.{sees_hold}
use Rattle.wq_calls.proofs.Settled.{tried_same, held_after, answers_settled, contended_settled}

module _ {V : Type 0} where
  -- what the seat's last push brought, as the sender sees it
  pub is_brought_by : (at k : ℕ) (first wakes : Bool) (y : Option V) (it : ValueStanding V) (s : Sent) → Sends (sending_in at it s)
      → Brings at k first wakes y it → IsBroughtBy k first wakes y (sender_with at it s)
  is_brought_by at k first wakes y it s sends brings = let push = brings.0 in (
    record {
      before = push.before;
      after = push.after;
      is = push.is ∙ ap (λ (c : ℕ). push.before ++ Push c k ∷ push.after) sends.number_is;
      last = subst (λ (c : ℕ). own c push.after ≡ []) sends.number_is push.last;
      first_is = push.first_is;
      wakes_is = push.wakes_is;
    },
    brings.1,
  )

  -- an exchange changes the hand alone
  module _ (k : ℕ) (y z : Option V) (a b : ValueStanding V) (e : Exchanges k y z a b) where
    exchanged_is : b ≡ record a { hand = b.hand }
    exchanged_is i = record { queue = e.queue_is i; first = e.first_is i; others = e.others_are i; hand = b.hand }

    pub exchanged_standing : standing_of b ≡ standing_of a
    exchanged_standing = ap standing_of exchanged_is

    pub exchanged_sending : (at : ℕ) (s : Sent) → sending_in at b s ≡ sending_in at a s
    exchanged_sending at s = ap (λ (it : Standing). sending at it s) exchanged_standing

    -- what is in front now, and behind it
    pub front_is : in_front b.hand ≡ y
    front_is = ap in_front e.is

    pub behind_is : rest b.hand ≡ rest a.hand
    behind_is = ap rest e.is

    pub exchanged_has : HasValue k y b.hand
    exchanged_has = e.is ∙ ap (λ (c : Hand V). (k, y) ∷ c) (sym behind_is)

    -- before steps
    pub exchanged_learns : (at : ℕ) (c : ValueStanding V) → Learns at b c → Learns at a c
    exchanged_learns at c l = let m : Learns at (record a { hand = b.hand }) c = subst (λ (it : ValueStanding V). Learns at it c) exchanged_is l in
        record { follow = m.follow; brought = m.brought; know = m.know; told = m.told; right = m.right }

  -- the value was taken out of the slot of k, which is then given back
  module _ (at k : ℕ) (v : V) (a b : ValueStanding V) (s : Sent) (e : Exchanges k None (Some v) a b) where
    same : sending_in at b s ≡ sending_in at a s
    same = exchanged_sending k None (Some v) a b e at s

    pub taken_ready : Sends (sending_in at a s) → k < s.layout.items → Holds (part_in at a).seen s.number k
        → Sends (sending_in at b s) × (k < number_count s.layout) × Holds (part_in at b).seen s.number k × IsEmptied k b
    taken_ready sends less held = (
      subst Sends (sym same) sends,
      omega (arith, less),
      subst (λ (y : Sending). Holds y.chair.part.seen y.number k) (sym same) held,
      λ some. exchanged_has k None (Some v) a b e,
    )

    pub taken_sees : (word : ℕ) → HasSeen word (part_in at a).stage → HasSeen word (part_in at b).stage
    taken_sees word = subst (λ (y : Sending). HasSeen word y.chair.part.stage) (sym same)

    pub taken_gives : (why : Why) (now : Known) → Sees (Back s.number k why ∷ []) 0 (sender_view (sending_in at b s)) now
        → Sees (Back s.number k why ∷ []) 0 (sender_view (sending_in at a s)) now
    taken_gives why now = subst (λ (y : Sending). Sees (Back s.number k why ∷ []) 0 (sender_view y) now) same

    pub taken_back : (c : ValueStanding V) → 0 < a.queue.slots → LeavesHand b c → (c.hand ≡ rest a.hand) × (in_front a.hand ≡ Some v)
    taken_back c some leaves =
        (leaves.some (subst (λ (q : TableId). 0 < q.slots) (sym e.queue_is) some) ∙ behind_is k None (Some v) a b e, ap in_front e.was)

  -- an item was held, its slot came, and the value was put into it
  module _ (at k : ℕ) (v : V) (z : Option V) (a b x : ValueStanding V) (s t : Sent) (some : 0 < a.queue.slots) (less : k < s.layout.items)
      (held : TestsAndSets k true (sender_view (sending_in at a s)) (sender_view (sending_in at b t))) (comes : HoldsSlot k true a b)
      (sends : Sends (sending_in at b t)) (learns : Learns at a b) (e : Exchanges k (Some v) z b x) where
    abbrev pub old : Known
    old = sender_view (sending_in at a s)

    abbrev pub filled : Known
    filled = sender_view (sending_in at x t)

    filled_held : TestsAndSets k true old filled
    filled_held = subst (λ (y : Sending). TestsAndSets k true old (sender_view y)) (sym (exchanged_sending k (Some v) z b x e at t)) held

    put_held : Holds filled.seen t.number k
    put_held = sees_hold k 0 old filled filled_held

    same_items : k < t.layout.items
    same_items = subst (λ (l : Layout). k < l.items) (sym held.same.layout_is) less

    has : HasValue k (Some v) x.hand
    has = exchanged_has k (Some v) z b x e

    front : in_front x.hand ≡ Some v
    front = front_is k (Some v) z b x e

    behind : rest x.hand ≡ a.hand
    behind = behind_is k (Some v) z b x e ∙ ap rest (comes.some some)

    slots : 0 < x.queue.slots
    slots = subst (λ (q : TableId). 0 < q.slots) (sym (e.queue_is ∙ learns.follow.queue_is)) some

    -- it may be pushed
    pub put_ready : Sends (sending_in at x t) × (k < number_count t.layout) × Holds filled.seen t.number k × IsToBring t.layout.items k x
    put_ready = (
      subst Sends (sym (exchanged_sending k (Some v) z b x e at t)) sends,
      omega (arith, same_items),
      put_held,
      λ some. ((Some v, has), ((λ low. (v, front)), (λ high. absurd (omega (arith, high, same_items))))),
    )

    module _ (d : ValueStanding V) (u : Sent) (n : ℕ) (p : Posted) (tried : Tries k n p filled (sender_view (sending_in at d u)))
        (goes : Learns at x d) (posts : PostsSlot at k p x d) where
      still_filled : (o : Posted) → PostsSlot at k o x d → IsFilledAfter o k d
      still_filled (posted.Queued first wakes) is = tt
      still_filled posted.Closed is = (v, subst (HasValue k (Some v)) (sym is) has)
      still_filled posted.Draining is = (v, subst (HasValue k (Some v)) (sym is) has)
      still_filled posted.Contended is = (v, subst (HasValue k (Some v)) (sym is) has)

      -- it may be given back, where it was not pushed
      pub put_tried : (k < u.layout.items) × IsHeldAfter p k (sender_view (sending_in at d u)) × (0 < d.queue.slots) × IsFilledAfter p k d
      put_tried = (
        subst (λ (l : Layout). k < l.items) (sym (tried_same k n p filled (sender_view (sending_in at d u)) tried).layout_is) same_items,
        held_after k n p filled (sender_view (sending_in at d u)) tried put_held,
        subst (λ (q : TableId). 0 < q.slots) (sym goes.follow.queue_is) slots,
        still_filled p posts,
      )

      module _ (f : ValueStanding V) (w : Sent) (r : ValueAnswer V) (ready : Sends (sending_in at f w))
          (settles : Settles k p (answer_of r) (sender_view (sending_in at d u)) (sender_view (sending_in at f w))) (settled : SettlesValue p r d f) where
        -- the value comes back
        same_value : (y : V) → d.hand ≡ x.hand → in_front d.hand ≡ Some y → y ≡ v
        same_value y is was = let one = ap in_front is ∙ front in cc

        came_back : (o : ValueAnswer V) → d.hand ≡ x.hand → Returns o d → BringsOrReturns k v o (sender_with at f w)
        came_back (value.Queued first wakes) is was = absurd was
        came_back (value.Pending y) is was = same_value y is was
        came_back (value.Closed y) is was = same_value y is was
        came_back (value.Contended y) is was = same_value y is was
        came_back (value.Draining y) is was = same_value y is was

        -- or is what the item brought
        is_brought : (o : ValueAnswer V) (first wakes : Bool) → PostsSlot at k (posted.Queued first wakes) x f → answer_of o ≡ answer.Queued first wakes
            → BringsOrReturns k v o (sender_with at f w)
        is_brought (value.Queued first' wakes') first wakes brings is =
            let one : first ≡ first' = cc in let two : wakes ≡ wakes' = cc in
            subst (λ (y : Bool × Bool × Option V). IsBroughtBy k y.0 y.1 y.2 (sender_with at f w)) (λ i. (one i, two i, front i))
            (is_brought_by at k first wakes (in_front x.hand) f w ready (brings.1 slots))
        is_brought (value.Pending y) first wakes brings is = absurd (cc)
        is_brought (value.Closed y) first wakes brings is = absurd (cc)
        is_brought (value.Contended y) first wakes brings is = absurd (cc)
        is_brought (value.Draining y) first wakes brings is = absurd (cc)

        left_hand : d.hand ≡ x.hand → f.hand ≡ rest d.hand → f.hand ≡ a.hand
        left_hand is rests = rests ∙ (ap rest is ∙ behind)

        ends : (o : Posted) → PostsSlot at k o x d → Settles k o (answer_of r) (sender_view (sending_in at d u)) (sender_view (sending_in at f w))
            → SettlesValue o r d f → BringsOrReturns k v r (sender_with at f w) × (f.hand ≡ a.hand)
        ends (posted.Queued first wakes) is answers stays = (
          is_brought r first wakes (subst (PostsSlot at k (posted.Queued first wakes) x) (sym stays) is) answers.0,
          ap (λ (it : ValueStanding V). it.hand) stays ∙ (is.0.some slots ∙ behind),
        )
        ends posted.Closed is answers left = (came_back r is left.1, left_hand is left.0)
        ends posted.Draining is answers left = (came_back r is left.1, left_hand is left.0)
        ends posted.Contended is answers left = (came_back r is left.1, left_hand is left.0)

        pub put_settled : LearnsOrStays at d f → Learns at a f × Answers k n (answer_of r) old (sender_view (sending_in at f w))
            × (answer_of r ≡ answer.Contended → IsContended s.number k n (part_in at f).seen)
            × BringsOrReturns k v r (sender_with at f w) × (f.hand ≡ a.hand)
        put_settled gives = let tried' = sender_view (sending_in at d u) in let now = sender_view (sending_in at f w) in
            let end = ends p posts settles settled in (
              learns_on at a b f learns (exchanged_learns k (Some v) z b x e at f (learns_or at x d f goes gives)),
              answers_settled k n old filled tried' now filled_held p (answer_of r) tried settles,
              contended_settled k n old filled tried' now filled_held p (answer_of r) tried settles,
              end.0,
              end.1,
            )
