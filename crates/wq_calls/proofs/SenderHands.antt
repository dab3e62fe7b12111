-- The slots that a sender has in hand, step after step of a queueing.
use Rattle.wq_calls.proofs.Common.{◌≡◌, ℕ, zero, suc, ◌<◌, ◌≤◌, ◌==◌, Bool, true, false, if◌then◌else◌, List, [], ◌∷◌, ◌++◌, slice_get, Option, Some}
use Rattle.wq_calls.proofs.Common.{None, unwrap_or, MatchBool, sym, refl, ap, ◌∙◌, subst, arith, rest, TableId, Event, Why, Answer, Posted, Layout}
use Rattle.wq_calls.proofs.Common.{own, Carries, slice_get_last, Check, Machine, link_word, Stage, Owns, HasStage, Hand, ValueStanding, ValueSteps}
use Rattle.wq_calls.proofs.Common.{part_in, HasValue, Known, Settles, HoldsSlot, IsToBring, PostsSlot, QueuesSlot}
use Rattle.wq_words.specs.declared.event.Event.TheVariants as event
use Rattle.wq_words.specs.declared.answer.Answer.TheVariants as answer
use Rattle.wq_words.specs.declared.answer.Posted.TheVariants as posted
use Rattle.wq_words.specs.History.{first}
use Rattle.wq_words.specs.Rest.{wakes}
use Rattle.wq_core.specs.declared.step.Private.{Private}
use Rattle.wq_core.specs.declared.step.Step.TheVariants.{Hold, Look, Link, Push, Back}
use Rattle.wq_core.specs.Machine.{seen_word}
use Rattle.wq_table.specs.declared.table.Stage.TheVariants.{Sends}
use Rattle.wq_table.specs.Chair.{HasLinked}
use Rattle.wq_table.specs.SlotSteps.{in_front}
use Rattle.wq_table.specs.SlotChairs.{HasSlot}
use Rattle.wq_calls.specs.Hands.{LeavesHand, IsEmptied, IsEmptiedAfter, Brings, SettlesSlot}
use Rattle.wq_calls.proofs.Tells.{push_tells, Wins, Loses}

-- there are slots, or none
by_slots : {A : Type 0} (n : ℕ) → (0 < n → A) → (n ≡ 0 → A) → A
by_slots zero some none = none refl
by_slots (suc n) some none = some (omega arith)

-- the word that the sender saw is the one that it linked to
saw_linked : (m : Machine) (c w k : ℕ) (st : Stage) → HasStage m c st → HasLinked w k st → seen_word m c ≡ w
saw_linked m c w k (Sends q) keeps is = ap (λ (x : Private). unwrap_or x.seen 0) keeps.1 ∙ ap (λ (o : Option ℕ). unwrap_or o 0) is.0
saw_linked m c w k (Owns a b d) keeps is = absurd is

module _ {V : Type 0} where
  -- the hand stays
  pub look_hand : (at word : ℕ) (said : Option V) (a b : ValueStanding V) → ValueSteps at said Look word a b → b.hand ≡ a.hand
  look_hand at word said a b s = by_slots a.queue.slots (λ some. (s.moves some).1) s.hand_same

  pub link_hand : (at k word : ℕ) (said : Option V) (a b : ValueStanding V) → ValueSteps at said (Link k) word a b → b.hand ≡ a.hand
  link_hand at k word said a b s = by_slots a.queue.slots (λ some. (s.moves some).1) s.hand_same

  pub check_hand : (at k word : ℕ) (said : Option V) (a b : ValueStanding V) → ValueSteps at said (Check k) word a b → b.hand ≡ a.hand
  check_hand at k word said a b s = by_slots a.queue.slots (λ some. (s.moves some).1) s.hand_same

  pub hold_slot : (at k word : ℕ) (said : Option V) (a b : ValueStanding V) → ValueSteps at said (Hold k) word a b → HoldsSlot k (word == 0) a b
  hold_slot at k word said a b s = go (word == 0) (λ some. (s.moves some).1)
    where
      go : (z : Bool) → (0 < a.queue.slots → b.hand ≡ (if z then (k, None) ∷ a.hand else a.hand)) → HoldsSlot k z a b
      go true is = record { some = is; none = s.hand_same }
      go false is = by_slots a.queue.slots is s.hand_same

  pub back_leaves : (at k word : ℕ) (why : Why) (said : Option V) (a b : ValueStanding V) → ValueSteps at said (Back k why) word a b → LeavesHand a b
  back_leaves at k word why said a b s = record { some = λ some. (s.moves some).1; none = s.hand_same }

  module _ (at k w word : ℕ) (said : Option V) (a b : ValueStanding V) (linked : HasLinked w k (part_in at a).stage)
      (s : ValueSteps at said (Push k) word a b) where
    saw : seen_word s.steps.moves.makes.before (part_in at a).seat ≡ w
    saw = let makes = s.steps.moves.makes in saw_linked makes.before (part_in at a).seat w k (part_in at a).stage makes.fits.keeps linked

    moved : (z : Bool) → (word == w) ≡ z → 0 < a.queue.slots
        → MatchBool z ((s.brought' ≡ s.brought ++ in_front a.hand ∷ []) × (b.hand ≡ rest a.hand)) ((s.brought' ≡ s.brought) × (b.hand ≡ a.hand))
    moved z is some =
        subst (λ (z : Bool). MatchBool z ((s.brought' ≡ s.brought ++ in_front a.hand ∷ []) × (b.hand ≡ rest a.hand))
        ((s.brought' ≡ s.brought) × (b.hand ≡ a.hand)))
        (ap (λ (v : ℕ). word == v) saw ∙ is) (s.moves some)

    pub lost_hand : (word == w) ≡ false → b.hand ≡ a.hand
    lost_hand is = by_slots a.queue.slots (λ some. (moved false is some).1) s.hand_same

    won_brings : Wins s.steps.moves.makes.before.history k w (part_in at a) (part_in at b) → (word == w) ≡ true → 0 < a.queue.slots
        → Brings at k (link_word w == 0) (w == 0) (in_front a.hand) b
    won_brings wins is some =
        let p = part_in at a in let q = part_in at b in let pushed = wins.pushed in let seats = s.steps.moves.makes.seat_is in
        let h : List Event = s.steps.moves.makes.before.history in (
          record {
            before = h;
            after = pushed.after;
            is = pushed.is ∙ (λ i. wins.before_is i ++ event.Push (sym seats i) k ∷ pushed.after);
            last = subst (λ (c : ℕ). own c pushed.after ≡ []) (sym seats) pushed.last;
            first_is = pushed.first_is ∙ ap first wins.before_is;
            wakes_is = pushed.wakes_is ∙ ap wakes wins.before_is;
          },
          subst (λ (z : List (Option V) × ℕ). slice_get z.0 z.1 ≡ Some (in_front a.hand))
              (λ i. (sym (s.told.0 ∙ (moved true is some).0) i, s.as_many i)) (slice_get_last s.brought (in_front a.hand) []),
        )

    pub won_slot : (word == w) ≡ true → PostsSlot at k (posted.Queued (link_word w == 0) (w == 0)) a b
    won_slot is =
        let p = part_in at a in let q = part_in at b in let h : List Event = s.steps.moves.makes.before.history in
        let wins : Wins h k w p q = subst (λ (z : Bool). MatchBool z (Wins h k w p q) (Loses w p q)) is
        (push_tells k w word p q linked s.steps.moves.makes) in (
          record { some = λ some. (moved true is some).1; none = s.hand_same },
          won_brings wins is,
        )

  -- after steps that left the hand
  pub posts_from : (at k : ℕ) (a : Posted) (r s t : ValueStanding V) → s.queue ≡ r.queue → s.hand ≡ r.hand → PostsSlot at k a s t → PostsSlot at k a r t
  posts_from at k (posted.Queued is_first is_waking) r s t queue hand moves = subst
      (λ (z : TableId × Hand V). LeavesHand (record r { queue = z.0; hand = z.1 }) t × (0 < z.0.slots → Brings at k is_first is_waking (in_front z.1) t))
      (λ i. (queue i, hand i)) (record { some = moves.0.some; none = moves.0.none }, moves.1)
  posts_from at k posted.Closed r s t queue hand stays = stays ∙ hand
  posts_from at k posted.Draining r s t queue hand stays = stays ∙ hand
  posts_from at k posted.Contended r s t queue hand stays = stays ∙ hand

  pub bring_from : (k : ℕ) (l m : Layout) (r s : ValueStanding V) → m ≡ l → s.queue ≡ r.queue → s.hand ≡ r.hand → IsToBring l.items k r
      → IsToBring m.items k s
  bring_from k l m r s size queue hand = subst (λ (z : Layout × TableId × Hand V). 0 < z.1.slots → HasSlot k z.2 × Carries z.0.items k (in_front z.2))
      (λ i. (sym size i, sym queue i, sym hand i))

  -- a number that brings nothing, once it is held
  pub held_to_bring : (k : ℕ) (l m : Layout) (r s : ValueStanding V) → m ≡ l → s.queue ≡ r.queue → (0 < r.queue.slots → l.items ≤ k) → HoldsSlot k true r s
      → IsToBring m.items k s
  held_to_bring k l m r s size queue bare comes some =
      let some' : 0 < r.queue.slots = subst (λ (q : TableId). 0 < q.slots) queue some in let low : m.items ≤ k = subst (λ (z : Layout). z.items ≤ k) (sym size)
      (bare some') in
      subst (λ (c : Hand V). HasSlot k c × Carries m.items k (in_front c)) (sym (comes.some some'))
      ((None, refl), ((λ high. absurd (omega (arith, low, high))), λ high. refl))

  -- the slot of a held number comes with nothing in it
  pub came_empty : (k : ℕ) (r s : ValueStanding V) → HoldsSlot k true r s → 0 < r.queue.slots → HasSlot k s.hand
  came_empty k r s comes some = (None, subst (HasValue k None) (sym (comes.some some)) refl)

  module _ (at k : ℕ) (r s t : ValueStanding V) (queue : s.queue ≡ r.queue) (comes : HoldsSlot k true r s) where
    slots : 0 < r.queue.slots → 0 < s.queue.slots
    slots some = subst (λ (q : TableId). 0 < q.slots) (sym queue) some

    none_there : r.queue.slots ≡ 0 → s.queue.slots ≡ 0
    none_there none = ap (λ (q : TableId). q.slots) queue ∙ none

    emptied : t.queue ≡ s.queue → t.hand ≡ s.hand → IsEmptied k t
    emptied same hand some =
        let is = hand ∙ comes.some (subst (λ (q : TableId). 0 < q.slots) (same ∙ queue) some) in
        subst (λ (c : Hand V). HasValue k None c) (sym is) refl

    -- tries that did not push it leave its slot empty
    pub emptied_after : (a : Posted) → t.queue ≡ s.queue → PostsSlot at k a s t → IsEmptiedAfter a k t
    emptied_after (posted.Queued is_first is_waking) same moves = tt
    emptied_after posted.Closed same stays = emptied same stays
    emptied_after posted.Draining same stays = emptied same stays
    emptied_after posted.Contended same stays = emptied same stays

    -- what came to hand leaves it
    again : t.queue ≡ s.queue → t.hand ≡ s.hand → (u : ValueStanding V) → LeavesHand t u → u.hand ≡ r.hand
    again same hand u leaves = by_slots r.queue.slots
        (λ some. leaves.some (subst (λ (q : TableId). 0 < q.slots) (sym same) (slots some)) ∙ ap rest (hand ∙ comes.some some))
        (λ none. leaves.none (ap (λ (q : TableId). q.slots) same ∙ none_there none) ∙ (hand ∙ comes.none none))

    came : 0 < r.queue.slots → in_front s.hand ≡ None
    came some = ap in_front (comes.some some)

    -- held, tried, and settled
    pub queues_slot : (a : Posted) (b : Answer) (u : ValueStanding V) (v w : Known) → t.queue ≡ s.queue → PostsSlot at k a s t → SettlesSlot a t u
        → Settles k a b v w → QueuesSlot at k None b r u
    queues_slot (posted.Queued is_first is_waking) b u v w same moves left settled =
        subst (λ (z : Answer × ValueStanding V). QueuesSlot at k None z.0 r z.1) (λ i. (sym settled.0 i, sym left i)) (
          by_slots r.queue.slots (λ some. moves.0.some (slots some) ∙ ap rest (comes.some some))
              (λ none. moves.0.none (none_there none) ∙ comes.none none),
          λ some. subst (λ (y : Option V). Brings at k is_first is_waking y t) (came some) (moves.1 (slots some)),
        )
    queues_slot posted.Closed b u v w same moves left settled =
        subst (λ (z : Answer). QueuesSlot at k None z r u) (sym settled.0) (again same moves u left)
    queues_slot posted.Draining b u v w same moves left settled =
        subst (λ (z : Answer). QueuesSlot at k None z r u) (sym settled.0) (again same moves u left)
    queues_slot posted.Contended b u v w same moves left settled =
        subst (λ (z : Answer). QueuesSlot at k None z r u) (sym settled.0) (again same moves u left)

module _ {V : Type 0} (at k : ℕ) (a b : ValueStanding V) where
  -- after a queueing the hand is as before
  pub queued_hand : (y : _) (z : Answer) → QueuesSlot at k y z a b → b.hand ≡ a.hand
  queued_hand y (answer.Queued first wakes) moves = moves.0
  queued_hand y answer.Pending stays = stays
  queued_hand y answer.Closed stays = stays
  queued_hand y answer.Draining stays = stays
  queued_hand y answer.Contended stays = stays
