-- What one try to push comes to: a look, a link and a push.
use Rattle.wq_calls.proofs.Common.{◌≡◌, ◌==◌, ℕ, ◌<◌, Bool, true, false, [], ◌∷◌, None, subst, sym, eq-eqb, ne_eqb, MatchBool, ◌∙◌, Push}
use Rattle.wq_calls.proofs.Common.{Posted, Holds, Layout, number_count, closed_word, draining_word, link_word, Part, IsSender, ValueStanding, ValueSteps, part_in, Learns}
use Rattle.wq_calls.proofs.Common.{learns_step, IsPushed, IsToBring, PostsSlot}
use Rattle.wq_words.specs.declared.answer.Posted.TheVariants as posted
use Rattle.wq_core.specs.declared.step.Step.TheVariants as step
use Rattle.wq_table.specs.Chair.{HasSeen, HasLinked}
use Rattle.wq_table.proofs.Learns.{learns_then}
use Rattle.wq_calls.specs.Tells.{PostsAs}
use Rattle.wq_calls.proofs.Drained.{grows_longer, met_now}
use Rattle.wq_calls.proofs.SenderHands.{look_hand, link_hand, lost_hand, won_slot, posts_from, bring_from}
use Rattle.wq_calls.proofs.Tells.{tells_held, tells_then, tells_others, look_tells, link_tells, push_tells, LookTells, Links, Wins, Loses, sender_made}

-- the seat tried to push k, and it came to this
pub record Attempted {V : Type 0} (at k : ℕ) (came : Posted) (a b : ValueStanding V) : Type 0 where
  pub posts : PostsAs k came (part_in at a) (part_in at b)
  pub sees_closed : came ≡ posted.Closed → HasSeen closed_word (part_in at b).stage
  pub sees : came ≡ posted.Draining → HasSeen draining_word (part_in at b).stage
  pub sender : IsSender (part_in at b).stage
  pub learns : Learns at a b
  pub slots : PostsSlot at k came a b

module _ {V : Type 0} (at k w : ℕ) (a b : ValueStanding V) (sender : IsSender (part_in at a).stage) (look : ValueSteps at None step.Look w a b) where
  looked : LookTells w (part_in at a) (part_in at b)
  looked = look_tells w (part_in at a) (part_in at b) sender look.steps.moves.makes

  sends : IsSender (part_in at b).stage
  sends = sender_made step.Look w (part_in at a) (part_in at b) look.steps.moves.makes sender

  pub closed_comes : w ≡ closed_word → Attempted at k posted.Closed a b
  closed_comes is = record {
    posts = looked.told;
    sees_closed = λ _. subst (λ (v : ℕ). HasSeen v (part_in at b).stage) is looked.has_seen;
    sees = λ e. absurd (cc e);
    sender = sends;
    learns = learns_step at None step.Look w a b look;
    slots = look_hand at w None a b look;
  }

  pub draining_comes : w ≡ draining_word → Attempted at k posted.Draining a b
  draining_comes is = let p = part_in at a in let q = part_in at b in record {
    posts = (looked.told, met_now p.seen q.seen (grows_longer p.seat [] 0 p.seen q.seen looked.told.grows) (looked.drains is));
    sees_closed = λ e. absurd (cc e);
    sees = λ _. subst (λ (v : ℕ). HasSeen v q.stage) is looked.has_seen;
    sender = sends;
    learns = learns_step at None step.Look w a b look;
    slots = look_hand at w None a b look;
  }

  -- it may be linked
  pub looked_small : k < number_count (part_in at a).layout → k < number_count (part_in at b).layout
  looked_small = subst (λ (l : Layout). k < number_count l) (sym looked.told.layout_is)

  pub has_seen : HasSeen w (part_in at b).stage
  has_seen = looked.has_seen

  pub looked_held : Holds (part_in at a).seen (part_in at a).seat k → Holds (part_in at b).seen (part_in at b).seat k
  looked_held = tells_held k 0 (part_in at a) (part_in at b) looked.told

  module _ (c : ValueStanding V) (link : ValueSteps at None (step.Link k) (link_word w) b c) where
    linked : Links k w (part_in at b) (part_in at c)
    linked = link_tells k w (link_word w) (part_in at b) (part_in at c) looked.has_seen link.steps.moves.makes

    linked_hand : c.hand ≡ a.hand
    linked_hand = link_hand at k (link_word w) None b c link ∙ look_hand at w None a b look

    -- and pushed
    pub has_linked : HasLinked w k (part_in at c).stage
    has_linked = linked.has_linked

    pub linked_small : k < number_count (part_in at a).layout → k < number_count (part_in at c).layout
    linked_small small = subst (λ (l : Layout). k < number_count l) (sym linked.told.layout_is) (looked_small small)

    pub linked_brings : IsToBring (part_in at a).layout.items k a → IsToBring (part_in at c).layout.items k c
    linked_brings = bring_from k (part_in at a).layout (part_in at c).layout a c (linked.told.layout_is ∙ looked.told.layout_is)
        (link.steps.queue_is ∙ look.steps.queue_is) linked_hand

    module _ (d : ValueStanding V) (found : ℕ) (push : ValueSteps at None (step.Push k) found c d) where
      abbrev p : Part
      p = part_in at a

      abbrev q : Part
      q = part_in at b

      abbrev r : Part
      r = part_in at c

      abbrev t : Part
      t = part_in at d

      learnt : Learns at a d
      learnt = learns_then at None (step.Push k) found a c d (learns_then at None (step.Link k) (link_word w) a b c
          (learns_step at None step.Look w a b look) link) push

      still_sends : IsSender t.stage
      still_sends = sender_made (step.Push k) found r t push.steps.moves.makes
          (sender_made (step.Link k) (link_word w) q r link.steps.moves.makes sends)

      pushed : (b : Bool) → (found == w) ≡ b → MatchBool b (Wins push.steps.moves.makes.before.history k w r t) (Loses w r t)
      pushed b is = subst (λ (b : Bool). MatchBool b (Wins push.steps.moves.makes.before.history k w r t) (Loses w r t)) is
          (push_tells k w found r t has_linked push.steps.moves.makes)

      pub push_wins : found ≡ w → (first wakes : Bool) → first ≡ (link_word w == 0) → wakes ≡ (w == 0) → Attempted at k (posted.Queued first wakes) a d
      push_wins same first wakes first_is wakes_is = let is = eq-eqb found w same in let won = pushed true is in
          subst (λ (z : Bool × Bool). Attempted at k (posted.Queued z.0 z.1) a d) (λ i. (sym first_is i, sym wakes_is i)) (record {
            posts = (
              tells_then (λ z. Push z k ∷ []) 0 0 p r t (tells_then (λ z. []) 0 0 p q r looked.told linked.told) won.told,
              subst (λ (c : ℕ). IsPushed c k (link_word w == 0) (w == 0) t.seen) (linked.told.seat_is ∙ looked.told.seat_is) won.pushed,
            );
            sees_closed = λ e. absurd (cc e);
            sees = λ e. absurd (cc e);
            sender = still_sends;
            learns = learnt;
            slots = posts_from at k (posted.Queued (link_word w == 0) (w == 0)) a c d (link.steps.queue_is ∙ look.steps.queue_is) linked_hand
                (won_slot at k w found None c d has_linked push is);
          })

      pub push_loses : ¬ (found ≡ w) → Attempted at k posted.Contended a d
      push_loses other = let isnt = ne_eqb found w other in let lost = pushed false isnt in record {
        posts = tells_then (λ z. []) 0 1 p q t looked.told
            (tells_others w q t looked.head_is lost.head_is (tells_then (λ z. []) 0 0 q r t linked.told lost.told));
        sees_closed = λ e. absurd (cc e);
        sees = λ e. absurd (cc e);
        sender = still_sends;
        learns = learnt;
        slots = lost_hand at k w found None c d has_linked push isnt ∙ linked_hand;
      }
