-- Each kind of step: the seat that makes it may, and its word becomes what the table's operation makes of it.
use Rattle.wq_table.proofs.Common.{◌≡◌, ℕ, ◌+◌, ◌-◌, ◌%◌, ◌^◌, ◌<◌, ◌==◌, eqb, List, [], ◌∷◌, get_or, set, Option, Some, sym, refl, ap, ◌∙◌, subst}
use Rattle.wq_table.proofs.Common.{arith, either, Layout, Why, Event, number_count, busy_word, Holds, Private, Step, Hold, Link, Push, Back, Check}
use Rattle.wq_table.proofs.Common.{Take, Close, Drain, Resume, Begin, End, Chain, Turn, Rest, done_place, seen_word, head, item_word, after_begin}
use Rattle.wq_table.proofs.Common.{after_end, after, StandsIn, Part, Stage, Sends, Owns, part, Performs}
use Rattle.std.proofs.Common.{unwrap_or}
use Rattle.std.specs.Prelude.{bit_or, bit_and}
use Rattle.wq_words.specs.declared.event.Why.TheVariants.{Closed, Draining}
use Rattle.wq_words.specs.declared.head.Head.TheVariants.{Item}
use Rattle.wq_words.specs.Head.{head_word}
use Rattle.wq_words.specs.History.{IsClosed, IsShut, IsDraining, IsRunning}
use Rattle.wq_core.specs.declared.step.Seat.TheVariants.{Sender}
use Rattle.wq_core.specs.Words.{link_place, item_place, closed_word, draining_word, resting_word, TakesPushes, link_word}
use Rattle.wq_core.specs.Machine.{HasSeenOpen, HasSeenCause}
use Rattle.wq_core.proofs.Operations.{item_word-bit, loads, sets_bit, clears_bit, exchanges}
use Rattle.wq_table.specs.Plays.{item_at}
use Rattle.wq_table.specs.Chair.{IsSender, HasSeen, HasLinked, IsOwner, HasWalked, HasNone, IsToTurn, IsToBegin}
use Rattle.wq_words.proofs.Running.{runs_some}
use Rattle.wq_words.proofs.Seen.{held_same, closed_same, running_same}
use Rattle.wq_words.proofs.ShutOwn.{shut_same}

-- a seat that has seen a head is a sender's
pub sender_seen : (word : ℕ) (stage : Stage) → HasSeen word stage → IsSender stage
sender_seen word (Sends p) is = tt
sender_seen word (Owns cursor walked batch) is = absurd is

-- a sender that saw what it gives a number back for
abbrev pub SawCause : Why → Stage → Type 0
SawCause why (Sends p) = HasSeenCause why p.seen
SawCause why (Owns cursor walked batch) = ⊥

pub saw_closed : (stage : Stage) → HasSeen closed_word stage → SawCause Closed stage
saw_closed (Sends p) is = is
saw_closed (Owns cursor walked batch) is = is

pub saw_draining : (stage : Stage) → HasSeen draining_word stage → SawCause Draining stage
saw_draining (Sends p) is = is
saw_draining (Owns cursor walked batch) is = is

-- for the other causes it need have seen nothing
pub saw_any : (why : Why) (stage : Stage) → ((seen : Option ℕ) → HasSeenCause why seen) → IsSender stage → SawCause why stage
saw_any why (Sends p) free is = free p.seen
saw_any why (Owns cursor walked batch) free is = is

-- the number whose item word stands there
pub number_placed : (i k : ℕ) (layout : Layout) → i ≡ item_place (number_count layout) k → item_at i layout ≡ k
number_placed i k layout at = omega arith

-- a step on the item word of a number, by the place of that word
pub placed : (p : Part) (step : ℕ → Step) (i k : ℕ) (f g : ℕ → ℕ) → i ≡ item_place (number_count p.layout) k
    → Performs p (step k) (item_place (number_count p.layout) k) f g
    → Performs p (step (item_at i p.layout)) i f g
placed p step i k f g at performs = let back : k ≡ item_at i p.layout = sym (number_placed i k p.layout at) in
    subst (λ (z : ℕ × ℕ). Performs p (step z.0) z.1 f g) (λ j. (back j, sym at j)) performs

-- the number whose link stands there
pub number_linked : (i k : ℕ) → i ≡ link_place k → i - link_place 0 ≡ k
number_linked i k at = omega arith

-- a step on the link of a number, by the place of that link
pub linked : (p : Part) (step : ℕ → Step) (i k : ℕ) (f g : ℕ → ℕ) → i ≡ link_place k → Performs p (step k) (link_place k) f g
    → Performs p (step (i - link_place 0)) i f g
linked p step i k f g at performs = let back : k ≡ i - link_place 0 = sym (number_linked i k at) in
    subst (λ (z : ℕ × ℕ). Performs p (step z.0) z.1 f g) (λ j. (back j, sym at j)) performs

pub number_pushed : (word k : ℕ) → word ≡ head_word (Item k) → word - 1 ≡ k
number_pushed word k is = omega arith

module _ (c : ℕ) (layout : Layout) (seen : List Event) (words : List ℕ) where
  pub performs_hold : (k : ℕ) (stage : Stage) → IsSender stage → k < number_count layout
      → Performs (part c layout seen words stage) (Hold k) (item_place (number_count layout) k) (λ n. bit_or n 1) (λ n. n)
  performs_hold k (Sends p) sender number = record {
    made = λ m sound fits. (((fits.keeps.0, refl), rw (← fits.layout_is) number), tt);
    writes = λ m sound fits. rw fits.layout_is
        (sets_bit _ _ m.words _ (item_word m k) refl refl refl (item_word-bit m sound k (rw (← fits.layout_is) number)) (item_word m k == 0) refl);
    finds = λ m sound fits. rw fits.layout_is refl;
  }
  performs_hold k (Owns cursor walked batch) sender number = absurd sender

  pub performs_check : (k : ℕ) (stage : Stage) → IsSender stage → k < number_count layout
      → Performs (part c layout seen words stage) (Check k) (item_place (number_count layout) k) (λ n. n) (λ n. n)
  performs_check k (Sends p) sender number = record {
    made = λ m sound fits. (((fits.keeps.0, refl), rw (← fits.layout_is) number), tt);
    writes = λ m sound fits. loads m.words _;
    finds = λ m sound fits. rw fits.layout_is refl;
  }
  performs_check k (Owns cursor walked batch) sender number = absurd sender

  pub performs_link : (k w : ℕ) (stage : Stage) → k < number_count layout → Holds seen c k → HasSeen w stage → TakesPushes w
      → Performs (part c layout seen words stage) (Link k) (link_place k) (λ n. link_word w) (λ n. link_word w)
  performs_link k w (Sends p) number holds is opens = record {
    made = λ m sound fits. (
      ((fits.keeps.0, refl), rw (← fits.layout_is) number),
      (held_same c k seen m.history fits.mine holds, subst HasSeenOpen (sym (ap (λ (p : Private). p.seen) fits.keeps.1 ∙ is)) opens),
    );
    writes = λ m sound fits. ap (λ (v : ℕ). set m.words (link_place k) (link_word v)) (ap (λ (p : Private). unwrap_or p.seen 0) fits.keeps.1 ∙
        ap (λ (o : Option ℕ). unwrap_or o 0) is);
    finds = λ m sound fits. ap link_word (sym (ap (λ (p : Private). unwrap_or p.seen 0) fits.keeps.1 ∙ ap (λ (o : Option ℕ). unwrap_or o 0) is));
  }
  performs_link k w (Owns cursor walked batch) number holds is opens = absurd is

  pub performs_push : (k w : ℕ) (stage : Stage) → k < number_count layout → HasLinked w k stage
      → Performs (part c layout seen words stage) (Push k) 0 (λ n. either (eqb n w) (k + 1) n) (λ n. n)
  performs_push k w (Sends p) number is = record {
    made = λ m sound fits. (((fits.keeps.0, refl), rw (← fits.layout_is) number), ap (λ (p : Private). p.linked) fits.keeps.1 ∙ is.1);
    writes = λ m sound fits.
        let saw : seen_word m c ≡ w = ap (λ (p : Private). unwrap_or p.seen 0) fits.keeps.1 ∙ ap (λ (o : Option ℕ). unwrap_or o 0) is.0 in
        subst (λ (v : ℕ). (after m (Sender c) (Push k)).words ≡ set m.words 0 (either (eqb (head m) v) (k + 1) (head m))) saw
        (exchanges _ _ m.words (seen_word m c) (k + 1) (head m) refl refl refl (head m == seen_word m c) refl);
    finds = λ m sound fits. refl;
  }
  performs_push k w (Owns cursor walked batch) number is = absurd is

  pub performs_back : (k : ℕ) (why : Why) (stage : Stage) → SawCause why stage → k < number_count layout → Holds seen c k
      → Performs (part c layout seen words stage) (Back k why) (item_place (number_count layout) k) (λ n. bit_and n 0) (λ n. n)
  performs_back k why (Sends p) saw number holds = record {
    made = λ m sound fits. (
      ((fits.keeps.0, refl), rw (← fits.layout_is) number),
      (held_same c k seen m.history fits.mine holds, subst (λ (x : Private). HasSeenCause why x.seen) (sym fits.keeps.1) saw),
    );
    writes = λ m sound fits. rw fits.layout_is
        (ap (set m.words (item_place (number_count m.layout) k))
        (clears_bit (item_word m k) (item_word-bit m sound k (rw (← fits.layout_is) number)) (item_word m k == 0) refl));
    finds = λ m sound fits. rw fits.layout_is refl;
  }
  performs_back k why (Owns cursor walked batch) saw number holds = absurd saw

  pub performs_take : (stage : Stage) → ¬ IsShut seen → HasWalked stage → HasNone stage
      → Performs (part c layout seen words stage) Take 0 (λ n. busy_word) (λ n. n)
  performs_take (Sends p) opens still none = absurd still
  performs_take (Owns cursor walked batch) opens still none = record {
    made = λ m sound fits. (
      (refl, tt),
      (
        (λ shut. opens (shut_same m.history seen (rw (← fits.keeps.0) (sym fits.mine)) shut)),
        fits.keeps.1 ∙ still,
        fits.keeps.3 ∙ none,
      ),
    );
    writes = λ m sound fits. refl;
    finds = λ m sound fits. refl;
  }

  pub performs_close : (stage : Stage) → ¬ IsClosed seen → HasWalked stage → Performs (part c layout seen words stage) Close 0 (λ n. closed_word) (λ n. n)
  performs_close (Sends p) unclosed still = absurd still
  performs_close (Owns cursor walked batch) unclosed still = record {
    made = λ m sound fits. (
      (refl, tt),
      (
        (λ closed. unclosed (closed_same m.history seen (rw (← fits.keeps.0) (sym fits.mine)) closed)),
        fits.keeps.1 ∙ still,
      ),
    );
    writes = λ m sound fits. refl;
    finds = λ m sound fits. refl;
  }

  pub performs_drain : (stage : Stage) → ¬ IsShut seen → HasWalked stage → Performs (part c layout seen words stage) Drain 0 (λ n. draining_word) (λ n. n)
  performs_drain (Sends p) opens still = absurd still
  performs_drain (Owns cursor walked batch) opens still = record {
    made = λ m sound fits. (
      (refl, tt),
      (
        (λ shut. opens (shut_same m.history seen (rw (← fits.keeps.0) (sym fits.mine)) shut)),
        fits.keeps.1 ∙ still,
      ),
    );
    writes = λ m sound fits. refl;
    finds = λ m sound fits. refl;
  }

  pub performs_resume : (stage : Stage) → IsDraining seen → HasWalked stage → HasNone stage → ¬ IsRunning seen
      → Performs (part c layout seen words stage) Resume 0 (λ n. busy_word) (λ n. n)
  performs_resume (Sends p) drains still none idle = absurd still
  performs_resume (Owns cursor walked batch) drains still none idle = record {
    made = λ m sound fits. (
      (refl, tt),
      (
        (
          shut_same seen m.history (rw (← fits.keeps.0) fits.mine) drains.0,
          (λ closed. drains.1 (closed_same m.history seen (rw (← fits.keeps.0) (sym fits.mine)) closed)),
        ),
        fits.keeps.1 ∙ still,
        fits.keeps.3 ∙ none,
        (λ runs. idle (running_same m.history seen (rw (← fits.keeps.0) (sym fits.mine)) runs)),
      ),
    );
    writes = λ m sound fits. refl;
    finds = λ m sound fits. refl;
  }

  pub performs_turn : (k j : ℕ) (stage : Stage) → k < number_count layout → j < number_count layout → IsToTurn k stage
      → Performs (part c layout seen words stage) (Turn k (Some j)) (link_place k) (λ n. j + 1) (λ n. j + 1)
  performs_turn k j (Sends p) number next is = absurd is
  performs_turn k j (Owns cursor walked batch) number next is = record {
    made = λ m sound fits. (
      (refl, (rw (← fits.layout_is) number, rw (← fits.layout_is) next)),
      subst (λ (z : List ℕ × List ℕ). StandsIn z.0 z.1 k) (λ i. (sym fits.keeps.2 i, sym fits.keeps.3 i)) is,
    );
    writes = λ m sound fits. refl;
    finds = λ m sound fits. refl;
  }

  pub performs_begin : (k : ℕ) (stage : Stage) → k < number_count layout → IsToBegin k stage → ¬ IsRunning seen
      → Performs (part c layout seen words stage) Begin (item_place (number_count layout) k) (λ n. bit_and n 0) (λ n. n)
  performs_begin k (Sends p) number is idle = absurd is
  performs_begin k (Owns cursor walked []) number is idle = absurd is
  performs_begin k (Owns cursor walked (j ∷ js)) number is idle = record {
    made = λ m sound fits. (
      (refl, tt),
      (fits.keeps.1 ∙ is.0, (λ e. absurd (cc (e, fits.keeps.3))), λ runs. idle (running_same m.history seen (rw (← fits.keeps.0) (sym fits.mine)) runs)),
    );
    writes = λ m sound fits. let front : m.batch ≡ k ∷ js = fits.keeps.3 ∙ ap (λ (i : ℕ). i ∷ js) is.1 in
        subst (λ (b : List ℕ). (after_begin m b).words ≡ set m.words (item_place (number_count layout) k)
        (bit_and (get_or m.words (item_place (number_count layout) k) 0) 0)) (sym front)
        (rw fits.layout_is
        (ap (set m.words (item_place (number_count m.layout) k))
        (clears_bit (item_word m k) (item_word-bit m sound k (rw (← fits.layout_is) number)) (item_word m k == 0) refl)));
    finds = λ m sound fits. let front : m.batch ≡ k ∷ js = fits.keeps.3 ∙ ap (λ (i : ℕ). i ∷ js) is.1 in rw (fits.layout_is, front) refl;
  }

  pub performs_end : (stage : Stage) → IsOwner stage → IsRunning seen
      → Performs (part c layout seen words stage) End (done_place (number_count layout)) (λ n. (n + 1) % 2 ^ 64) (λ n. n)
  performs_end (Sends p) owner runs = absurd owner
  performs_end (Owns cursor walked batch) owner runs = record {
    made = λ m sound fits. ((refl, tt), running_same seen m.history (rw (← fits.keeps.0) fits.mine) runs);
    writes = λ m sound fits. let it = runs_some m.history (running_same seen m.history (rw (← fits.keeps.0) fits.mine) runs) in
        subst (λ (o : Option ℕ). (after_end m o).words ≡ set m.words (done_place (number_count layout))
        ((get_or m.words (done_place (number_count layout)) 0 + 1) % 2 ^ 64)) (sym it.1) (rw fits.layout_is refl);
    finds = λ m sound fits. rw fits.layout_is refl;
  }

  pub performs_chain : (k : ℕ) (stage : Stage) → k < layout.items → IsShut seen → HasWalked stage → IsRunning seen
      → Performs (part c layout seen words stage) (Chain k) (item_place (number_count layout) k) (λ n. bit_or n 1) (λ n. n)
  performs_chain k (Sends p) item shut still runs = absurd still
  performs_chain k (Owns cursor walked batch) item shut still runs = record {
    made = λ m sound fits. (
      (refl, rw (← fits.layout_is) item),
      (
        shut_same seen m.history (rw (← fits.keeps.0) fits.mine) shut,
        fits.keeps.1 ∙ still,
        running_same seen m.history (rw (← fits.keeps.0) fits.mine) runs,
      ),
    );
    writes = λ m sound fits. rw fits.layout_is
        (sets_bit _ _ m.words _ (item_word m k) refl refl refl (item_word-bit m sound k (rw (← fits.layout_is) (omega arith))) (item_word m k == 0) refl);
    finds = λ m sound fits. rw fits.layout_is refl;
  }

  pub performs_rest : (stage : Stage) → ¬ IsShut seen → HasWalked stage → HasNone stage → ¬ IsRunning seen
      → Performs (part c layout seen words stage) Rest 0 (λ n. either (eqb n busy_word) resting_word n) (λ n. n)
  performs_rest (Sends p) opens still none idle = absurd still
  performs_rest (Owns cursor walked batch) opens still none idle = record {
    made = λ m sound fits. (
      (refl, tt),
      (
        (λ shut. opens (shut_same m.history seen (rw (← fits.keeps.0) (sym fits.mine)) shut)),
        fits.keeps.1 ∙ still,
        fits.keeps.3 ∙ none,
        (λ runs. idle (running_same m.history seen (rw (← fits.keeps.0) (sym fits.mine)) runs)),
      ),
    );
    writes = λ m sound fits. exchanges _ _ m.words busy_word resting_word (head m) refl refl refl (head m == busy_word) refl;
    finds = λ m sound fits. refl;
  }
