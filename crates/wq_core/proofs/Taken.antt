-- What the head's chain spells, what a push finds there, what the owner's batch is, and that no sender touches its links.
use Rattle.wq_core.proofs.Common.{IsShut, TakesPushes, subst, draining_word, ◌≡◌, ℕ, ◌+◌, ◌==◌, Bool, true, false, if◌then◌else◌, List, [], ◌∷◌, ◌++◌, length}
use Rattle.wq_core.proofs.Common.{take, drop, reverse, get_or, set, Option, None, Some, ◌%◌, ◌^◌, refl, sym, ap, ◌∙◌, arith, length-append, ne_eqb, eqb-true}
use Rattle.wq_core.proofs.Common.{eqb-false, append-nil, length-reverse, take_at, drop_at, get_or-set_other, get_or-set_same, number_count, head_word}
use Rattle.wq_core.proofs.Common.{busy_word, wakes, accepted, begun, taken, first, running, listed, length-accepted, fresh-open, keeper, Step, Look, Link}
use Rattle.wq_core.proofs.Common.{Check, Walk, Turn, head_place, link_place, item_place, done_place, closed_word, resting_word, link_word, word_at, Machine, head}
use Rattle.wq_core.proofs.Common.{link, item_word, done_word, private, seen_word, after_walk, after_begin, after_end, after, reply_to, StandsIn, IsMade}
use Rattle.wq_core.proofs.Common.{head_of_list, marked, IsChain, IsSound}
use Rattle.wq_core.specs.declared.step.Seat.TheVariants.{Sender, Owner}
use Rattle.wq_core.specs.declared.step.Step.TheVariants.{Hold, Push, Back, Take, Close, Drain, Resume, Begin, End, Chain, Rest}
use Rattle.wq_core.specs.declared.step.Reply.TheVariants.{Pushed, Lost}
use Rattle.wq_core.proofs.Chains.{chain_zero}
use Rattle.wq_core.proofs.Turning.{stands_number, no_senders}
use Rattle.wq_core.proofs.Sound.{either}
use Rattle.wq_core.proofs.KeptSound.{sender_from_holds}
use Rattle.wq_core.proofs.Heads.{head_open, head_marked, open_from_link, link_seen}

-- between two calls of the owner the batch is what is taken and has not begun
pub batch_is : (m : Machine) → IsSound m → m.cursor ≡ None → m.batch ≡ drop (length (begun m.history)) (take (taken m.history) (accepted m.history))
batch_is m o still =
    let a = o.chains in
    let done : m.walked ≡ [] = a.none_walked still in
    let none : a.remaining ≡ [] = chain_zero (number_count m.layout) m.words a.remaining (rw still at a.walk_chain) in
    let order : accepted m.history ≡ (begun m.history ++ m.batch) ++ reverse (listed m.history) = rw (none, done) at a.order ∙ simp append-nil in
    let counts : length (begun m.history ++ m.batch) ≡ taken m.history =
    omega (
      arith,
      ap length order,
      length-append (begun m.history ++ m.batch) (reverse (listed m.history)),
      length-reverse (listed m.history),
      length-accepted m.layout m.history o.legal,
    ) in
    let front : take (taken m.history) (accepted m.history) ≡ begun m.history ++ m.batch =
    ap (λ l. take (taken m.history) l) order
    ∙ take_at (begun m.history ++ m.batch) (reverse (listed m.history)) (taken m.history) counts in
    sym (ap (λ l. drop (length (begun m.history)) l) front ∙ drop_at (begun m.history) m.batch (length (begun m.history)) refl)

-- while the queue is open, the links spell from the head what was pushed since the last take, drain or resume, newest first
pub chain_open : (m : Machine) → IsSound m → ¬ IsShut m.history → IsChain (number_count m.layout) m.words (link_word (head m)) (listed m.history)
chain_open m o opens = rw (head_open m o opens) o.chains.list_chain

-- while the queue is open, the head is empty where a push would be the first
pub head_first : (m : Machine) → IsSound m → ¬ IsShut m.history → (link_word (head m) == 0) ≡ first m.history
head_first m o opens = ap (λ w. w == 0) (head_open m o opens) ∙ go (listed m.history) ∙ ap (λ w. w == 0) (sym (fresh-open m.layout m.history o.legal opens))
  where
    go : (ks : List ℕ) → (head_word (head_of_list ks) == 0) ≡ (length ks == 0)
    go [] = refl
    go (k ∷ ks) = ne_eqb (k + 1) 0 (λ e. omega (arith, e)) ∙ sym (ne_eqb (length (k ∷ ks)) 0 (λ e. omega (arith, e)))

-- and it is the resting one where the queue rests
pub head_wakes : (m : Machine) → IsSound m → ¬ IsShut m.history → (head m == resting_word) ≡ wakes m.history
head_wakes m o opens = ap (λ w. w == resting_word) (head_marked m o opens) ∙ go (wakes m.history) refl (listed m.history) refl
  where
    go : (q : Bool) → wakes m.history ≡ q → (ks : List ℕ) → listed m.history ≡ ks → (marked q (head_of_list ks) == resting_word) ≡ q
    go true on [] same = refl
    go false on [] same = refl
    go true on (k ∷ ks) same = absurd (cc (same, o.rests on))
    go false on (k ∷ ks) same = ne_eqb (k + 1) 0 (λ e. omega (arith, e))

-- a push that wins says `first` where nothing was pushed since the last take, drain or resume, and `wakes` where the queue rests
module _ (m : Machine) (s k : ℕ) (p q : Bool) (o : IsSound m) (made : IsMade m (Sender s) (Push k)) (is : reply_to m (Sender s) (Push k) ≡ Pushed p q) where
  opens : head m ≡ seen_word m s → ¬ IsShut m.history
  opens won =
      let l = o.linked s k made.1 in
      open_from_link m o (subst TakesPushes (sym (ap link_word won ∙ link_seen (private m s).seen _ l.2)) l.3)

  said : (head m ≡ seen_word m s) × ((link_word (seen_word m s) == 0) ≡ p) × ((seen_word m s == resting_word) ≡ q)
  said = go (head m == seen_word m s) refl is
    where
      go : (b : Bool) → (head m == seen_word m s) ≡ b
          → (if b then Pushed (link_word (seen_word m s) == 0) (seen_word m s == resting_word) else Lost) ≡ Pushed p q
          → (head m ≡ seen_word m s) × ((link_word (seen_word m s) == 0) ≡ p) × ((seen_word m s == resting_word) ≡ q)
      go true e is' = (eqb-true (head m) (seen_word m s) e, cc is', cc is')
      go false e is' = absurd cc

  pub pushed_first : p ≡ first m.history
  pushed_first = sym said.1 ∙ ap (λ w. link_word w == 0) (sym said.0) ∙ head_first m o (opens said.0)

  pub pushed_wakes : q ≡ wakes m.history
  pushed_wakes = sym said.2 ∙ ap (λ w. w == resting_word) (sym said.0) ∙ head_wakes m o (opens said.0)

-- the link of k after a step of the owner, where it was this word before
abbrev pub link_after : Step → ℕ → ℕ → ℕ
link_after (Turn j next) k w = if j == k then word_at next else w
link_after _ k w = w

module _ (m : Machine) (o : IsSound m) (k : ℕ) (stands : StandsIn m.walked m.batch k) where
  item_written : (j v : ℕ) → get_or (set m.words (item_place (number_count m.layout) j) v) (link_place k) 0 ≡ link m k
  item_written j v = get_or-set_other m.words (item_place (number_count m.layout) j) (link_place k) v 0 (λ e. omega (arith, e, stands_number m o k stands))

  head_written : (v : ℕ) → get_or (set m.words head_place v) (link_place k) 0 ≡ link m k
  head_written v = get_or-set_other m.words head_place (link_place k) v 0 (λ e. omega (arith, e))

  done_written : (v : ℕ) → get_or (set m.words (done_place (number_count m.layout)) v) (link_place k) 0 ≡ link m k
  done_written v = get_or-set_other m.words (done_place (number_count m.layout)) (link_place k) v 0 (λ e. omega (arith, e, stands_number m o k stands))

  -- no sender's step writes the link of a number that was taken and has not begun
  pub sender_links : (s : ℕ) (step : Step) → IsMade m (Sender s) step → link (after m (Sender s) step) k ≡ link m k
  sender_links s (Hold j) made = either (item_word m j == 0) (λ x. link x k ≡ link m k) _ _ (λ e. item_written j 1) (λ e. refl)
  sender_links s Look made = refl
  sender_links s (Link j) made =
      get_or-set_other m.words (link_place j) (link_place k) (link_word (seen_word m s)) 0
      (λ e. (let same : k ≡ j = omega (arith, e) in no_senders m o k stands s (ap (keeper m.history) same ∙ sender_from_holds m o s j made.1.0)))
  sender_links s (Push j) made = either (head m == seen_word m s) (λ x. link x k ≡ link m k) _ _ (λ e. head_written (j + 1)) (λ e. refl)
  sender_links s (Back j why) made = item_written j 0
  sender_links s (Check j) made = refl
  sender_links s _ made = absurd made.1

  walk_links : (c : Option ℕ) → link (after_walk m c) k ≡ link m k
  walk_links None = refl
  walk_links (Some j) = either (link m j == 0) (λ x. link x k ≡ link m k) _ _ (λ e. refl) (λ e. refl)

  begin_links : (b : List ℕ) → link (after_begin m b) k ≡ link m k
  begin_links [] = refl
  begin_links (j ∷ js) = item_written j 0

  end_links : (r : Option ℕ) → link (after_end m r) k ≡ link m k
  end_links None = refl
  end_links (Some j) = done_written ((done_word m + 1) % 2 ^ 64)

  turn_links : (j v : ℕ) (b : Bool) → (j == k) ≡ b → get_or (set m.words (link_place j) v) (link_place k) 0 ≡ (if b then v else link m k)
  turn_links j v true e = rw (eqb-true j k e) (get_or-set_same m.words (link_place k) v 0 (omega (arith, o.has_words, stands_number m o k stands)))
  turn_links j v false e = get_or-set_other m.words (link_place j) (link_place k) v 0 (λ same. eqb-false j k e (omega (arith, same)))

  -- and of the owner's only a Turn of that number
  pub owner_links : (step : Step) → link (after m Owner step) k ≡ link_after step k (link m k)
  owner_links Take = head_written busy_word
  owner_links Close = head_written closed_word
  owner_links Drain = head_written draining_word
  owner_links Resume = head_written busy_word
  owner_links Walk = walk_links m.cursor
  owner_links Begin = begin_links m.batch
  owner_links End = end_links (running m.history)
  owner_links (Chain j) = either (item_word m j == 0) (λ x. link x k ≡ link m k) _ _ (λ e. item_written j 1) (λ e. refl)
  owner_links (Turn j next) = turn_links j (word_at next) (j == k) refl
  owner_links Rest = either (head m == busy_word) (λ x. link x k ≡ link m k) _ _ (λ e. head_written resting_word) (λ e. refl)
  owner_links _ = refl
