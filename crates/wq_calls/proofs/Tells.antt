-- What each kind of step tells the seat that makes it.
use Rattle.wq_calls.proofs.Common.{eqb-true, ◌≡◌, ◌≢◌, ℕ, ◌+◌, ◌<◌, Bool, true, false, not, ◌==◌, if◌then◌else◌, List, [], ◌∷◌, ◌++◌, Option, Some}
use Rattle.wq_calls.proofs.Common.{None, unwrap_or, sym, refl, ap, ◌∙◌, subst, arith, MatchBool, append-nil, Layout, Why, Event, number_count, Holds}
use Rattle.wq_calls.proofs.Common.{IsDraining, pending, IsLegal, legal_next, Step, Check, Resume, Walk, Chain, Turn, draining_word, link_word, Machine}
use Rattle.wq_calls.proofs.Common.{item_word, with_item, happened, after, IsSound, Part, Stage, Owns, own, Grows, seat_at, HasStage, IsPartOf}
use Rattle.wq_calls.proofs.Common.{stage_after, Makes, see, IsSender, own_one, IsPushed}
use Rattle.std.proofs.lemmas.Bool.{eqb-false}
use Rattle.wq_words.specs.declared.event.Event.TheVariants as event
use Rattle.wq_core.specs.declared.step.Private.{Private}
use Rattle.wq_core.specs.declared.step.Step.TheVariants.{Hold, Look, Link, Push, Back, Take, Close, Drain, Begin, End, Rest}
use Rattle.wq_core.specs.Machine.{nothing_seen, private, seen_word, head, with_head, with_link, with_private, unlinked}
use Rattle.wq_core.specs.Sound.{head_word_of}
use Rattle.wq_core.proofs.Heads.{draining_from_head}
use Rattle.wq_core.proofs.Taken.{head_first, head_wakes}
use Rattle.wq_table.specs.declared.table.Stage.TheVariants.{Sends}
use Rattle.wq_table.specs.Chair.{HasSeen, HasLinked}
use Rattle.wq_table.proofs.Steps.{sender_seen}
pub use Rattle.wq_calls.specs.Tells.{TellsSo}
use Rattle.wq_calls.proofs.Growing.{grows_done, grows_on, grows_held, grows_others}

abbrev pub Tells : List Event → Part → Part → Type 0
Tells xs p q = TellsSo xs 0 p q

-- what is held stays held
pub tells_held : (k n : ℕ) (p q : Part) → TellsSo [] n p q → Holds p.seen p.seat k → Holds q.seen q.seat k
tells_held k n p q told have = subst (λ (c : ℕ). Holds q.seen c k) (sym told.seat_is) (grows_held p.seat k n p.seen q.seen told.grows have)

-- one step and then another
pub tells_then : (ys : ℕ → List Event) (n m : ℕ) (p q r : Part) → TellsSo [] n p q → TellsSo (ys q.seat) m q r → TellsSo (ys p.seat) (n + m) p r
tells_then ys n m p q r a b = record {
  layout_is = b.layout_is ∙ a.layout_is;
  seat_is = b.seat_is ∙ a.seat_is;
  grows = grows_on p.seat [] (ys p.seat) n m (n + m) p.seen q.seen r.seen (omega arith) a.grows
      (subst (λ (c : ℕ). Grows c (ys c) m q.seen r.seen) a.seat_is b.grows);
  legal = subst (λ (l : Layout). IsLegal l r.seen) a.layout_is b.legal;
}

-- where the head is another and no own event came, another's came
pub tells_others : (w : ℕ) (p q : Part) → head_word_of p.seen ≡ w → head_word_of q.seen ≢ w → Tells [] p q → TellsSo [] 1 p q
tells_others w p q was is told = record
    { layout_is = told.layout_is; seat_is = told.seat_is; grows = grows_others p.seat p.seen q.seen w was is told.grows; legal = told.legal }

module _ (step : Step) (word : ℕ) (p q : Part) (makes : Makes step word p q) where
  pub next : Machine
  next = after makes.before (seat_at p.seat p.stage) step

  pub seen_after : (n : Machine) (xs : List Event) → after makes.before (seat_at p.seat p.stage) step ≡ n → n.history ≡ makes.before.history ++ xs
      → q.seen ≡ makes.before.history ++ xs
  seen_after n xs is history = makes.seen_is ∙ (ap (λ (x : Machine). x.history) is ∙ history)

  pub tells : (n : Machine) (xs : List Event) → after makes.before (seat_at p.seat p.stage) step ≡ n → n.layout ≡ makes.before.layout
      → n.history ≡ makes.before.history ++ xs → own p.seat xs ≡ xs → Tells xs p q
  tells n xs is layout history all =
      let f = makes.fits in
      let same : (after makes.before (seat_at p.seat p.stage) step).layout ≡ p.layout = ap (λ (x : Machine). x.layout) is ∙
      (layout ∙ sym f.layout_is) in record {
        layout_is = makes.fits_after.layout_is ∙ same;
        seat_is = makes.seat_is;
        grows = subst (Grows p.seat xs 0 p.seen) (sym (seen_after n xs is history)) (grows_done p.seat p.seen makes.before.history xs f.begins f.mine all);
        legal = subst (λ (z : Layout × List Event). IsLegal z.0 z.1) (λ i. (same i, sym makes.seen_is i)) makes.sound_after.legal;
      }

-- a sender's seat stays one
pub sender_after : (st : Stage) (step : Step) (word : ℕ) → IsSender st → IsSender (stage_after st step word)
sender_after (Sends r) (Hold k) word is = tt
sender_after (Sends r) Look word is = tt
sender_after (Sends r) (Link k) word is = tt
sender_after (Sends r) (Push k) word is = tt
sender_after (Sends r) (Back k why) word is = tt
sender_after (Sends r) (Check k) word is = tt
sender_after (Sends r) Take word is = tt
sender_after (Sends r) Close word is = tt
sender_after (Sends r) Drain word is = tt
sender_after (Sends r) Resume word is = tt
sender_after (Sends r) Walk word is = tt
sender_after (Sends r) Begin word is = tt
sender_after (Sends r) End word is = tt
sender_after (Sends r) (Chain k) word is = tt
sender_after (Sends r) (Turn k _) word is = tt
sender_after (Sends r) Rest word is = tt
sender_after (Owns a b d) step word is = elim is [ ]

pub sender_made : (step : Step) (word : ℕ) (p q : Part) → Makes step word p q → IsSender p.stage → IsSender q.stage
sender_made step word p q makes is = subst IsSender (sym makes.stage_is) (sender_after p.stage step word is)

after_hold : (m : Machine) (c k : ℕ) (st : Stage) → IsSender st
    → after m (seat_at c st) (Hold k) ≡ (if item_word m k == 0 then happened (with_item m k 1) (event.Hold c k) else happened m (event.Busy c k))
after_hold m c k (Sends r) is = refl
after_hold m c k (Owns a b d) is = elim is [ ]

pub hold_tells : (k word : ℕ) (p q : Part) → IsSender p.stage → Makes (Hold k) word p q
    → MatchBool (word == 0) (Tells (event.Hold p.seat k ∷ []) p q) (Tells (event.Busy p.seat k ∷ []) p q)
hold_tells k word p q is makes =
    subst (λ (w : ℕ). MatchBool (w == 0) (Tells (event.Hold p.seat k ∷ []) p q) (Tells (event.Busy p.seat k ∷ []) p q)) (sym makes.word_is)
    (go (item_word makes.before k == 0) (after_hold makes.before p.seat k p.stage is))
  where
    go : (b : Bool)
        → after makes.before (seat_at p.seat p.stage) (Hold k) ≡
        (if b then happened (with_item makes.before k 1) (event.Hold p.seat k) else happened makes.before (event.Busy p.seat k))
        → MatchBool b (Tells (event.Hold p.seat k ∷ []) p q) (Tells (event.Busy p.seat k ∷ []) p q)
    go true e = tells (Hold k) word p q makes _ _ e refl refl (own_one p.seat (event.Hold p.seat k) refl)
    go false e = tells (Hold k) word p q makes _ _ e refl refl (own_one p.seat (event.Busy p.seat k) refl)

after_look : (m : Machine) (c : ℕ) (st : Stage) → IsSender st
    → after m (seat_at c st) Look ≡ with_private m c (record { seen = Some (head m); linked = None })
after_look m c (Sends r) is = refl
after_look m c (Owns a b d) is = elim is [ ]

seen_look : (word : ℕ) (st : Stage) → IsSender st → HasSeen word (stage_after st Look word)
seen_look word (Sends r) is = refl
seen_look word (Owns a b d) is = elim is [ ]

pub record LookTells (word : ℕ) (p q : Part) : Type 0 where
  pub told : Tells [] p q
  pub head_is : head_word_of q.seen ≡ word
  pub drains : word ≡ draining_word → IsDraining q.seen
  pub has_seen : HasSeen word q.stage

pub look_tells : (word : ℕ) (p q : Part) → IsSender p.stage → Makes Look word p q → LookTells word p q
look_tells word p q is makes =
    let e = after_look makes.before p.seat p.stage is in record {
      told = tells Look word p q makes _ [] e refl (sym (append-nil makes.before.history)) refl;
      head_is = ap head_word_of (makes.seen_is ∙ ap (λ (x : Machine). x.history) e) ∙
          (sym makes.sound.head_is ∙ sym makes.word_is);
      drains = λ marked. subst IsDraining (sym (makes.seen_is ∙ ap (λ (x : Machine). x.history) e))
          (draining_from_head makes.before makes.sound (sym makes.word_is ∙ marked));
      has_seen = subst (HasSeen word) (sym makes.stage_is) (seen_look word p.stage is);
    }

after_link : (m : Machine) (c k : ℕ) (st : Stage) → IsSender st
    → after m (seat_at c st) (Link k) ≡ with_private (with_link m k (link_word (seen_word m c))) c (record (private m c) { linked = Some k })
after_link m c k (Sends r) is = refl
after_link m c k (Owns a b d) is = elim is [ ]

linked_link : (k word found : ℕ) (st : Stage) → HasSeen word st → HasLinked word k (stage_after st (Link k) found)
linked_link k word found (Sends r) is = (is, refl)
linked_link k word found (Owns a b d) is = elim is [ ]

pub record Links (k word : ℕ) (p q : Part) : Type 0 where
  pub told : Tells [] p q
  pub has_linked : HasLinked word k q.stage

pub link_tells : (k word found : ℕ) (p q : Part) → HasSeen word p.stage → Makes (Link k) found p q → Links k word p q
link_tells k word found p q is makes = record {
  told = tells (Link k) found p q makes _ [] (after_link makes.before p.seat k p.stage (sender_seen word p.stage is)) refl
      (sym (append-nil makes.before.history)) refl;
  has_linked = subst (HasLinked word k) (sym makes.stage_is) (linked_link k word found p.stage is);
}

after_push : (m : Machine) (c k w : ℕ) (st : Stage) → HasLinked w k st → HasStage m c st
    → after m (seat_at c st) (Push k) ≡
    (if head m == w then happened (with_private (with_head m (k + 1)) c nothing_seen) (event.Push c k) else with_private m c nothing_seen)
after_push m c k w (Sends r) is keeps =
    ap (λ (x : ℕ). if head m == x then happened (with_private (with_head m (k + 1)) c nothing_seen) (event.Push c k) else with_private m c nothing_seen)
    (ap (λ (x : Private). unwrap_or x.seen 0) keeps.1 ∙ ap (λ (o : Option ℕ). unwrap_or o 0) is.0)
after_push m c k w (Owns a b d) is keeps = elim is [ ]

-- pushed, as the newest event, where h had happened before
pub record Wins (h : List Event) (k w : ℕ) (p q : Part) : Type 0 where
  pub told : Tells (event.Push p.seat k ∷ []) p q
  pub pushed : IsPushed p.seat k (link_word w == 0) (w == 0) q.seen
  pub before_is : pushed.before ≡ h

-- the head was another
pub record Loses (w : ℕ) (p q : Part) : Type 0 where
  pub told : Tells [] p q
  pub head_is : head_word_of q.seen ≢ w

pub push_tells : (k w word : ℕ) (p q : Part) → HasLinked w k p.stage → (makes : Makes (Push k) word p q)
    → MatchBool (word == w) (Wins makes.before.history k w p q) (Loses w p q)
push_tells k w word p q is makes =
    subst (λ (x : ℕ). MatchBool (x == w) (Wins makes.before.history k w p q) (Loses w p q)) (sym makes.word_is)
    (go (head makes.before == w) refl (after_push makes.before p.seat k w p.stage is makes.fits.keeps))
  where
    won : after makes.before (seat_at p.seat p.stage) (Push k) ≡ happened (with_private (with_head makes.before (k + 1)) p.seat nothing_seen)
        (event.Push p.seat k) → (head makes.before == w) ≡ true → Wins makes.before.history k w p q
    won e same = let m = makes.before in let h = m.history in
        let seen : q.seen ≡ h ++ event.Push p.seat k ∷ [] = seen_after (Push k) word p q makes _ _ e refl in
        let told : Tells (event.Push p.seat k ∷ []) p q = tells (Push k) word p q makes _ _ e refl refl (own_one p.seat (event.Push p.seat k) refl) in
        let allowed = legal_next p.layout h (event.Push p.seat k) [] (subst (IsLegal p.layout) seen told.legal) in record {
          told = told;
          pushed = record {
            before = h;
            after = [];
            is = seen;
            last = refl;
            first_is = ap (λ (x : ℕ). link_word x == 0) (sym (eqb-true (head m) w same)) ∙ head_first m makes.sound allowed.2.1;
            wakes_is = ap (λ (x : ℕ). x == 0) (sym (eqb-true (head m) w same)) ∙ head_wakes m makes.sound allowed.2.1;
          };
          before_is = refl;
        }

    lost : after makes.before (seat_at p.seat p.stage) (Push k) ≡ with_private makes.before p.seat nothing_seen → (head makes.before == w) ≡ false
        → Loses w p q
    lost e other = let m = makes.before in record {
      told = tells (Push k) word p q makes _ [] e refl (sym (append-nil m.history)) refl;
      head_is = λ same. eqb-false (head m) w other (makes.sound.head_is ∙
          (ap head_word_of (sym (makes.seen_is ∙ ap (λ (x : Machine). x.history) e)) ∙ same));
    }

    go : (b : Bool) → (head makes.before == w) ≡ b
        → after makes.before (seat_at p.seat p.stage) (Push k) ≡
        (if b then happened (with_private (with_head makes.before (k + 1)) p.seat nothing_seen)
        (event.Push p.seat k) else with_private makes.before p.seat nothing_seen)
        → MatchBool b (Wins makes.before.history k w p q) (Loses w p q)
    go true same e = won e same
    go false other e = lost e other

after_back : (m : Machine) (c k : ℕ) (why : Why) (st : Stage) → IsSender st
    → after m (seat_at c st) (Back k why) ≡ happened (with_private (with_item m k 0) c (unlinked (private m c) k)) (event.Back c k why)
after_back m c k why (Sends r) is = refl
after_back m c k why (Owns a b d) is = elim is [ ]

pub back_tells : (k word : ℕ) (why : Why) (p q : Part) → IsSender p.stage → Makes (Back k why) word p q → Tells (event.Back p.seat k why ∷ []) p q
back_tells k word why p q is makes = tells (Back k why) word p q makes _ _ (after_back makes.before p.seat k why p.stage is) refl refl
    (own_one p.seat (event.Back p.seat k why) refl)

after_check : (m : Machine) (c k : ℕ) (st : Stage) → IsSender st → after m (seat_at c st) (Check k) ≡ m
after_check m c k (Sends r) is = refl
after_check m c k (Owns a b d) is = elim is [ ]

bit : (b : Bool) → ((if b then 1 else 0) == 0) ≡ not b
bit true = refl
bit false = refl

pub record CheckTells (k word : ℕ) (p q : Part) : Type 0 where
  pub told : Tells [] p q
  pub clear : (word == 0) ≡ not (pending q.seen k)

pub check_tells : (k word : ℕ) (p q : Part) → IsSender p.stage → k < number_count p.layout → Makes (Check k) word p q → CheckTells k word p q
check_tells k word p q is small makes =
    let m = makes.before in let e = after_check m p.seat k p.stage is in
    let seen : m.history ≡ q.seen = sym (makes.seen_is ∙ ap (λ (x : Machine). x.history) e) in record {
      told = tells (Check k) word p q makes _ [] e refl (sym (append-nil m.history)) refl;
      clear = ap (λ (x : ℕ). x == 0) (makes.word_is ∙
          makes.sound.items_are k (subst (λ (l : Layout). k < number_count l) makes.fits.layout_is small)) ∙
          (bit (pending m.history k) ∙ ap (λ (h : List Event). not (pending h k)) seen);
    }

-- what a meeting tells each of the two
pub meet_tells : (m : Machine) (p q : Part) → IsSound m → IsPartOf m p → q ≡ see m.history p → Tells [] p q
meet_tells m p q sound f is = let seen : q.seen ≡ m.history = ap (λ (x : Part). x.seen) is in record {
  layout_is = ap (λ (x : Part). x.layout) is;
  seat_is = ap (λ (x : Part). x.seat) is;
  grows = subst (Grows p.seat [] 0 p.seen) (append-nil m.history ∙ sym seen) (grows_done p.seat p.seen m.history [] f.begins f.mine refl);
  legal = subst (λ (z : Layout × List Event). IsLegal z.0 z.1) (λ i. (sym f.layout_is i, sym seen i)) sound.legal;
}

pub meet_sender : (m : Machine) (p q : Part) → q ≡ see m.history p → IsSender p.stage → IsSender q.stage
meet_sender m p q is sender = subst IsSender (sym (ap (λ (x : Part). x.stage) is)) sender
