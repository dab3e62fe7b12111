-- A step changes what its own seat keeps, and adds events of that seat alone.
use Rattle.wq_table.proofs.Common.{◌≡◌, ℕ, ◌≢◌, Bool, true, false, ◌==◌, if◌then◌else◌, List, [], ◌∷◌, ◌++◌, Option, Some, None, sym, refl, ap, ◌∙◌}
use Rattle.wq_table.proofs.Common.{subst, arith, append-nil, Layout, Event, Private, Step, Hold, Link, Push, Back, Check, Take, Close, Drain, Resume}
use Rattle.wq_table.proofs.Common.{Begin, End, Chain, Turn, Rest, busy_word, Machine, nothing_seen, seen_word, head, link, item_word, after_begin}
use Rattle.wq_table.proofs.Common.{after_end, after, StandsIn, IsSound, Part, Stage, Sends, Owns, owner_seat, seat_at, IsPartOf, word_found}
use Rattle.std.proofs.Common.{unwrap_or}
use Rattle.std.proofs.lemmas.List.{get_or-set_other, get_or-set_same}
use Rattle.wq_words.specs.declared.event.Event.TheVariants as event
use Rattle.wq_words.specs.History.{running}
use Rattle.wq_core.specs.declared.step.Seat.TheVariants.{Owner}
use Rattle.wq_core.specs.declared.step.Step.TheVariants.{Look, Walk}
use Rattle.wq_core.specs.Words.{number_at}
use Rattle.wq_core.specs.Machine.{private, with_item, with_private, happened, unlinked, after_walk, first_of}
use Rattle.wq_core.specs.Made.{IsMade}
use Rattle.wq_words.specs.Seen.{seat_of, own}
use Rattle.wq_table.specs.Law.{HasStage, HasLinks}
use Rattle.wq_core.proofs.Taken.{sender_links}
use Rattle.wq_table.specs.Plays.{stage_after, walked_by, tail_of}
use Rattle.wq_words.proofs.Seen.{own_none, own_same}
use Rattle.wq_words.proofs.Prefixes.{prefix_append}

-- from m to n by a step of the seat c: what is of other seats stays
pub record Change (m n : Machine) (c : ℕ) : Type 0 where
  pub layout_is : n.layout ≡ m.layout
  pub new : List Event
  pub history_is : n.history ≡ m.history ++ new
  pub by : (d : ℕ) → d ≢ c → own d new ≡ []
  pub senders : (d : ℕ) → d ≢ c → private n d ≡ private m d
  pub owner : c ≢ owner_seat → (n.cursor ≡ m.cursor) × (n.walked ≡ m.walked) × (n.batch ≡ m.batch)

change_either : (m x y : Machine) (c : ℕ) (b : Bool) → Change m x c → Change m y c → Change m (if b then x else y) c
change_either m x y c true p q = p
change_either m x y c false p q = q

module _ (m : Machine) (s : ℕ) where
  -- a sender's step with one event, and with none
  sent : (words : List ℕ) (p : Private) (e : Event) → seat_of e ≡ s → Change m (happened (with_private (record m { words = words }) s p) e) s
  sent words p e is = record {
    layout_is = refl;
    new = e ∷ [];
    history_is = refl;
    by = own_none s e is;
    senders = λ d ne. get_or-set_other m.seats s d p nothing_seen ne;
    owner = λ ne. (refl, refl, refl);
  }

  marked : (words : List ℕ) (e : Event) → seat_of e ≡ s → Change m (happened (record m { words = words }) e) s
  marked words e is = record {
    layout_is = refl;
    new = e ∷ [];
    history_is = refl;
    by = own_none s e is;
    senders = λ d ne. refl;
    owner = λ ne. (refl, refl, refl);
  }

  kept : (words : List ℕ) (p : Private) → Change m (with_private (record m { words = words }) s p) s
  kept words p = record {
    layout_is = refl;
    new = [];
    history_is = sym (append-nil m.history);
    by = λ d ne. refl;
    senders = λ d ne. get_or-set_other m.seats s d p nothing_seen ne;
    owner = λ ne. (refl, refl, refl);
  }

unchanged : (m : Machine) (c : ℕ) → Change m m c
unchanged m c = record {
  layout_is = refl;
  new = [];
  history_is = sym (append-nil m.history);
  by = λ d ne. refl;
  senders = λ d ne. refl;
  owner = λ ne. (refl, refl, refl);
}

module _ (m : Machine) (c : ℕ) (is : c ≡ owner_seat) where
  -- an owner's step with one event, and with none
  did : (words : List ℕ) (cursor : Option ℕ) (walked batch : List ℕ) (e : Event) → seat_of e ≡ owner_seat
      → Change m (happened (record m { words = words; cursor = cursor; walked = walked; batch = batch }) e) c
  did words cursor walked batch e by' = record {
    layout_is = refl;
    new = e ∷ [];
    history_is = refl;
    by = own_none c e (by' ∙ sym is);
    senders = λ d ne. refl;
    owner = λ ne. absurd (ne is);
  }

  turned : (words : List ℕ) (cursor : Option ℕ) (walked batch : List ℕ)
      → Change m (record m { words = words; cursor = cursor; walked = walked; batch = batch }) c
  turned words cursor walked batch = record {
    layout_is = refl;
    new = [];
    history_is = sym (append-nil m.history);
    by = λ d ne. refl;
    senders = λ d ne. refl;
    owner = λ ne. absurd (ne is);
  }

  change_walk : (cursor : Option ℕ) → Change m (after_walk m cursor) c
  change_walk None = unchanged m c
  change_walk (Some k) = change_either m _ _ c (link m k == 0) (turned m.words None [] (m.batch ++ k ∷ m.walked))
      (turned m.words (number_at (link m k)) (k ∷ m.walked) m.batch)

  change_begin : (batch : List ℕ) → Change m (after_begin m batch) c
  change_begin [] = unchanged m c
  change_begin (k ∷ ks) = did _ m.cursor m.walked ks (event.Begin k) refl

  change_end : (runs : Option ℕ) → Change m (after_end m runs) c
  change_end None = unchanged m c
  change_end (Some k) = did _ m.cursor m.walked m.batch (event.End k) refl

pub changes : (m : Machine) (c : ℕ) (stage : Stage) (step : Step) → HasStage m c stage → Change m (after m (seat_at c stage) step) c
changes m c (Sends p) (Hold k) keeps = change_either m _ _ c (item_word m k == 0) (marked m c _ (event.Hold c k) refl)
    (marked m c m.words (event.Busy c k) refl)
changes m c (Sends p) Look keeps = kept m c m.words _
changes m c (Sends p) (Link k) keeps = kept m c _ _
changes m c (Sends p) (Push k) keeps = change_either m _ _ c (head m == seen_word m c) (sent m c _ nothing_seen (event.Push c k) refl)
    (kept m c m.words nothing_seen)
changes m c (Sends p) (Back k why) keeps = sent m c _ _ (event.Back c k why) refl
changes m c (Sends p) _ keeps = unchanged m c
changes m c (Owns cursor walked batch) Take keeps = did m c keeps.0 _ _ m.walked m.batch event.Take refl
changes m c (Owns cursor walked batch) Close keeps = did m c keeps.0 _ _ m.walked m.batch event.Close refl
changes m c (Owns cursor walked batch) Drain keeps = did m c keeps.0 _ _ m.walked m.batch event.Drain refl
changes m c (Owns cursor walked batch) Resume keeps = did m c keeps.0 _ _ m.walked m.batch event.Resume refl
changes m c (Owns cursor walked batch) Walk keeps = change_walk m c keeps.0 m.cursor
changes m c (Owns cursor walked batch) Begin keeps = change_begin m c keeps.0 m.batch
changes m c (Owns cursor walked batch) End keeps = change_end m c keeps.0 (running m.history)
changes m c (Owns cursor walked batch) (Chain k) keeps =
    change_either m _ _ c (item_word m k == 0) (did m c keeps.0 _ m.cursor m.walked _ (event.Chain k) refl)
    (did m c keeps.0 m.words m.cursor m.walked m.batch (event.ChainBusy k) refl)
changes m c (Owns cursor walked batch) (Turn k next) keeps = turned m c keeps.0 _ m.cursor m.walked m.batch
changes m c (Owns cursor walked batch) Rest keeps =
    change_either m _ _ c (head m == busy_word) (did m c keeps.0 _ m.cursor m.walked m.batch event.Rest refl) (unchanged m c)
changes m c (Owns cursor walked batch) _ keeps = unchanged m c

keeps_other : (m n : Machine) (c d : ℕ) (stage : Stage) → Change m n c → d ≢ c → HasStage m d stage → HasStage n d stage
keeps_other m n c d (Sends p) change ne keeps = (omega (arith, ap (λ (l : Layout). l.senders) change.layout_is, keeps.0), change.senders d ne ∙ keeps.1)
keeps_other m n c d (Owns cursor walked batch) change ne keeps =
    let same = change.owner (λ e. ne (keeps.0 ∙ sym e)) in (keeps.0, same.0 ∙ keeps.1, same.1 ∙ keeps.2, same.2 ∙ keeps.3)

-- the links that a seat knows, once another has made its step
links_other : (m n : Machine) (c d : ℕ) (stage : Stage) (words : List ℕ)
    → (c ≢ owner_seat → (k : ℕ) → StandsIn m.walked m.batch k → link n k ≡ link m k) → d ≢ c → HasStage m d stage → HasLinks m words stage
    → HasLinks n words stage
links_other m n c d (Sends p) words spared ne keeps links = tt
links_other m n c d (Owns cursor walked batch) words spared ne keeps links = λ k there.
    spared (λ e. ne (keeps.0 ∙ sym e)) k (subst (λ (z : List ℕ × List ℕ). StandsIn z.0 z.1 k) (λ i. (sym keeps.2 i, sym keeps.3 i)) there) ∙ links k there

-- the owner knows the links of the words themselves
pub links_known : (m : Machine) (stage : Stage) → HasLinks m m.words stage
links_known m (Sends p) = tt
links_known m (Owns cursor walked batch) = λ k there. refl

-- a step leaves the links of what the owner took and has not begun, where it is a sender's
pub links_spared : (m : Machine) (c : ℕ) (stage : Stage) (step : Step) → IsSound m → HasStage m c stage → IsMade m (seat_at c stage) step → c ≢ owner_seat
    → (k : ℕ) → StandsIn m.walked m.batch k → link (after m (seat_at c stage) step) k ≡ link m k
links_spared m c (Sends p) step sound keeps made ne k stands = sender_links m sound k stands c step made
links_spared m c (Owns cursor walked batch) step sound keeps made ne k stands = absurd (ne keeps.0)

-- the part of another seat still fits
pub fits_other : (m n : Machine) (c : ℕ) (q : Part) → Change m n c → (c ≢ owner_seat → (k : ℕ) → StandsIn m.walked m.batch k → link n k ≡ link m k)
    → q.seat ≢ c → IsPartOf m q → IsPartOf n q
fits_other m n c q change spared ne fits = record {
  layout_is = fits.layout_is ∙ sym change.layout_is;
  begins = rw change.history_is (prefix_append q.seen m.history change.new fits.begins);
  mine = ap (own q.seat) change.history_is ∙ (own_same q.seat m.history change.new (change.by q.seat ne) ∙ fits.mine);
  keeps = keeps_other m n c q.seat q.stage change ne fits.keeps;
  links = links_other m n c q.seat q.stage q.words spared ne fits.keeps fits.links;
}

keeps_either : (x y : Machine) (c : ℕ) (b : Bool) (stage : Stage) → HasStage x c stage → HasStage y c stage → HasStage (if b then x else y) c stage
keeps_either x y c true stage p q = p
keeps_either x y c false stage p q = q

keeps_walk : (m : Machine) (c : ℕ) (cursor : Option ℕ) → c ≡ owner_seat → m.cursor ≡ cursor
    → HasStage (after_walk m cursor) c (walked_by cursor m.walked m.batch (link m (unwrap_or cursor (first_of m.batch))))
keeps_walk m c None is at = (is, at, refl, refl)
keeps_walk m c (Some k) is at = go (link m k == 0)
  where
    go : (b : Bool)
        → HasStage
        (if b then record m { cursor = None; walked = []; batch = m.batch ++ k ∷ m.walked } else record m {
          cursor = number_at
              (link m k);
          walked = k ∷ m.walked;
        }) c
        (if b then Owns None [] (m.batch ++ k ∷ m.walked) else Owns (number_at (link m k)) (k ∷ m.walked) m.batch)
    go true = (is, refl, refl, refl)
    go false = (is, refl, refl, refl)

keeps_begin : (m : Machine) (c : ℕ) (batch : List ℕ) → c ≡ owner_seat → batch ≢ [] → HasStage (after_begin m batch) c (Owns m.cursor m.walked (tail_of batch))
keeps_begin m c [] is some = absurd (some refl)
keeps_begin m c (k ∷ ks) is some = (is, refl, refl, refl)

keeps_end : (m : Machine) (c : ℕ) (runs : Option ℕ) → c ≡ owner_seat → HasStage (after_end m runs) c (Owns m.cursor m.walked m.batch)
keeps_end m c None is = (is, refl, refl, refl)
keeps_end m c (Some k) is = (is, refl, refl, refl)

keeps_chain : (m : Machine) (c k : ℕ) (b : Bool) → c ≡ owner_seat
    → HasStage (if b then happened (record (with_item m k 1) { batch = m.batch ++ k ∷ [] }) (event.Chain k) else happened m (event.ChainBusy k)) c
    (Owns m.cursor m.walked (if b then m.batch ++ k ∷ [] else m.batch))
keeps_chain m c k true is = (is, refl, refl, refl)
keeps_chain m c k false is = (is, refl, refl, refl)

own_again : (m : Machine) (c : ℕ) (cursor : Option ℕ) (walked batch : List ℕ) → HasStage m c (Owns cursor walked batch)
    → Owns m.cursor m.walked m.batch ≡ Owns cursor walked batch
own_again m c cursor walked batch keeps = cc (keeps.1, keeps.2, keeps.3)

-- what the seat keeps after its step
pub keeps_after : (m : Machine) (c : ℕ) (stage : Stage) (step : Step) → IsSound m → HasStage m c stage → IsMade m (seat_at c stage) step
    → HasStage (after m (seat_at c stage) step) c (stage_after stage step (word_found m c step))
keeps_after m c (Sends p) (Hold k) sound keeps made = keeps_either _ _ c (item_word m k == 0) (Sends p) keeps keeps
keeps_after m c (Sends p) Look sound keeps made = (keeps.0, get_or-set_same m.seats c _ nothing_seen (omega (arith, sound.has_seats, keeps.0)))
keeps_after m c (Sends p) (Link k) sound keeps made =
    (keeps.0, get_or-set_same m.seats c _ nothing_seen (omega (arith, sound.has_seats, keeps.0)) ∙ ap (λ (x : Private). record x { linked = Some k }) keeps.1)
keeps_after m c (Sends p) (Push k) sound keeps made =
    let here : HasStage (with_private m c nothing_seen) c (Sends nothing_seen) = (
      keeps.0,
      get_or-set_same m.seats c nothing_seen nothing_seen (omega (arith, sound.has_seats, keeps.0)),
    ) in
    keeps_either _ _ c (head m == seen_word m c) (Sends nothing_seen) here here
keeps_after m c (Sends p) (Back k why) sound keeps made =
    (keeps.0, get_or-set_same m.seats c _ nothing_seen (omega (arith, sound.has_seats, keeps.0)) ∙ ap (λ (x : Private). unlinked x k) keeps.1)
keeps_after m c (Sends p) (Check k) sound keeps made = keeps
keeps_after m c (Sends p) _ sound keeps made = absurd made.1
keeps_after m c (Owns cursor walked batch) Take sound keeps made = (keeps.0, refl, keeps.2, keeps.3)
keeps_after m c (Owns cursor walked batch) Close sound keeps made = (keeps.0, refl, keeps.2, keeps.3)
keeps_after m c (Owns cursor walked batch) Drain sound keeps made = (keeps.0, refl, keeps.2, keeps.3)
keeps_after m c (Owns cursor walked batch) Resume sound keeps made = (keeps.0, refl, keeps.2, keeps.3)
keeps_after m c (Owns cursor walked batch) Walk sound keeps made =
    subst (λ (st : Stage). HasStage (after m Owner Walk) c (stage_after st Walk (word_found m c Walk))) (own_again m c cursor walked batch keeps)
    (keeps_walk m c m.cursor keeps.0 refl)
keeps_after m c (Owns cursor walked batch) Begin sound keeps made =
    subst (λ (st : Stage). HasStage (after m Owner Begin) c (stage_after st Begin (word_found m c Begin))) (own_again m c cursor walked batch keeps)
    (keeps_begin m c m.batch keeps.0 made.1.1)
keeps_after m c (Owns cursor walked batch) End sound keeps made =
    subst (λ (st : Stage). HasStage (after m Owner End) c (stage_after st End (word_found m c End))) (own_again m c cursor walked batch keeps)
    (keeps_end m c (running m.history) keeps.0)
keeps_after m c (Owns cursor walked batch) (Chain k) sound keeps made =
    subst (λ (st : Stage). HasStage (after m Owner (Chain k)) c (stage_after st (Chain k) (word_found m c (Chain k))))
    (own_again m c cursor walked batch keeps) (keeps_chain m c k (item_word m k == 0) keeps.0)
keeps_after m c (Owns cursor walked batch) (Turn k next) sound keeps made = keeps
keeps_after m c (Owns cursor walked batch) Rest sound keeps made = keeps_either _ _ c (head m == busy_word) (Owns cursor walked batch) keeps keeps
keeps_after m c (Owns cursor walked batch) _ sound keeps made = absurd made.1
