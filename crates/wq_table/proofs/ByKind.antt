-- What each kind of step does to the slots, whatever machine the seat is of.
use Rattle.wq_table.proofs.Common.{◌≡◌, ℕ, ◌<◌, ◌==◌, List, [], ◌∷◌, set, Option, Some, None, refl, ap, ◌∙◌, subst, arith, Layout, Why, Event}
use Rattle.wq_table.proofs.Common.{number_count, Holds, Private, Hold, Link, Push, Back, Check, Take, Close, Drain, Resume, Begin, End, Chain, Turn}
use Rattle.wq_table.proofs.Common.{Rest, head, busy_word, Stage, Sends, Owns, part, Carries, Hand, GoesBy}
use Rattle.wq_words.specs.History.{running}
use Rattle.wq_words.proofs.Seen.{held_same}
use Rattle.wq_core.specs.declared.step.Step.TheVariants.{Look, Walk}
use Rattle.wq_core.specs.Words.{head_place, closed_word, draining_word, resting_word, head_at, item_of}
use Rattle.wq_core.proofs.OwnerSteps.{cursor_is}
use Rattle.wq_table.specs.Chair.{IsSender, HasSeen, HasLinked, IsOwner, HasWalked, IsToWalk, IsToTurn, IsToBegin}
use Rattle.wq_table.proofs.Moves.{goes_still, shelves_take, shelves_close, shelves_drain, shelves_resume, shelves_rest, shelves_end, goes_hold}
use Rattle.wq_table.proofs.Moves.{goes_push, goes_back, goes_begin, goes_chain}
use Rattle.wq_table.proofs.Walked.{goes_walk, goes_walk_none}

module _ {V : Type 0} (c : ℕ) (layout : Layout) (seen : List Event) (words : List ℕ) where
  pub by_hold : (k slots : ℕ) (hand : Hand V) (stage : Stage) → IsSender stage → k < number_count layout → slots ≡ number_count layout
      → GoesBy slots (part c layout seen words stage) None (Hold k) hand
  by_hold k slots hand (Sends q) sender number deep = λ m brs homes sound fits wide sh.
      let size : number_count layout ≡ number_count m.layout = ap number_count fits.layout_is in
      goes_hold m sound (part c layout seen words (Sends q)) brs homes sh c k hand (omega (arith, number, size)) (omega (arith, number, deep, wide))
  by_hold k slots hand (Owns cursor walked batch) sender number deep = absurd sender

  pub by_look : (slots : ℕ) (hand : Hand V) (stage : Stage) → IsSender stage → GoesBy slots (part c layout seen words stage) None Look hand
  by_look slots hand (Sends q) sender = λ m brs homes sound fits wide sh. goes_still m (part c layout seen words
      (Sends q)) brs homes sh Look _ _ hand sh (refl, refl)
  by_look slots hand (Owns cursor walked batch) sender = absurd sender

  pub by_link : (k w slots : ℕ) (hand : Hand V) (stage : Stage) → HasSeen w stage → GoesBy slots (part c layout seen words stage) None (Link k) hand
  by_link k w slots hand (Sends q) is = λ m brs homes sound fits wide sh. goes_still m (part c layout seen words (Sends q)) brs homes sh
      (Link k) _ _ hand sh (refl, refl)
  by_link k w slots hand (Owns cursor walked batch) is = absurd is

  pub by_push : (k w slots : ℕ) (y : Option V) (rest : Hand V) (stage : Stage) → HasLinked w k stage → Carries layout.items k y
      → k < number_count layout → slots ≡ number_count layout
      → GoesBy slots (part c layout seen words stage) None (Push k) ((k, y) ∷ rest)
  by_push k w slots y rest (Sends q) is fit number deep = λ m brs homes sound fits wide sh.
      let mine = sound.linked c k (ap (λ (x : Private). x.linked) fits.keeps.1 ∙ is.1) in
      goes_push m sound (part c layout seen words (Sends q)) brs homes sh k y rest (subst (λ l. Carries l.items k y) fits.layout_is fit) mine.1
      (omega (arith, number, deep, wide))
  by_push k w slots y rest (Owns cursor walked batch) is fit number deep = absurd is

  pub by_back : (k slots : ℕ) (why : Why) (rest : Hand V) (stage : Stage) → IsSender stage → Holds seen c k → k < number_count layout
      → slots ≡ number_count layout
      → GoesBy slots (part c layout seen words stage) None (Back k why) ((k, None) ∷ rest)
  by_back k slots why rest (Sends q) sender holds number deep = λ m brs homes sound fits wide sh.
      goes_back m sound (part c layout seen words (Sends q)) brs homes sh c k _ why _ _ rest (held_same c k seen m.history fits.mine holds)
      (omega (arith, number, deep, wide))
  by_back k slots why rest (Owns cursor walked batch) sender holds number deep = absurd sender

  pub by_take : (slots : ℕ) (hand : Hand V) (stage : Stage) → HasWalked stage → GoesBy slots (part c layout seen words stage) None Take hand
  by_take slots hand (Sends q) still = absurd still
  by_take slots hand (Owns cursor walked batch) still = λ m brs homes sound fits wide sh.
      goes_still m (part c layout seen words (Owns cursor walked batch)) brs homes sh Take _ _ hand
      (shelves_take m (part c layout seen words (Owns cursor walked batch)) brs homes sh (set m.words head_place busy_word) (item_of (head_at
      (head m)))) (refl, refl)

  pub by_close : (slots : ℕ) (hand : Hand V) (stage : Stage) → HasWalked stage → GoesBy slots (part c layout seen words stage) None Close hand
  by_close slots hand (Sends q) still = absurd still
  by_close slots hand (Owns cursor walked batch) still = λ m brs homes sound fits wide sh.
      goes_still m (part c layout seen words (Owns cursor walked batch)) brs homes sh Close _ _ hand
      (shelves_close m (part c layout seen words (Owns cursor walked batch)) brs homes sh (set m.words head_place closed_word) (item_of (head_at
      (head m)))) (refl, refl)

  pub by_drain : (slots : ℕ) (hand : Hand V) (stage : Stage) → HasWalked stage → GoesBy slots (part c layout seen words stage) None Drain hand
  by_drain slots hand (Sends q) still = absurd still
  by_drain slots hand (Owns cursor walked batch) still = λ m brs homes sound fits wide sh.
      goes_still m (part c layout seen words (Owns cursor walked batch)) brs homes sh Drain _ _ hand
      (shelves_drain m (part c layout seen words (Owns cursor walked batch)) brs homes sh (set m.words head_place draining_word) (item_of (head_at
      (head m)))) (refl, refl)

  pub by_resume : (slots : ℕ) (hand : Hand V) (stage : Stage) → HasWalked stage → GoesBy slots (part c layout seen words stage) None Resume hand
  by_resume slots hand (Sends q) still = absurd still
  by_resume slots hand (Owns cursor walked batch) still = λ m brs homes sound fits wide sh.
      goes_still m (part c layout seen words (Owns cursor walked batch)) brs homes sh Resume _ _ hand
      (shelves_resume m (part c layout seen words (Owns cursor walked batch)) brs homes sh (set m.words head_place busy_word) (item_of (head_at
      (head m)))) (refl, refl)

  pub by_rest : (slots : ℕ) (hand : Hand V) (stage : Stage) → HasWalked stage → GoesBy slots (part c layout seen words stage) None Rest hand
  by_rest slots hand (Sends q) still = absurd still
  by_rest slots hand (Owns cursor walked batch) still = λ m brs homes sound fits wide sh.
      goes_still m (part c layout seen words (Owns cursor walked batch)) brs homes sh Rest _ _ hand
      (shelves_rest m (part c layout seen words (Owns cursor walked batch)) brs homes sh (head m == busy_word) (set m.words head_place resting_word))
      (refl, refl)

  pub by_check : (k slots : ℕ) (hand : Hand V) (stage : Stage) → IsSender stage → GoesBy slots (part c layout seen words stage) None (Check k) hand
  by_check k slots hand (Sends q) sender = λ m brs homes sound fits wide sh.
      goes_still m (part c layout seen words (Sends q)) brs homes sh (Check k) _ _ hand sh (refl, refl)
  by_check k slots hand (Owns cursor walked batch) sender = absurd sender

  pub by_turn : (j k : ℕ) (next : Option ℕ) (slots : ℕ) (hand : Hand V) (stage : Stage) → IsToTurn j stage
      → GoesBy slots (part c layout seen words stage) None (Turn k next) hand
  by_turn j k next slots hand (Sends q) is = absurd is
  by_turn j k next slots hand (Owns cursor walked batch) is = λ m brs homes sound fits wide sh.
      goes_still m (part c layout seen words (Owns cursor walked batch)) brs homes sh (Turn k next) _ _ hand sh (refl, refl)

  pub by_walk : (k slots : ℕ) (hand : Hand V) (stage : Stage) → IsToWalk k stage → slots ≡ number_count layout
      → GoesBy slots (part c layout seen words stage) None Walk hand
  by_walk k slots hand (Sends q) is deep = absurd is
  by_walk k slots hand (Owns (Some j) walked batch) is deep = λ m brs homes sound fits wide sh.
      let low = cursor_is m sound j fits.keeps.1 in
      let size : number_count layout ≡ number_count m.layout = ap number_count fits.layout_is in
      goes_walk m sound (part c layout seen words (Owns (Some j) walked batch)) brs homes sh j _ walked batch hand fits.keeps.1 refl
      (omega (arith, low, size, deep, wide))
  by_walk k slots hand (Owns None walked []) is deep = absurd is
  by_walk k slots hand (Owns None walked (j ∷ js)) is deep = λ m brs homes sound fits wide sh.
      goes_walk_none m sound (part c layout seen words (Owns None walked (j ∷ js))) brs homes sh _ walked (j ∷ js) hand fits.keeps.1 refl

  pub by_begin : (k slots : ℕ) (rest : Hand V) (stage : Stage) → IsToBegin k stage → k < number_count layout → slots ≡ number_count layout
      → GoesBy slots (part c layout seen words stage) None Begin ((k, None) ∷ rest)
  by_begin k slots rest (Sends q) is number deep = absurd is
  by_begin k slots rest (Owns cursor walked []) is number deep = absurd is
  by_begin k slots rest (Owns cursor walked (j ∷ js)) is number deep = λ m brs homes sound fits wide sh.
      goes_begin m sound (part c layout seen words (Owns cursor walked (j ∷ js))) brs homes sh k _ js rest (fits.keeps.1 ∙ is.0)
      (fits.keeps.3 ∙ ap (λ (i : ℕ). i ∷ js) is.1) (omega (arith, number, deep, wide))

  pub by_end : (slots : ℕ) (hand : Hand V) (stage : Stage) → IsOwner stage → GoesBy slots (part c layout seen words stage) None End hand
  by_end slots hand (Sends q) owner = absurd owner
  by_end slots hand (Owns cursor walked batch) owner = λ m brs homes sound fits wide sh.
      goes_still m (part c layout seen words (Owns cursor walked batch)) brs homes sh End _ _ hand
      (shelves_end m (part c layout seen words (Owns cursor walked batch)) brs homes sh (running m.history)) (refl, refl)

  pub by_chain : (k slots : ℕ) (x : Option V) (hand : Hand V) (stage : Stage) → HasWalked stage → Carries layout.items k x → k < layout.items
      → slots ≡ number_count layout
      → GoesBy slots (part c layout seen words stage) x (Chain k) hand
  by_chain k slots x hand (Sends q) still fit item deep = absurd still
  by_chain k slots x hand (Owns cursor walked batch) still fit item deep = λ m brs homes sound fits wide sh.
      let size : number_count layout ≡ number_count m.layout = ap number_count fits.layout_is in
      goes_chain m sound (part c layout seen words (Owns cursor walked batch)) brs homes sh k x hand (subst
      (λ l. Carries l.items k x) fits.layout_is fit) (omega (arith, item, size)) (omega (arith, item, deep, wide))
