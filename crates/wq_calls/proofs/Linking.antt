-- The links of what the owner took, through its steps.
use Rattle.wq_calls.proofs.Common.{◌≡◌, ◌≢◌, ℕ, ◌+◌, ◌<◌, ◌≤◌, Bool, if◌then◌else◌, List, [], ◌∷◌, ◌++◌, length, Option, Some, None, sym, refl, ap}
use Rattle.wq_calls.proofs.Common.{◌∙◌, subst, arith, eq-eqb, ne_eqb, unwrap_or, append-nil, number_count, Step, Walk, Turn, number_at, Machine, after}
use Rattle.wq_calls.proofs.Common.{times, times-cons, times-first, times-append, Part, Stage, Owns, seat_at, HasStage, stage_after, Makes, Row}
use Rattle.wq_calls.proofs.Common.{link_in, LinksOn, IsRowOf, Stands, HasRow, kept_batch, walking}
use Rattle.wq_core.specs.declared.step.Seat.TheVariants.{Owner}
use Rattle.wq_core.specs.Machine.{link, walk_number, with_link, first_of, after_walk, StandsIn}
use Rattle.wq_core.proofs.Turning.{stands_times, stands_once, stands_number}
use Rattle.wq_core.proofs.Taken.{link_after, owner_links}
use Rattle.wq_table.specs.Law.{HasLinks}
use Rattle.wq_table.specs.Chair.{IsToWalk, IsToTurn}
use Rattle.wq_calls.proofs.Rows.{on_same, row_same}
use Rattle.wq_calls.proofs.Tells.{Tells, tells}
use Rattle.wq_calls.proofs.OwnerTells.{walking_on, walk_stage}

-- the link of a number that the owner keeps, after its step
pub makes_links : (step : Step) (word : ℕ) (p q : Part) (cursor : Option ℕ) (walked ks : List ℕ) → p.stage ≡ Owns cursor walked ks → Makes step word p q
    → (k : ℕ) → 0 < times k walked + times k ks → link_in q.words k ≡ link_after step k (link_in p.words k)
makes_links step word p q cursor walked ks is makes k some =
    let m = makes.before in let keeps : HasStage m p.seat (Owns cursor walked ks) = subst (HasStage m p.seat) is makes.fits.keeps in
    let links : HasLinks m p.words (Owns cursor walked ks) = subst (HasLinks m p.words) is makes.fits.links in
    let there : StandsIn m.walked m.batch k = stands_times m.walked m.batch k (omega (arith, some, ap (times k) keeps.2, ap (times k) keeps.3)) in
    let same : after m (seat_at p.seat p.stage) step ≡ after m Owner step = ap (λ (st : Stage). after m (seat_at p.seat st) step) is in
    ap (λ (ws : List ℕ). link_in ws k) (makes.words_are ∙ ap (λ (x : Machine). x.words) same) ∙
    (owner_links m makes.sound k there step ∙ ap (link_after step k) (links k (stands_times walked ks k some)))

module _ (p : Part) (cursor : Option ℕ) (walked ks : List ℕ) (stands : Stands p) (is : p.stage ≡ Owns cursor walked ks) where
  keeps_lists : HasStage stands.machine p.seat (Owns cursor walked ks)
  keeps_lists = subst (HasStage stands.machine p.seat) is stands.fits.keeps

  -- it keeps each number once
  pub keeps_once : (k : ℕ) → times k walked + times k ks ≤ 1
  keeps_once k = omega (arith, stands_once stands.machine stands.sound k, ap (times k) keeps_lists.2, ap (times k) keeps_lists.3)

  pub keeps_number : (k : ℕ) → 0 < times k walked + times k ks → k < number_count p.layout
  keeps_number k some =
      let m = stands.machine in
      let there : StandsIn m.walked m.batch k = stands_times m.walked m.batch k (omega (arith, some, ap (times k) keeps_lists.2, ap (times k) keeps_lists.3)) in
      omega (arith, stands_number m stands.sound k there, ap number_count stands.fits.layout_is)

-- a row of the batch, after a step that turns nothing
pub row_after : (step : Step) (word : ℕ) (p q : Part) (cursor : Option ℕ) (walked ks js : List ℕ) → p.stage ≡ Owns cursor walked ks → Makes step word p q
    → ((k w : ℕ) → link_after step k w ≡ w) → ((j : ℕ) → times j js ≤ times j walked + times j ks) → (row : Row) → IsRowOf p.words row js
    → IsRowOf q.words row js
row_after step word p q cursor walked ks js is makes quiet within row has =
    row_same p.words q.words row js
    (λ j there. makes_links step word p q cursor walked ks is makes j (omega (arith, there, within j)) ∙ quiet j (link_in p.words j)) has

-- the batch, where the stage is known
pub kept_is : (st : Stage) (ks : List ℕ) → st ≡ Owns None [] ks → kept_batch st ≡ ks
kept_is st ks is = ap kept_batch is

pub has_row : (p : Part) (row : Row) (ks : List ℕ) → p.stage ≡ Owns None [] ks → IsRowOf p.words row ks → HasRow row p
has_row p row ks is has = let same = kept_is p.stage ks is in record {
  stage_is = is ∙ ap (Owns None []) (sym same);
  row_is = subst (IsRowOf p.words row) (sym same) has;
}

-- the row of the whole batch, after a step that leaves it
pub has_row_after : (step : Step) (word : ℕ) (p q : Part) (row : Row) → HasRow row p → Makes step word p q → ((k w : ℕ) → link_after step k w ≡ w)
    → q.stage ≡ Owns None [] (kept_batch p.stage) → HasRow row q
has_row_after step word p q row has makes quiet stage =
    has_row q row (kept_batch p.stage) stage
    (row_after step word p q None [] (kept_batch p.stage) (kept_batch p.stage) has.stage_is makes quiet (λ j. omega arith) row has.row_is)

-- what is to be walked, whether that is all of it or not, has these numbers
pub record HasLists (st : Stage) (ws ks : List ℕ) : Type 0 where
  pub cursor : Option ℕ
  pub walked : List ℕ
  pub batch : List ℕ
  pub is : st ≡ Owns cursor walked batch
  pub same : (k : ℕ) → times k walked + times k batch ≡ times k ws + times k ks

pub walking_lists : (next : Option ℕ) (ws ks : List ℕ) → HasLists (walking next ws ks) ws ks
walking_lists None ws ks = record { cursor = None; walked = []; batch = ks ++ ws; is = refl; same = λ k. omega (arith, times-append k ks ws) }
walking_lists (Some next) ws ks = record { cursor = Some next; walked = ws; batch = ks; is = refl; same = λ k. refl }

pub kept_walking : (next : Option ℕ) (ks : List ℕ) → kept_batch (walking next [] ks) ≡ ks
kept_walking None ks = append-nil ks
kept_walking (Some next) ks = refl

-- a Turn leaves what the owner keeps, and is no event
module _ (c f word : ℕ) (p q : Part) (cursor : Option ℕ) (walked ks : List ℕ) (is : p.stage ≡ Owns cursor walked ks)
    (makes : Makes (Turn c (Some f)) word p q) where
  pub turn_stage : q.stage ≡ p.stage
  turn_stage = makes.stage_is ∙ (ap (λ (st : Stage). stage_after st (Turn c (Some f)) word) is ∙ sym is)

  pub turn_tells : Tells [] p q
  turn_tells = let m = makes.before in
      tells (Turn c (Some f)) word p q makes (with_link m c (f + 1)) [] (ap (λ (st : Stage). after m (seat_at p.seat st) (Turn c (Some f))) is) refl
      (sym (append-nil m.history)) refl

  pub turn_here : 0 < times c walked + times c ks → link_in q.words c ≡ f + 1
  turn_here some =
      makes_links (Turn c (Some f)) word p q cursor walked ks is makes c some ∙ ap (λ (b : Bool). if b then f + 1 else link_in p.words c) (eq-eqb c c refl)

  pub turn_else : (k : ℕ) → k ≢ c → 0 < times k walked + times k ks → link_in q.words k ≡ link_in p.words k
  turn_else k ne some = makes_links (Turn c (Some f)) word p q cursor walked ks is makes k some ∙
      ap (λ (b : Bool). if b then f + 1 else link_in p.words k) (ne_eqb c k (λ e. ne (sym e)))

-- a load of the link of the batch's first changes nothing
pub load_stage : (word : ℕ) (p q : Part) (walked ks : List ℕ) → p.stage ≡ Owns None walked ks → Makes Walk word p q → q.stage ≡ Owns None walked ks
load_stage word p q walked ks is makes = makes.stage_is ∙ ap (λ (st : Stage). stage_after st Walk word) is

pub load_tells : (word : ℕ) (p q : Part) (walked ks : List ℕ) → p.stage ≡ Owns None walked ks → Makes Walk word p q → Tells [] p q
load_tells word p q walked ks is makes =
    let m = makes.before in let keeps : HasStage m p.seat (Owns None walked ks) = subst (HasStage m p.seat) is makes.fits.keeps in
    let after_is : after m (seat_at p.seat p.stage) Walk ≡ m = ap (λ (st : Stage). after m (seat_at p.seat st) Walk) is ∙ ap (after_walk m) keeps.1 in
    tells Walk word p q makes m [] after_is refl (sym (append-nil m.history)) refl

-- what was found is that link
pub load_finds : (word k : ℕ) (p q : Part) (ks : List ℕ) → p.stage ≡ Owns None [] (k ∷ ks) → Makes Walk word p q → word ≡ link_in p.words k
load_finds word k p q ks is makes =
    let m = makes.before in let keeps : HasStage m p.seat (Owns None [] (k ∷ ks)) = subst (HasStage m p.seat) is makes.fits.keeps in
    let links : HasLinks m p.words (Owns None [] (k ∷ ks)) = subst (HasLinks m p.words) is makes.fits.links in
    let at : walk_number m ≡ k = (λ i. unwrap_or (keeps.1 i) (first_of (keeps.3 i))) in
    makes.word_is ∙ (ap (link m) at ∙ links k (stands_times [] (k ∷ ks) k (omega (arith, times-first k ks))))

-- what the owner is to do next
pub to_walk_on : (k : ℕ) (st : Stage) (walked ks : List ℕ) → st ≡ Owns (Some k) walked ks → IsToWalk k st
to_walk_on k st walked ks is = subst (IsToWalk k) (sym is) refl

pub to_load : (k : ℕ) (st : Stage) (ks : List ℕ) → st ≡ Owns None [] (k ∷ ks) → IsToWalk k st
to_load k st ks is = subst (IsToWalk k) (sym is) refl

pub to_turn : (k : ℕ) (st : Stage) (cursor : Option ℕ) (walked ks : List ℕ) → st ≡ Owns cursor walked ks → 0 < times k walked + times k ks → IsToTurn k st
to_turn k st cursor walked ks is some = subst (IsToTurn k) (sym is) (stands_times walked ks k some)

-- From p to q some of what was taken was walked, from the newest number on, and turned: the row has it. The link that was
-- found last leads to this number.
pub record Turning (ks : List ℕ) (next : Option ℕ) (row : Row) (p q : Part) : Type 0 where
  pub rest : List ℕ
  pub count_is : row.count ≡ 1 + length rest
  pub links : LinksOn q.words row.front row.last rest
  pub stage_is : q.stage ≡ walking next (row.front ∷ rest) ks
  pub old_row : (r : Row) → IsRowOf p.words r ks → IsRowOf q.words r ks

unfoldable pub turning_first : (c found : ℕ) (p q : Part) (ks : List ℕ) → p.stage ≡ Owns (Some c) [] ks → Makes Walk found p q
    → Turning ks (number_at found) (record { front = c; last = c; count = 1 }) p q
turning_first c found p q ks is makes = record {
  rest = [];
  count_is = refl;
  links = refl;
  stage_is = walk_stage c found p q [] ks is makes;
  old_row = row_after Walk found p q (Some c) [] ks ks is makes (λ k w. refl) (λ j. omega arith);
}

module _ (ks : List ℕ) (next : Option ℕ) (number found : ℕ) (row : Row) (p q : Part) (turning : Turning ks next row p q) (is : next ≡ Some number)
    (t : Part) (stands : Stands t) (walks : Makes Walk found q t) where
  pub on : q.stage ≡ Owns (Some number) (row.front ∷ turning.rest) ks
  on = turning.stage_is ∙ walking_on next number (row.front ∷ turning.rest) ks is

  pub walked_stage : t.stage ≡ walking (number_at found) (number ∷ (row.front ∷ turning.rest)) ks
  walked_stage = walk_stage number found q t (row.front ∷ turning.rest) ks on walks

  abbrev pub walked_lists : HasLists (walking (number_at found) (number ∷ (row.front ∷ turning.rest)) ks) (number ∷ (row.front ∷ turning.rest)) ks
  walked_lists = walking_lists (number_at found) (number ∷ (row.front ∷ turning.rest)) ks

  pub lists_is : t.stage ≡ Owns walked_lists.cursor walked_lists.walked walked_lists.batch
  lists_is = walked_stage ∙ walked_lists.is

  pub within : (k : ℕ) → times k (row.front ∷ turning.rest) + times k ks ≤ times k walked_lists.walked + times k walked_lists.batch
  within k = omega (arith, walked_lists.same k, times-cons k number (row.front ∷ turning.rest))

  pub here : 0 < times number walked_lists.walked + times number walked_lists.batch
  here = omega (arith, walked_lists.same number, times-first number (row.front ∷ turning.rest))

  pub front_here : 0 < times row.front walked_lists.walked + times row.front walked_lists.batch
  front_here = omega (arith, within row.front, times-first row.front turning.rest)

  pub turn_next : IsToTurn number t.stage
  turn_next = to_turn number t.stage walked_lists.cursor walked_lists.walked walked_lists.batch lists_is here

  pub turn_number : number < number_count t.layout
  turn_number = keeps_number t walked_lists.cursor walked_lists.walked walked_lists.batch stands lists_is number here

  pub front_number : row.front < number_count t.layout
  front_number = keeps_number t walked_lists.cursor walked_lists.walked walked_lists.batch stands lists_is row.front front_here

  -- each of the others is another number
  others : (k : ℕ) → 0 < times k (row.front ∷ turning.rest) + times k ks → k ≢ number
  others k some e = let once = keeps_once t walked_lists.cursor walked_lists.walked walked_lists.batch stands lists_is number in
      let same : 0 < times number (row.front ∷ turning.rest) + times number ks =
      subst (λ (j : ℕ). 0 < times j (row.front ∷ turning.rest) + times j ks) e some in
      omega (arith, once, walked_lists.same number, times-first number (row.front ∷ turning.rest), same)

  module _ (r : Part) (turns : Makes (Turn number (Some row.front)) (row.front + 1) t r) where
    pub spared : (k : ℕ) → 0 < times k (row.front ∷ turning.rest) + times k ks → link_in r.words k ≡ link_in q.words k
    spared k some =
        turn_else number row.front (row.front + 1) t r walked_lists.cursor walked_lists.walked walked_lists.batch lists_is turns k (others k some)
        (omega (arith, some, within k)) ∙
        makes_links Walk found q t (Some number) (row.front ∷ turning.rest) ks on walks k some

    pub turned_stage : r.stage ≡ t.stage
    turned_stage = turn_stage number row.front (row.front + 1) t r walked_lists.cursor walked_lists.walked walked_lists.batch lists_is turns

    pub turned_tells : Tells [] t r
    turned_tells = turn_tells number row.front (row.front + 1) t r walked_lists.cursor walked_lists.walked walked_lists.batch lists_is turns

    unfoldable pub turning_next : Turning ks (number_at found) (record { front = number; last = row.last; count = row.count + 1 }) p r
    turning_next = record {
      rest = (row.front ∷ turning.rest);
      count_is = omega (arith, turning.count_is);
      links = (
        turn_here number row.front (row.front + 1) t r walked_lists.cursor walked_lists.walked walked_lists.batch lists_is turns here,
        on_same q.words r.words row.front row.last turning.rest (λ j there. spared j (omega (arith, there))) turning.links,
      );
      stage_is = turned_stage ∙ walked_stage;
      old_row = λ old has. row_same q.words r.words old ks (λ j there. spared j (omega (arith, there))) (turning.old_row old has);
    }

-- what a take or a close found is to be walked, behind the batch that it left
pub walks_kept : (st : Stage) (next : Option ℕ) (ks : List ℕ) → st ≡ walking next [] ks → st ≡ walking next [] (kept_batch st)
walks_kept st next ks is = is ∙ ap (walking next []) (sym (ap kept_batch is ∙ kept_walking next ks))

-- and what it kept as its batch
pub walks_batch : (st : Stage) (next : Option ℕ) (ks : List ℕ) → st ≡ walking next [] ks → kept_batch st ≡ ks
walks_batch st next ks is = ap kept_batch is ∙ kept_walking next ks

pub walks_row : (step : Step) (found : ℕ) (next : Option ℕ) (p q : Part) (row : Row) → HasRow row p → Makes step found p q
    → ((k w : ℕ) → link_after step k w ≡ w) → q.stage ≡ walking next [] (kept_batch p.stage) → IsRowOf q.words row (kept_batch q.stage)
walks_row step found next p q row has makes quiet is = subst (IsRowOf q.words row) (sym (ap kept_batch is ∙ kept_walking next (kept_batch p.stage)))
    (row_after step found p q None [] (kept_batch p.stage) (kept_batch p.stage) has.stage_is makes quiet (λ j. omega arith) row has.row_is)
