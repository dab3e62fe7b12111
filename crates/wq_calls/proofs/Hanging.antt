-- A row hung behind another, and a row without its first number.
use Rattle.wq_calls.proofs.Common.{◌≡◌, ◌≢◌, ℕ, ◌+◌, ◌-◌, ◌<◌, ◌≤◌, Bool, if◌then◌else◌, List, [], ◌∷◌, ◌++◌, length, None, Some, sym, refl, ap, ◌∙◌}
use Rattle.wq_calls.proofs.Common.{subst, arith, length-append, ne_eqb, append-nil, number_count, number_at, Walk, Chain, Turn, times, times-cons, nil_from_length}
use Rattle.wq_calls.proofs.Common.{times-first, times-append, Part, Owns, Makes, Row, link_in, LinksOn, IsRowOf, Stands, HasRow, HasBoth, kept_batch}
use Rattle.std.proofs.Common.{◌^◌}
use Rattle.wq_core.specs.declared.step.Step.TheVariants.{Begin}
use Rattle.wq_table.specs.Chair.{IsToWalk, IsToTurn}
use Rattle.wq_calls.specs.Row.{LinksFrom}
use Rattle.wq_calls.specs.Sits.{Turned, HasFirst}
use Rattle.wq_calls.proofs.Rows.{on_same, last_in, on_hung}
use Rattle.wq_calls.proofs.Tells.{Tells}
use Rattle.wq_calls.proofs.Taking.{number_small}
use Rattle.wq_calls.proofs.Linking.{keeps_once, keeps_number, row_after, has_row, turn_stage, turn_tells, turn_here, turn_else, to_turn, to_load, load_stage, load_finds, makes_links}

-- the last number of a row stands in it, and the first too
last_counted : (ws : List ℕ) (row : Row) (ks : List ℕ) → IsRowOf ws row ks → row.count ≢ 0 → 0 < times row.last ks
last_counted ws row [] is some = absurd (some is.count_is)
last_counted ws row (k ∷ ks) is some = last_in ws k row.last ks is.spells.1

front_counted : (ws : List ℕ) (row : Row) (ks : List ℕ) → IsRowOf ws row ks → row.count ≢ 0 → 0 < times row.front ks
front_counted ws row [] is some = absurd (some is.count_is)
front_counted ws row (k ∷ ks) is some = subst (λ (j : ℕ). 0 < times j (k ∷ ks)) (sym is.spells.0) (omega (arith, times-first k ks))

-- the second row spelled behind the first, where the last link of the first was turned
hung : (ws ws' : List ℕ) (row more : Row) (ks js : List ℕ) → row.count ≢ 0 → more.count ≢ 0 → times row.last ks ≤ 1
    → ((i : ℕ) → i ≢ row.last → 0 < times i ks → link_in ws' i ≡ link_in ws i) → ((i : ℕ) → 0 < times i js → link_in ws' i ≡ link_in ws i)
    → link_in ws' row.last ≡ more.front + 1 → IsRowOf ws row ks → IsRowOf ws more js → LinksFrom ws' row.front more.last (ks ++ js)
hung ws ws' row more [] js some some' once same behind turned is is' = absurd (some is.count_is)
hung ws ws' row more (k ∷ ks) [] some some' once same behind turned is is' = absurd (some' is'.count_is)
hung ws ws' row more (k ∷ ks) (j ∷ js) some some' once same behind turned is is' = (
  is.spells.0,
  on_hung ws ws' k row.last ks j more.last js once same (turned ∙ ap (λ (i : ℕ). i + 1) is'.spells.0) is.spells.1
      (on_same ws ws' j more.last js behind is'.spells.1),
)

module _ (row more : Row) (p : Part) (stands : Stands p) (both : HasBoth row more p) where
  abbrev pub whole : List ℕ
  whole = both.front ++ both.back

  -- nothing is hung, and nothing hangs
  pub hang_none : more.count ≡ 0 → HasRow row p
  hang_none none =
      let nothing : both.back ≡ [] = nil_from_length both.back (omega (arith, none, both.back_is.count_is)) in
      has_row p row both.front
      (both.stage_is ∙ ap (λ (ks : List ℕ). Owns None [] (both.front ++ ks)) nothing ∙ ap (Owns None []) (append-nil both.front)) both.front_is

  pub hang_alone : row.count ≡ 0 → HasRow more p
  hang_alone none =
      let nothing : both.front ≡ [] = nil_from_length both.front (omega (arith, none, both.front_is.count_is)) in
      has_row p more both.back (both.stage_is ∙ ap (λ (ks : List ℕ). Owns None [] (ks ++ both.back)) nothing) both.back_is

  module _ (q : Part) (turns : Makes (Turn row.last (Some more.front)) (more.front + 1) p q) where
    pub hang_stage : q.stage ≡ p.stage
    hang_stage = turn_stage row.last more.front (more.front + 1) p q None [] whole both.stage_is turns

    pub hang_tells : Tells [] p q
    hang_tells = turn_tells row.last more.front (more.front + 1) p q None [] whole both.stage_is turns

  module _ (some : row.count ≢ 0) (some' : more.count ≢ 0) where
    last_here : 0 < times row.last [] + times row.last whole
    last_here = omega (arith, last_counted p.words row both.front both.front_is some, times-append row.last both.front both.back)

    front_here : 0 < times more.front [] + times more.front whole
    front_here = omega (arith, front_counted p.words more both.back both.back_is some', times-append more.front both.front both.back)

    pub hang_number : row.last < number_count p.layout
    hang_number = keeps_number p None [] whole stands both.stage_is row.last last_here

    pub hang_next : more.front < number_count p.layout
    hang_next = keeps_number p None [] whole stands both.stage_is more.front front_here

    pub hang_turns : IsToTurn row.last p.stage
    hang_turns = to_turn row.last p.stage None [] whole both.stage_is last_here

    -- the sum is the count of the whole batch
    pub hang_count : row.count + more.count ≤ length whole
    hang_count = omega (arith, both.front_is.count_is, both.back_is.count_is, length-append both.front both.back)

    pub hangs : (q : Part) → q.stage ≡ p.stage → Makes (Turn row.last (Some more.front)) (more.front + 1) p q
        → HasRow (record { front = row.front; last = more.last; count = row.count + more.count }) q
    hangs q stage turns =
        let once : times row.last both.front + times row.last both.back ≤ 1 =
        omega (arith, keeps_once p None [] whole stands both.stage_is row.last, times-append row.last both.front both.back) in
        let there = last_counted p.words row both.front both.front_is some in
        let behind_last : (i : ℕ) → 0 < times i both.back → i ≢ row.last = λ i in' e.
        (let again : 0 < times row.last both.back = subst (λ (j : ℕ). 0 < times j both.back) e in' in omega (arith, again, there, once)) in
        let else_is : (i : ℕ) → i ≢ row.last → 0 < times i both.front + times i both.back → link_in q.words i ≡ link_in p.words i = λ i ne in'.
        turn_else row.last more.front (more.front + 1) p q None [] whole both.stage_is turns i ne (omega (arith, in', times-append i both.front both.back)) in
        has_row q (record { front = row.front; last = more.last; count = row.count + more.count }) whole (stage ∙ both.stage_is) (record {
          count_is = omega (arith, both.front_is.count_is, both.back_is.count_is, length-append both.front both.back);
          spells = hung p.words q.words row more both.front both.back some some' (omega (arith, once)) (λ i ne in'. else_is i ne (omega (arith, in')))
              (λ i in'. else_is i (behind_last i in') (omega (arith, in')))
              (turn_here row.last more.front (more.front + 1) p q None [] whole both.stage_is turns last_here) both.front_is both.back_is;
        })

-- what was taken and turned stands behind the batch
pub taken_behind : (ks : List ℕ) (row more : Row) (p q : Part) → IsRowOf p.words row ks → Turned ks more p q → HasBoth row more q
taken_behind ks row more p q has turned = record {
  front = ks;
  back = turned.taken;
  stage_is = turned.stage_is;
  front_is = turned.old_row row has;
  back_is = turned.row_is;
}

-- a chained number stands behind it
pub chained_behind : (k word : ℕ) (row : Row) (p q : Part) → HasRow row p → Makes (Chain k) word p q → q.stage ≡ Owns None [] (kept_batch p.stage ++ k ∷ [])
    → HasBoth row (record { front = k; last = k; count = 1 }) q
chained_behind k word row p q has makes stage = record {
  front = kept_batch p.stage;
  back = k ∷ [];
  stage_is = stage;
  front_is = row_after (Chain k) word p q None [] (kept_batch p.stage) (kept_batch p.stage) has.stage_is makes (λ j w. refl) (λ j. omega arith) row has.row_is;
  back_is = record { count_is = refl; spells = (refl, refl) };
}

module _ (row : Row) (p : Part) (has : HasRow row p) (some : 0 < row.count) where
  -- its first number is the first of the batch
  pub first_of_row : (others : List ℕ) × (p.stage ≡ Owns None [] (row.front ∷ others)) × (row.count ≡ 1 + length others)
  first_of_row = go (kept_batch p.stage) has.row_is has.stage_is
    where
      go : (ks : List ℕ) → IsRowOf p.words row ks → p.stage ≡ Owns None [] ks
          → (others : List ℕ) × (p.stage ≡ Owns None [] (row.front ∷ others)) × (row.count ≡ 1 + length others)
      go [] is stage = absurd (omega (arith, is.count_is, some))
      go (k ∷ ks) is stage = (ks, stage ∙ ap (λ (j : ℕ). Owns None [] (j ∷ ks)) (sym is.spells.0), omega (arith, is.count_is))

  pub first_walks : IsToWalk row.front p.stage
  first_walks = to_load row.front p.stage first_of_row.0 first_of_row.1

  pub first_number : Stands p → row.front < number_count p.layout
  first_number stands =
      keeps_number p None [] (row.front ∷ first_of_row.0) stands first_of_row.1 row.front (omega (arith, times-first row.front first_of_row.0))

  -- where it is the only one, nothing is left
  pub first_only : row.count ≡ 1 → HasFirst row.front (record { front = 0; last = 0; count = 0 }) p
  first_only one =
      let nothing : first_of_row.0 ≡ [] = nil_from_length first_of_row.0 (omega (arith, one, first_of_row.2)) in record {
        others = [];
        stage_is = first_of_row.1 ∙ ap (λ (ks : List ℕ). Owns None [] (row.front ∷ ks)) nothing;
        row_is = record { count_is = refl; spells = tt };
      }

  -- else its link leads to the next
  module _ (ne : row.count ≢ 1) (word : ℕ) (q : Part) (makes : Makes Walk word p q) where
    next_of_row : (j : ℕ) × (js : List ℕ) × (p.stage ≡ Owns None [] (row.front ∷ j ∷ js)) × (link_in p.words row.front ≡ j + 1)
        × LinksOn p.words j row.last js × (row.count ≡ 2 + length js)
    next_of_row = go (kept_batch p.stage) has.row_is has.stage_is
      where
        go : (ks : List ℕ) → IsRowOf p.words row ks → p.stage ≡ Owns None [] ks
            → (j : ℕ) × (js : List ℕ) × (p.stage ≡ Owns None [] (row.front ∷ j ∷ js)) × (link_in p.words row.front ≡ j + 1)
            × LinksOn p.words j row.last js × (row.count ≡ 2 + length js)
        go [] is stage = absurd (omega (arith, is.count_is, some))
        go (k ∷ []) is stage = absurd (ne is.count_is)
        go (k ∷ j ∷ js) is stage = (
          j,
          js,
          stage ∙ ap (λ (i : ℕ). Owns None [] (i ∷ j ∷ js)) (sym is.spells.0),
          ap (link_in p.words) is.spells.0 ∙ is.spells.1.0,
          is.spells.1.1,
          omega (arith, is.count_is),
        )

    found_next : word ≡ next_of_row.0 + 1
    found_next = load_finds word row.front p q (next_of_row.0 ∷ next_of_row.1) next_of_row.2 makes ∙ next_of_row.3

    -- what was found links to a number of the queue
    pub found_small : Stands p → word ≤ 2 ^ 32
    found_small stands =
        let j = next_of_row.0 in let ks : List ℕ = row.front ∷ j ∷ next_of_row.1 in
        let small = keeps_number p None [] ks stands next_of_row.2 j (omega (arith, times-cons j row.front (j ∷ next_of_row.1), times-first j next_of_row.1)) in
        omega (arith, found_next, small, number_small p.layout)

    found_number : number_at word ≡ Some next_of_row.0
    found_number = ap (λ (b : Bool). if b then None else Some (word - 1)) (ne_eqb word 0 (λ e. omega (arith, e, found_next))) ∙
        ap (λ (k : ℕ). Some k) (omega (arith, found_next))

    pub found_some : number_at word ≢ None
    found_some e = absurd (cc (e, found_number))

    pub first_left : (k : ℕ) → number_at word ≡ Some k → HasFirst row.front (record { front = k; last = row.last; count = row.count - 1 }) q
    first_left k is =
        let j = next_of_row.0 in let js = next_of_row.1 in let ks : List ℕ = row.front ∷ j ∷ js in let stage = next_of_row.2 in record {
          others = j ∷ js;
          stage_is = load_stage word p q [] ks stage makes;
          row_is = record {
            count_is = omega (arith, next_of_row.5);
            spells = (
              cc (is, found_number),
              on_same p.words q.words j row.last js
                  (λ i in'. makes_links Walk word p q None [] ks stage makes i (omega (arith, in', times-cons i row.front (j ∷ js)))) next_of_row.4,
            );
          };
        }

-- the first of the batch begins, and the row has the others
pub begun_row : (k word : ℕ) (rest : Row) (p q : Part) (first : HasFirst k rest p) → Makes Begin word p q → q.stage ≡ Owns None [] first.others → HasRow rest q
begun_row k word rest p q first makes stage = has_row q rest first.others stage
    (row_after Begin word p q None [] (k ∷ first.others) first.others first.stage_is makes (λ j w. refl)
    (λ j. omega (arith, times-cons j k first.others)) rest first.row_is)

-- the first of the batch is a number of the queue
pub first_known : (k : ℕ) (rest : Row) (q : Part) → Stands q → HasFirst k rest q → k < number_count q.layout
first_known k rest q stands first = keeps_number q None [] (k ∷ first.others) stands first.stage_is k (omega (arith, times-first k first.others))
