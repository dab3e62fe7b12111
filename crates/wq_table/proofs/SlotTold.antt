-- What a chair whose table may have slots learns from its steps.
use Rattle.wq_table.proofs.Common.{◌≡◌, ◌≢◌, ℕ, zero, suc, ◌<◌, arith, List, [], ◌∷◌, length, map, sym, refl, ap, ◌∙◌, subst, Option, arc_value}
use Rattle.wq_table.proofs.Common.{TableId, Layout, number_count, accepted, AreBrought, Step, done_place, word_count, Part, Inside, View, chosen}
use Rattle.wq_table.proofs.Common.{part_at, Machine, see, all_see, ValueView, plain_view, AllKnow, telling, rest_values, Hand, ValueSat, MovesSlot}
use Rattle.wq_table.proofs.Common.{AllTold, GoesBy, ValueStanding, standing_of, ValueSteps, first_told, value_standing, AreSized, ValueSits}
use Rattle.wq_core.specs.Words.{item_place}
use Rattle.wq_table.specs.Places.{MakesAt}
use Rattle.wq_table.proofs.ValueRule.{plain_telling}
use Rattle.wq_table.specs.SlotSteps.{ValueMakes}
use Rattle.wq_table.specs.SlotChairs.{knowing}
use Rattle.wq_table.proofs.Changes.{changes}
use Rattle.wq_table.proofs.Told.{chosen_sized, besides_sized, all_sized, sized_seeing, still_alone}
use Rattle.wq_table.proofs.Bare.{by_bare}

-- the parts before a step and after it
abbrev Parts : Type 0
Parts = (Part × View) × (Part × View)

module _ {V : Type 0} where
  -- a chair whose seat has this view and this hand
  abbrev pub with_seat : TableId → Layout → ValueSat V → ValueStanding V
  with_seat queue layout me = record { queue = queue; first = first_told layout me.0; others = rest_values me.0; hand = me.1 }

  -- a view that has parts is its first and the others
  pub whole_view : (layout : Layout) (v : ValueView V) (p : Part) (ps : View) → plain_view v ≡ p ∷ ps → v ≡ first_told layout v ∷ rest_values v
  whole_view layout [] p ps is = absurd cc
  whole_view layout (t ∷ ts) p ps is = refl

  -- and so is the view without values
  pub plain_whole : (layout : Layout) (v : ValueView V) (p : Part) (ps : View) → plain_view v ≡ p ∷ ps
      → ((first_told layout v).part ≡ p) × (plain_view (rest_values v) ≡ ps)
  plain_whole layout [] p ps is = absurd cc
  plain_whole layout (t ∷ ts) p ps is = (ap first is, ap tail is)
    where
      first : View → Part
      first [] = p
      first (q ∷ qs) = q

      tail : View → View
      tail [] = []
      tail (q ∷ qs) = qs

  -- the seat of a chair has the chair's view and hand
  pub seat_is : (s : Inside V) (it : ValueStanding V) → ValueSits s → value_standing s ≡ it → s.seat.me ≡ (it.first ∷ it.others, it.hand)
  seat_is s it sits is = λ i. ((sits.one_view ∙ ap (λ (st : ValueStanding V). st.first ∷ st.others) is) i, ap (λ (st : ValueStanding V). st.hand) is i)

  -- all that a step tells that speaks of the machine before it
  abbrev All : ℕ → Option V → (Layout → Step) → ℕ → ℕ → List (Option V) → List (Option V) → Hand V → Hand V → Parts → Type 0
  All at said σ slots word brs brs' hand hand' z =
      (makes : MakesAt at (σ (chosen at z.0.0 z.0.1).layout) word z.0.0 z.0.1 z.1.0 z.1.1) × (length brs ≡ length (accepted makes.makes.before.history))
      × (0 < slots → AreBrought (chosen at z.1.0 z.1.1).layout.items (accepted (chosen at z.1.0 z.1.1).seen) brs')
      × (0 < slots → MovesSlot said (σ (chosen at z.0.0 z.0.1).layout) (chosen at z.0.0 z.0.1) makes.makes.before word brs hand brs' hand')

  -- the step as a fact about the chair before and after
  pub told_values : (layout : Layout) (at slots : ℕ) (σ : Layout
      → Step) (said : Option V) (word : ℕ) (it : ValueStanding V) (me me' : ValueSat V) (queue : TableId)
      → me ≡ (it.first ∷ it.others, it.hand) → slots ≡ it.queue.slots → queue ≡ it.queue → ValueMakes slots at said σ me word me'
      → ValueSteps at said (σ (part_at at (standing_of it)).layout) word it (with_seat queue layout me')
  told_values layout at slots σ said word it me me' queue has many same step =
      let view_is : me.0 ≡ it.first ∷ it.others = ap (λ (z : ValueSat V). z.0) has in
      let hand_is : me.1 ≡ it.hand = ap (λ (z : ValueSat V). z.1) has in
      let was : plain_view (it.first ∷ it.others) ≡ step.plain.part ∷ step.plain.others = ap plain_view (sym view_is) ∙ step.plain.was in
      let from = plain_whole layout (it.first ∷ it.others) step.plain.part step.plain.others was in
      let to = plain_whole layout me'.0 step.plain.part' step.plain.others' step.plain.is in
      let now : me'.0 ≡ first_told layout me'.0 ∷ rest_values me'.0 = whole_view layout me'.0 step.plain.part' step.plain.others' step.plain.is in
      let all : All at said σ it.queue.slots word step.brought step.brought' it.hand me'.1
      ((it.first.part, plain_view it.others), ((first_told layout me'.0).part, plain_view (rest_values me'.0))) =
      subst (λ (x : Parts × Hand V × ℕ). All at said σ x.2 word step.brought step.brought' x.1 me'.1 x.0)
      (λ i. (((sym from.0 i, sym from.1 i), (sym to.0 i, sym to.1 i)), hand_is i, many i)) (step.plain.moves, step.as_many, step.right, step.moves) in record {
        steps = record { queue_is = same; moves = all.0 };
        brought = step.brought;
        know = subst (AllKnow step.brought) view_is step.know;
        as_many = all.1;
        brought' = step.brought';
        more = step.more;
        told = subst (AllTold step.brought') now step.told;
        right = all.2;
        moves = all.3;
        hand_same = λ none_there. step.hand_same (many ∙ none_there) ∙ hand_is;
      }

  module _ (s : Inside V) (it : ValueStanding V) (sits : ValueSits s) (is : value_standing s ≡ it) where
    pub sized_in : AreSized s.layout (plain_view (it.first ∷ it.others))
    sized_in = subst (λ (v : ValueView V). AreSized s.layout (plain_view v)) (ap (λ (z : ValueSat V). z.0) (seat_is s it sits is)) sits.sized

    -- the number count of the part at a place is that of the chair's layout
    pub numbered : (at : ℕ) → number_count s.layout ≡ number_count (part_at at (standing_of it)).layout
    numbered at = ap number_count (sym (chosen_sized s.layout at it.first.part (plain_view it.others) sized_in))

    -- a place in the queue's table is one in the table of the chair
    pub room : (at : ℕ) (words : _) (i : ℕ) → words ≡ arc_value s.words
        → i < word_count (number_count (part_at at (standing_of it)).layout) → i < words.shared.table_id.words
    room at words i same place = let size = numbered at in let wide = ap (λ t. t.shared.table_id.words) same ∙ sits.wide in omega arith

    -- the table has the slots that the chair says
    pub slots_are : (words : _) → words ≡ arc_value s.words → words.shared.table_id.slots ≡ it.queue.slots
    slots_are words same = ap (λ t. t.shared.table_id.slots) same ∙ (ap (λ (q : TableId). q.slots) (sym sits.seated) ∙
        ap (λ (st : ValueStanding V). st.queue.slots) is)

    -- as many slots as numbers, or none
    pub deep_in : (at : ℕ) → 0 < it.queue.slots → it.queue.slots ≡ number_count (part_at at (standing_of it)).layout
    deep_in at some_slot =
        let e = slots_are (arc_value s.words) refl in
        sym e ∙ (sits.deep (omega (arith, e, some_slot)) ∙ numbered at)

    pub done_room_in : (at i : ℕ) → i ≡ done_place (number_count s.layout) → i < word_count (number_count (part_at at (standing_of it)).layout)
    done_room_in at i place = let size = numbered at in omega arith

    pub item_room_in : (at i k : ℕ) → i ≡ item_place (number_count s.layout) k → k < number_count (part_at at (standing_of it)).layout
        → i < word_count (number_count (part_at at (standing_of it)).layout)
    item_room_in at i k place less = let size = numbered at in omega arith

    -- the place of an item word, by the layout of the part at a place
    pub item_at_part : (at i k : ℕ) → i ≡ item_place (number_count s.layout) k → i ≡ item_place (number_count (part_at at (standing_of it)).layout) k
    item_at_part at i k place = place ∙ ap (λ (n : ℕ). item_place n k) (numbered at)

  pub done_in_words : (s : Inside V) → ValueSits s → (words : _) (i : ℕ) → words ≡ arc_value s.words → i ≡ done_place (number_count s.layout)
      → i < words.shared.table_id.words
  done_in_words s sits words i same place = let wide = ap (λ t. t.shared.table_id.words) same ∙ sits.wide in omega arith

  -- where there are no slots every step goes on
  pub by_either : (slots : ℕ) (p : Part) (said : Option V) (step : Step) (c : Hand V) → (0 < slots → GoesBy slots p said step c)
      → GoesBy slots p said step c
  by_either zero p said step c some_slot = by_bare p said step c
  by_either (suc n) p said step c some_slot = some_slot (omega arith)

  pub none_plain : (x : ValueView V) → plain_view x ≡ [] → x ≡ []
  none_plain [] e = refl
  none_plain (t ∷ ts) e = absurd cc

  rest_some : (v w : ValueView V) → (plain_view (rest_values w) ≢ [] → plain_view (rest_values v) ≢ []) → rest_values w ≢ [] → rest_values v ≢ []
  rest_some v w keep more none = keep (λ e. more (none_plain (rest_values w) e)) (ap plain_view none)

  -- the chair is as its invariant has it, where its seat has another view of these parts
  pub sits_with : (s t : Inside V) (p : Part) (ps : View) → ValueSits s → t.words ≡ s.words → t.spare ≡ s.spare → t.layout ≡ s.layout
      → t.seat.table_id ≡ s.seat.table_id → plain_view t.seat.me.0 ≡ p ∷ ps → AreSized s.layout (p ∷ ps)
      → (rest_values t.seat.me.0 ≢ [] → rest_values s.seat.me.0 ≢ []) → ValueSits t
  sits_with s t p ps sits words spare layout table view sized some = record {
    seated = rw words (table ∙ sits.seated);
    wide = rw (words, layout) sits.wide;
    deep = rw (words, layout) sits.deep;
    keyed = rw (words, layout) sits.keyed;
    sized = subst (λ (z : Layout × View). AreSized z.0 z.1) (λ i. (sym layout i, sym view i)) sized;
    one_view = whole_view t.layout t.seat.me.0 p ps view;
    spare_is = rw (spare, table, layout) sits.spare_is;
    has_spare = λ more. rw spare (sits.has_spare (some more));
  }

  -- after a step
  pub sits_step : (at slots : ℕ) (σ : Layout → Step) (said : Option V) (word : ℕ) (me' : ValueSat V) (s t : Inside V) → ValueSits s
      → ValueMakes slots at said σ s.seat.me word me' → t.words ≡ s.words → t.spare ≡ s.spare → t.layout ≡ s.layout
      → t.seat.table_id ≡ s.seat.table_id → t.seat.me ≡ me' → ValueSits t
  sits_step at slots σ said word me' s t sits step words spare layout table me =
      let it = step.plain in
      let was : AreSized s.layout (it.part ∷ it.others) = subst (AreSized s.layout) it.was sits.sized in
      let old = chosen at it.part it.others in let makes = it.moves.makes in
      let one : (chosen at it.part' it.others').layout ≡ s.layout = makes.fits_after.layout_is ∙
      ((changes makes.before old.seat old.stage (σ old.layout) makes.fits.keeps).layout_is ∙
      (sym makes.fits.layout_is ∙ chosen_sized s.layout at it.part it.others was)) in
      let view : plain_view t.seat.me.0 ≡ it.part' ∷ it.others' = ap (λ (z : ValueSat V). plain_view z.0) me ∙ it.is in
      let from = plain_whole s.layout s.seat.me.0 it.part it.others it.was in
      let to = plain_whole s.layout t.seat.me.0 it.part' it.others' view in
      sits_with s t it.part' it.others' sits words spare layout table view
      (all_sized s.layout at it.part' it.others' one
      (subst (AreSized s.layout) (sym it.moves.others_are) (sized_seeing s.layout _ _ (besides_sized s.layout at it.part it.others was))))
      (rest_some s.seat.me.0 t.seat.me.0 (λ more none. still_alone _ at it.part it.others it.part' it.others' it.moves.others_are
      (λ e. more (to.1 ∙ e)) (sym from.1 ∙ none)))

  -- the view of a chair that has seen all that has happened
  abbrev pub known_view : Machine → List (Option V) → ValueStanding V → ValueView V
  known_view m brs it = (knowing m brs it).first ∷ (knowing m brs it).others

  -- a chair whose seat has that view is as its invariant has it
  pub sits_known : (m : Machine) (brs : List (Option V)) (it : ValueStanding V) (s t : Inside V) → ValueSits s → value_standing s ≡ it → t.words ≡ s.words
      → t.spare ≡ s.spare → t.layout ≡ s.layout → t.seat.table_id ≡ s.seat.table_id → t.seat.me.0 ≡ known_view m brs it → ValueSits t
  sits_known m brs it s t sits is words spare layout table at =
      let v : View = it.first.part ∷ plain_view it.others in
      sits_with s t (see m.history it.first.part) (all_see m.history (plain_view it.others)) sits words spare layout table
      (ap plain_view at ∙ plain_telling brs (all_see m.history v))
      (sized_seeing s.layout m.history v (sized_in s it sits is))
      (λ more none. more (ap rest_values at ∙
      ap (λ (w : ValueView V). map (telling brs) (all_see m.history (plain_view w))) (sym (ap (λ (x : ValueStanding V). x.others) is) ∙ none)))
