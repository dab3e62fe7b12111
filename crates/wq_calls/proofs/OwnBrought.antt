-- What the queueings of one seat brought, call after call.
use Rattle.wq_calls.proofs.Common.{◌≡◌, ℕ, zero, suc, Bool, true, false, cond, ◌==◌, if◌then◌else◌, List, [], ◌∷◌, ◌++◌, length, Option, Some, None}
use Rattle.wq_calls.proofs.Common.{sym, refl, ap, ◌∙◌, arith, slice_get, append-nil, IsPrefix, Event, Hold, Busy, Push, Back, ChainBusy, accepted}
use Rattle.wq_calls.proofs.Common.{accepted_by, begun_by, owner_seat, seat_of, own, Grows, Sees, Answers, KnownWith, Learnt, answer_of, nil_from_length}
use Rattle.std.specs.Prelude.{filter_map}
use Rattle.std.specs.List.{cons_option}
use Rattle.std.proofs.lemmas.Bool.{eq-eqb}
use Rattle.std.proofs.lemmas.List.{same_from_push}
use Rattle.wq_words.specs.declared.event.Event.TheVariants.{Chain}
use Rattle.wq_words.specs.declared.event.Why.TheVariants as why
use Rattle.wq_words.specs.Valued.{first_in, left_of, paired, value_if, value_of}
use Rattle.wq_calls.specs.declared.value_answer.ValueAnswer.{ValueAnswer}
use Rattle.wq_calls.specs.declared.value_answer.ValueAnswer.TheVariants as given
use Rattle.wq_calls.specs.Answers.{Chains}
use Rattle.wq_calls.specs.KnownWith.{BringsOrReturns, BringsNothing, ChainsOrReturns, IsBroughtBy}
use Rattle.wq_words.specs.declared.answer.Answer.{Answer}
use Rattle.wq_words.specs.declared.answer.Answer.TheVariants as answer
use Rattle.wq_calls.specs.OwnBrought.{own_brought_by, own_brought, queued_value, queued_nothing}

onto : {X : Type 0} (o : Option X) (us vs : List X) → cons_option o (us ++ vs) ≡ cons_option o us ++ vs
onto None us vs = refl
onto (Some x) us vs = refl

module _ {V : Type 0} (s : ℕ) where
  -- the same, an event after the other
  abbrev pub own_row : List Event → List (Option V) → List (Option V)
  own_row [] bs = []
  own_row (e ∷ es) bs = cons_option (if seat_of e == s then value_if (accepted_by e) (first_in bs) else None) (own_row es (left_of (accepted_by e) bs))

  value_first : (a b : Option ℕ) (bs hs : List (Option V)) → value_if a (value_of a b bs hs) ≡ value_if a (first_in bs)
  value_first None b bs hs = refl
  value_first (Some k) b bs hs = refl

  pub is_row : (es : List Event) (bs hs : List (Option V)) → filter_map (own_brought_by s) (paired es bs hs) ≡ own_row es bs
  is_row [] bs hs = refl
  is_row (e ∷ es) bs hs = λ i. cons_option (if seat_of e == s then value_first (accepted_by e) (begun_by e) bs hs i else None)
      (is_row es (left_of (accepted_by e) bs) (left_of (begun_by e) hs) i)

  -- what an event leaves of what was brought, where there is enough
  record Left (a : Option ℕ) (acs : List ℕ) (bs cs : List (Option V)) : Type 0 where
    left : left_of a (bs ++ cs) ≡ left_of a bs ++ cs
    value : value_if a (first_in (bs ++ cs)) ≡ value_if a (first_in bs)
    many : length (left_of a bs) ≡ length acs

  leaves : (a : Option ℕ) (acs : List ℕ) (bs cs : List (Option V)) → length bs ≡ length (cons_option a acs) → Left a acs bs cs
  leaves None acs bs cs many = record { left = refl; value = refl; many = many }
  leaves (Some k) acs [] cs many = absurd (omega arith)
  leaves (Some k) acs (b ∷ bs) cs many = record { left = refl; value = refl; many = omega (arith, many) }

  row_append : (v w : List Event) (bs cs : List (Option V)) → length bs ≡ length (accepted v) → own_row (v ++ w) (bs ++ cs) ≡ own_row v bs ++ own_row w cs
  row_append [] w [] cs many = refl
  row_append [] w (b ∷ bs) cs many = absurd (omega arith)
  row_append (e ∷ es) w bs cs many =
      let a = accepted_by e in let l = leaves a (accepted es) bs cs many in
      (λ i. cons_option (if seat_of e == s then l.value i else None)
      ((ap (own_row (es ++ w)) l.left ∙ row_append es w (left_of a bs) cs l.many) i)) ∙
      onto (if seat_of e == s then value_if a (first_in bs) else None) (own_row es (left_of a bs)) (own_row w cs)

  row_length : (h : List Event) (bs : List (Option V)) → length (own_row h bs) ≡ length (accepted (own s h))
  row_length [] bs = refl
  row_length (e ∷ es) bs = go (seat_of e == s) (accepted_by e) refl (row_length es (left_of (accepted_by e) bs))
    where
      go : (b : Bool) (a : Option ℕ) → accepted_by e ≡ a → length (own_row es (left_of (accepted_by e) bs)) ≡ length (accepted (own s es))
          → length (cons_option (if b then value_if a (first_in bs) else None) (own_row es (left_of (accepted_by e) bs)))
          ≡ length (accepted (cond b (e ∷ own s es) (own s es)))
      go true None is rest = rest ∙ ap (λ (o : Option ℕ). length (cons_option o (accepted (own s es)))) (sym is)
      go true (Some k) is rest = ap suc rest ∙ ap (λ (o : Option ℕ). length (cons_option o (accepted (own s es)))) (sym is)
      go false a is rest = rest

  -- what was brought grows at its end
  pub own_brought_append : (v w : List Event) (bs cs : List (Option V)) → length bs ≡ length (accepted v)
      → own_brought s (v ++ w) (bs ++ cs) ≡ own_brought s v bs ++ own_brought s w cs
  own_brought_append v w bs cs many = is_row (v ++ w) (bs ++ cs) (bs ++ cs) ∙ (row_append v w bs cs many ∙
      (λ i. sym (is_row v bs bs) i ++ sym (is_row w cs cs) i))

  pub own_brought_length : (h : List Event) (bs : List (Option V)) → length (own_brought s h bs) ≡ length (accepted (own s h))
  own_brought_length h bs = ap length (is_row h bs bs) ∙ row_length h bs

one_left : {X : Type 0} (xs : List X) → length xs ≡ 1 → (x : X) × (xs ≡ x ∷ [])
one_left [] one = absurd (omega arith)
one_left (x ∷ []) one = (x, refl)
one_left (x ∷ y ∷ xs) one = absurd (omega arith)

-- the place of an element cuts the list in front of it
cut_at : {X : Type 0} (xs : List X) (n : ℕ) (y : X) → slice_get xs n ≡ Some y → (us : List X) × (vs : List X) × (xs ≡ us ++ y ∷ vs) × (length us ≡ n)
cut_at [] n y at = absurd cc
cut_at (x ∷ xs) zero y at = ([], xs, ap (λ z. z ∷ xs) (cc at), refl)
cut_at (x ∷ xs) (suc n) y at = let r = cut_at xs n y at in (x ∷ r.0, r.1, ap (λ z. x ∷ z) r.2, ap suc r.3)

module _ {V : Type 0} (c : ℕ) where
  -- more was seen, of which the seat made these events, and more was brought
  own_more : (xs : List Event) (n : ℕ) (v w : List Event) (bs cs : List (Option V)) → Grows c xs n v w → IsPrefix bs cs → length bs ≡ length (accepted v)
      → (more : List (Option V)) × (own_brought c w cs ≡ own_brought c v bs ++ more) × (length more ≡ length (accepted xs))
  own_more xs n v w bs cs g front many = (
    own_brought c g.new front.0,
    (λ i. own_brought c (g.is i) (sym front.1 i)) ∙ own_brought_append c v g.new bs front.0 many,
    own_brought_length c g.new front.0 ∙ ap (λ (es : List Event). length (accepted es)) g.mine,
  )

  -- none of them was accepted
  pub own_still : (xs : List Event) (n : ℕ) (v w : List Event) (bs cs : List (Option V)) → accepted xs ≡ [] → Grows c xs n v w → IsPrefix bs cs
      → length bs ≡ length (accepted v) → own_brought c w cs ≡ own_brought c v bs
  own_still xs n v w bs cs none g front many = let m = own_more xs n v w bs cs g front many in
      m.1 ∙ (ap (λ (z : List (Option V)). own_brought c v bs ++ z) (nil_from_length m.0 (m.2 ∙ ap length none)) ∙ append-nil (own_brought c v bs))

  -- the last of them is e, which accepted k and brought y
  pub own_last : (xs : List Event) (n : ℕ) (e : Event) (k : ℕ) (v w before after : List Event) (bs cs : List (Option V)) (y : Option V)
      → length (accepted xs) ≡ 1 → (seat_of e == c) ≡ true → accepted_by e ≡ Some k → Grows c xs n v w → IsPrefix bs cs → length bs ≡ length (accepted v)
      → w ≡ before ++ e ∷ after → own c after ≡ [] → slice_get cs (length (accepted before)) ≡ Some y → own_brought c w cs ≡ own_brought c v bs ++ y ∷ []
  own_last xs n e k v w before after bs cs y one mine takes g front many is last has =
      let m = own_more xs n v w bs cs g front many in let only = one_left m.0 (m.2 ∙ one) in
      let cut = cut_at cs (length (accepted before)) y has in
      let behind : own_brought c (e ∷ after) (y ∷ cut.1) ≡ y ∷ [] =
      let r = one_left (own_brought c (e ∷ after) (y ∷ cut.1)) (own_brought_length c (e ∷ after) (y ∷ cut.1) ∙
      (own_first ∙ ap (λ (es : List Event). suc (length (accepted es))) last)) in r.1 ∙ ap (λ (z : Option V). z ∷ []) (first_own cut.1 r.0 r.1) in
      let whole : own_brought c w cs ≡ own_brought c before cut.0 ++ y ∷ [] =
      (λ i. own_brought c (is i) (cut.2 i)) ∙ (own_brought_append c before (e ∷ after) cut.0 (y ∷ cut.1) cut.3 ∙
      ap (λ (z : List (Option V)). own_brought c before cut.0 ++ z) behind) in
      let ends = same_from_push (own_brought c v bs) (own_brought c before cut.0) only.0 y
      (sym (m.1 ∙ ap (λ (z : List (Option V)). own_brought c v bs ++ z) only.1) ∙ whole) in
      whole ∙ ap (λ (z : List (Option V)). z ++ y ∷ []) (sym ends.0)
    where
      own_first : length (accepted (own c (e ∷ after))) ≡ suc (length (accepted (own c after)))
      own_first = ap (λ (b : Bool). length (accepted (cond b (e ∷ own c after) (own c after)))) mine ∙
          ap (λ (o : Option ℕ). length (cons_option o (accepted (own c after)))) takes

      first_own : (cs : List (Option V)) (z : Option V) → own_brought c (e ∷ after) (y ∷ cs) ≡ z ∷ [] → z ≡ y
      first_own cs z is = cc (sym is ∙ (is_row c (e ∷ after) (y ∷ cs) (y ∷ cs) ∙
          (λ i. cons_option (if mine i then value_if (takes i) y else None) (own_row c after (left_of (takes i) (y ∷ cs))))))

-- where none of its events was accepted, what a seat's own queueings brought stays
own_as_before : {V : Type 0} (xs : List Event) (n : ℕ) (old new : KnownWith V) → accepted xs ≡ []
    → Grows old.known.number xs n old.known.seen new.known.seen → Learnt old new
    → own_brought old.known.number new.known.seen new.brought ≡ own_brought old.known.number old.known.seen old.brought ++ []
own_as_before xs n old new none g learnt =
    own_still old.known.number xs n old.known.seen new.known.seen old.brought new.brought none g learnt.more learnt.was_whole ∙
    sym (append-nil (own_brought old.known.number old.known.seen old.brought))

-- a queueing that was answered Queued adds what it brought
own_queued : {V : Type 0} (k : ℕ) (is_first is_waking : Bool) (y : Option V) (old new : KnownWith V)
    → Sees (Hold old.known.number k ∷ Push old.known.number k ∷ []) 0 old.known new.known → IsBroughtBy k is_first is_waking y new → Learnt old new
    → own_brought old.known.number new.known.seen new.brought ≡ own_brought old.known.number old.known.seen old.brought ++ y ∷ []
own_queued k is_first is_waking y old new sees brings learnt =
    let c = old.known.number in let number = sees.same.number_is in let p = brings.0 in
    own_last c (Hold c k ∷ Push c k ∷ []) 0 (Push c k) k old.known.seen new.known.seen p.before p.after old.brought new.brought y refl
    (eq-eqb c c refl) refl sees.grows learnt.more learnt.was_whole
    (p.is ∙ ap (λ (d : ℕ). p.before ++ Push d k ∷ p.after) number) (ap (λ (d : ℕ). own d p.after) (sym number) ∙ p.last) brings.1

-- a queueing adds its value to what the seat's own queueings brought, where it was queued
pub brings_own : {V : Type 0} (k tries : ℕ) (v : V) (a : ValueAnswer V) (old new : KnownWith V) → Answers k tries (answer_of a) old.known new.known
    → BringsOrReturns k v a new → Learnt old new
    → own_brought old.known.number new.known.seen new.brought ≡ own_brought old.known.number old.known.seen old.brought ++ queued_value v a
brings_own k tries v (given.Queued is_first is_waking) old new answers brings learnt =
    own_queued k is_first is_waking (Some v) old new answers.0 brings learnt
brings_own k tries v (given.Pending w) old new answers back learnt = own_as_before (Busy old.known.number k ∷ []) 0 old new refl answers.grows learnt
brings_own k tries v (given.Closed w) old new answers back learnt =
    let c = old.known.number in own_as_before (Hold c k ∷ Back c k why.Closed ∷ []) 0 old new refl answers.grows learnt
brings_own k tries v (given.Contended w) old new answers back learnt =
    let c = old.known.number in own_as_before (Hold c k ∷ Back c k why.Contended ∷ []) tries old new refl answers.grows learnt
brings_own k tries v (given.Draining w) old new answers back learnt =
    let c = old.known.number in own_as_before (Hold c k ∷ Back c k why.Draining ∷ []) 0 old new refl answers.0.grows learnt

-- a queueing that brings nothing adds no value, where it was queued
pub brings_none : {V : Type 0} (k tries : ℕ) (a : Answer) (old new : KnownWith V) → Answers k tries a old.known new.known → BringsNothing k a new
    → Learnt old new
    → own_brought old.known.number new.known.seen new.brought ≡ own_brought old.known.number old.known.seen old.brought ++ queued_nothing a
brings_none k tries (answer.Queued is_first is_waking) old new answers brings learnt =
    own_queued k is_first is_waking None old new answers.0 brings learnt
brings_none k tries answer.Pending old new answers _ learnt = own_as_before (Busy old.known.number k ∷ []) 0 old new refl answers.grows learnt
brings_none k tries answer.Closed old new answers _ learnt =
    let c = old.known.number in own_as_before (Hold c k ∷ Back c k why.Closed ∷ []) 0 old new refl answers.grows learnt
brings_none k tries answer.Contended old new answers _ learnt =
    let c = old.known.number in own_as_before (Hold c k ∷ Back c k why.Contended ∷ []) tries old new refl answers.grows learnt
brings_none k tries answer.Draining old new answers _ learnt =
    let c = old.known.number in own_as_before (Hold c k ∷ Back c k why.Draining ∷ []) 0 old new refl answers.0.grows learnt

-- a chaining adds its value to what the owner's own queueings brought, where it was queued
pub chained_own : {V : Type 0} (k : ℕ) (v : V) (a : ValueAnswer V) (old new : KnownWith V) → old.known.number ≡ owner_seat
    → Chains k (answer_of a) old.known new.known → ChainsOrReturns k v a new → Learnt old new
    → own_brought old.known.number new.known.seen new.brought ≡ own_brought old.known.number old.known.seen old.brought ++ queued_value v a
chained_own k v (given.Queued is_first is_waking) old new owner answers p learnt =
    let c = old.known.number in
    own_last c (Chain k ∷ []) 0 (Chain k) k old.known.seen new.known.seen p.before p.after old.brought new.brought (Some v) refl
    (eq-eqb owner_seat c (sym owner)) refl answers.2.grows learnt.more learnt.was_whole p.is (ap (λ (d : ℕ). own d p.after) owner ∙ p.last) p.has
chained_own k v (given.Pending w) old new owner answers back learnt = own_as_before (ChainBusy k ∷ []) 0 old new refl answers.grows learnt
chained_own k v (given.Closed w) old new owner answers back learnt = absurd answers
chained_own k v (given.Contended w) old new owner answers back learnt = absurd answers
chained_own k v (given.Draining w) old new owner answers back learnt = absurd answers

-- where no own event comes, the own queueings brought what they had brought
pub own_stays : {V : Type 0} (n : ℕ) (old new : KnownWith V) → Sees [] n old.known new.known → Learnt old new
    → own_brought old.known.number new.known.seen new.brought ≡ own_brought old.known.number old.known.seen old.brought
own_stays n old new sees learnt =
    own_still old.known.number [] n old.known.seen new.known.seen old.brought new.brought refl sees.grows learnt.more learnt.was_whole
