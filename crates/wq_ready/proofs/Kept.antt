-- Each call keeps the rule of a ready queue.
use mathlib.Core.Option.{some, some-injective, some-ne-none}
use lib.ListN.{get_elem?}
use Rattle.crossbeam_queue.specs.Fifo.{Pushes, Pops, Forks, Learns}
use Rattle.crossbeam_queue.proofs.Lists.{at_set}
use Rattle.wq_words.proofs.Growing.{growing, at_end, slice_get_last}
use Rattle.wq_ready.proofs.Common.{◌≡◌, ℕ, zero, suc, ◌<◌, cond, eqb, ◌≢◌, List, [], ◌∷◌, ◌++◌, length, set, slice_get, Some, sym, refl, ap, ◌∙◌, subst, inl}
use Rattle.wq_ready.proofs.Common.{inr, append_assoc, arith, length-append, length-set, eq-eqb, ne_eqb, prefix_self, prefix_append, Size, ReadyEvent, Announce}
use Rattle.wq_ready.proofs.Common.{Pick, caller_of, announced, picked, IsReadyAllowed, IsReadyLegal, own_ready, ready_part, all_callers, no_caller, KeptReady}
use Rattle.wq_ready.specs.declared.rule.PassPart.{PassPart}
use Rattle.wq_ready.specs.Rule.{opening_part, one_caller, first_caller, later_callers, SpeaksFor, FitsReady, KeepsReady, Happens, announces, picks, CanWait}
use Rattle.wq_ready.proofs.Legal.{legal_nil, legal_push, legal_none, announced_below}
use Rattle.wq_ready.proofs.Seen.{own_else, grows_none, grows_one}

abbrev no_size : Size
no_size = record { queues = 0; callers = 0 }

pub begins : KeptReady [] (opening_part ∷ [])
begins = (
  no_size,
  record { history = []; keeper = λ _. 0; legal = legal_nil no_size; waits = refl; fits = each; lone = λ _. refl },
)
  where
    fit : FitsReady no_size [] (λ _. 0) 0 opening_part
    fit = record { size_is = refl; within = omega arith; begins = prefix_self []; keeps = λ _ _. refl; knows = λ _ _. refl }

    each : (i : ℕ) (p : PassPart) → get_elem? (opening_part ∷ []) i ≡ some p → FitsReady no_size [] (λ _. 0) i p
    each zero p at = subst (FitsReady no_size [] (λ _. 0) 0) (some-injective opening_part p at) fit
    each (suc i) p at = absurd (some-ne-none p (sym at))

-- a list of one
only : {A : Type 0} (xs : List A) (i : ℕ) (x : A) → length xs ≡ 1 → get_elem? xs i ≡ some x → (i ≡ 0) × (xs ≡ x ∷ [])
only [] i x one at = absurd (some-ne-none x (sym at))
only (y ∷ []) zero x one at = (refl, ap (λ z. z ∷ []) (some-injective y x at))
only (y ∷ []) (suc i) x one at = absurd (some-ne-none x (sym at))
only (y ∷ z ∷ zs) i x one at = absurd (omega arith)

-- the first pass is told the size
pub sizes : (id : ℕ) (size : Size) → 0 < size.queues → Forks KeptReady id opening_part (all_callers size) (no_caller size)
sizes id size some_queue waiting parts r at =
    subst (λ l. KeptReady waiting (l ++ no_caller size ∷ [])) (sym told) (
      size,
      record {
        history = [];
        keeper = λ _. 0;
        legal = legal_nil size;
        waits = ap announced (sym nothing) ∙ (k.waits ∙ ap (λ l. picked l ++ waiting) nothing);
        fits = each;
        lone = λ none. absurd (omega (arith, none, some_queue));
      },
    )
  where
    k : KeepsReady r.0 waiting parts
    k = r.1

    unsized : r.0.queues ≡ 0
    unsized = ap (λ (s : Size). s.queues) (sym (k.fits id opening_part at).size_is)

    nothing : k.history ≡ []
    nothing = legal_none r.0 k.history k.legal unsized

    lone : (id ≡ 0) × (parts ≡ opening_part ∷ [])
    lone = only parts id opening_part (k.lone unsized) at

    told : set parts id (all_callers size) ≡ all_callers size ∷ []
    told = ap (λ (l : List PassPart). set l id (all_callers size)) lone.1 ∙ ap (λ (i : ℕ). set (opening_part ∷ []) i (all_callers size)) lone.0

    each : (i : ℕ) (p : PassPart) → get_elem? (all_callers size ∷ no_caller size ∷ []) i ≡ some p → FitsReady size [] (λ _. 0) i p
    each zero p there =
        subst (FitsReady size [] (λ _. 0) 0) (some-injective (all_callers size) p there)
        (record { size_is = refl; within = omega arith; begins = prefix_self []; keeps = λ _ _. refl; knows = λ _ _. refl })
    each (suc zero) p there =
        subst (FitsReady size [] (λ _. 0) 1) (some-injective (no_caller size) p there)
        (record {
          size_is = refl;
          within = omega arith;
          begins = prefix_self [];
          keeps = λ c s. let high = s.1 in absurd (omega arith);
          knows = λ _ _. refl;
        })
    each (suc (suc i)) p there = absurd (some-ne-none p (sym there))

-- the first caller of a pass gets a pass of its own
pub parts_one : (id : ℕ) (p : PassPart) → 0 < p.size.queues → 0 < p.count → Forks KeptReady id p (later_callers p) (first_caller p)
parts_one id p some_queue some_left waiting parts r at = (
  r.0,
  record {
    history = k.history;
    keeper = keeper';
    legal = k.legal;
    waits = k.waits;
    fits = each;
    lone = λ none. absurd (omega (arith, none, some_queue, ap (λ (s : Size). s.queues) mine.size_is));
  },
)
  where
    k : KeepsReady r.0 waiting parts
    k = r.1

    mine : FitsReady r.0 k.history k.keeper id p
    mine = k.fits id p at

    -- the new pass stands behind all others
    keeper' : ℕ → ℕ
    keeper' c = cond (eqb c p.first) (length parts) (k.keeper c)

    here : keeper' p.first ≡ length parts
    here = ap (λ b. cond b (length parts) (k.keeper p.first)) (eq-eqb p.first p.first refl)

    else_same : (c : ℕ) → c ≢ p.first → keeper' c ≡ k.keeper c
    else_same c ne = ap (λ b. cond b (length parts) (k.keeper c)) (ne_eqb c p.first ne)

    spoke : SpeaksFor p p.first
    spoke = (omega arith, omega arith)

    earlier : (c : ℕ) → SpeaksFor (later_callers p) c → SpeaksFor p c
    earlier c s = let low = s.0 in let high = s.1 in (omega arith, omega arith)

    later_fits : FitsReady r.0 k.history keeper' id (later_callers p)
    later_fits = let within = mine.within in record {
      size_is = mine.size_is;
      within = omega arith;
      begins = mine.begins;
      keeps = λ c s. let low = s.0 in else_same c (λ e. omega arith) ∙ mine.keeps c (earlier c s);
      knows = λ c s. mine.knows c (earlier c s);
    }

    first_is : (c : ℕ) → SpeaksFor (first_caller p) c → p.first ≡ c
    first_is c s = let low = s.0 in let high = s.1 in omega arith

    first_fits : FitsReady r.0 k.history keeper' (length parts) (first_caller p)
    first_fits = let within = mine.within in record {
      size_is = mine.size_is;
      within = omega arith;
      begins = mine.begins;
      keeps = λ c s. ap keeper' (sym (first_is c s)) ∙ here;
      knows = λ c s. subst (λ d. own_ready d k.history ≡ own_ready d p.seen) (first_is c s) (mine.knows p.first spoke);
    }

    other_fits : (j : ℕ) (q : PassPart) → j ≢ id → get_elem? parts j ≡ some q → FitsReady r.0 k.history keeper' j q
    other_fits j q apart there = let old = k.fits j q there in record {
      size_is = old.size_is;
      within = old.within;
      begins = old.begins;
      keeps = λ c s. else_same c (λ e. apart (sym (old.keeps c s) ∙ (ap k.keeper e ∙ mine.keeps p.first spoke))) ∙ old.keeps c s;
      knows = old.knows;
    }

    each : (j : ℕ) (q : PassPart) → get_elem? (set parts id (later_callers p) ++ first_caller p ∷ []) j ≡ some q → FitsReady r.0 k.history keeper' j q
    each j q there = elim (at_end (set parts id (later_callers p)) (first_caller p) q j there) [
      | inl old ↦ elim (at_set parts id j (later_callers p) q old) [
        | inl t ↦ subst (λ (z : ℕ × PassPart). FitsReady r.0 k.history keeper' z.0 z.1) (λ i. (sym t.0 i, t.1 i)) later_fits
        | inr t ↦ other_fits j q t.0 t.1
      ]
      | inr t ↦ subst (λ (z : ℕ × PassPart). FitsReady r.0 k.history keeper' z.0 z.1)
          (λ i. (sym (t.0 ∙ length-set parts id (later_callers p)) i, t.1 i)) first_fits
    ]

pub parts_first : (id : ℕ) (size : Size) (first left : ℕ) (p : PassPart) → p ≡ ready_part size first left [] → 0 < size.queues → 0 < left
    → Forks KeptReady id p (later_callers p) (first_caller p)
parts_first id size first left p is some_queue some_left =
    subst (λ q. Forks KeptReady id q (later_callers q) (first_caller q)) (sym is) (parts_one id (ready_part size first left []) some_queue some_left)

-- an event of a caller that has a pass of its own, after which these wait
happens : (size : Size) (waiting after : List ℕ) (parts : List PassPart) (k : KeepsReady size waiting parts) (id c : ℕ) (known : Size) (seen : List ReadyEvent)
    → get_elem? parts id ≡ some (one_caller known c seen) → (e : ReadyEvent) → caller_of e ≡ c → IsReadyAllowed size k.history e
    → announced (k.history ++ e ∷ []) ≡ picked (k.history ++ e ∷ []) ++ after
    → (new : PassPart) × KeptReady after (set parts id new) × Happens e (one_caller known c seen) new
happens size waiting after parts k id c known seen at e is allowed waits = (now, (size, kept), told)
  where
    mine : FitsReady size k.history k.keeper id (one_caller known c seen)
    mine = k.fits id (one_caller known c seen) at

    here : k.keeper c ≡ id
    here = mine.keeps c (omega arith, omega arith)

    more : List ReadyEvent
    more = k.history ++ e ∷ []

    now : PassPart
    now = one_caller known c more

    legal : IsReadyLegal size more
    legal = legal_push size k.history e k.legal allowed

    fits_now : FitsReady size more k.keeper id now
    fits_now = record { size_is = mine.size_is; within = mine.within; begins = prefix_self more; keeps = mine.keeps; knows = λ _ _. refl }

    -- the event is of no caller that another pass speaks for
    fits_still : (j : ℕ) (p : PassPart) → j ≢ id → get_elem? parts j ≡ some p → FitsReady size more k.keeper j p
    fits_still j p apart there = let old = k.fits j p there in record {
      size_is = old.size_is;
      within = old.within;
      begins = prefix_append p.seen k.history (e ∷ []) old.begins;
      keeps = old.keeps;
      knows = λ d s.
          own_else d k.history e (λ same. apart (sym (old.keeps d s) ∙ (ap k.keeper (sym same ∙ is) ∙ here))) ∙ old.knows d s;
    }

    each : (j : ℕ) (p : PassPart) → get_elem? (set parts id now) j ≡ some p → FitsReady size more k.keeper j p
    each j p there = elim (at_set parts id j now p there) [
      | inl t ↦ subst (λ (z : ℕ × PassPart). FitsReady size more k.keeper z.0 z.1) (λ i. (sym t.0 i, t.1 i)) fits_now
      | inr t ↦ fits_still j p t.0 t.1
    ]

    kept : KeepsReady size after (set parts id now)
    kept = record {
      history = more;
      keeper = k.keeper;
      legal = legal;
      waits = waits;
      fits = each;
      lone = λ none. length-set parts id now ∙ k.lone none;
    }

    told : Happens e (one_caller known c seen) now
    told = record {
      same = refl;
      grows = grows_one c seen k.history e mine.begins (mine.knows c (omega arith, omega arith)) is;
      legal = subst (λ s. IsReadyLegal s more) (sym mine.size_is) legal;
    }

put : (room id c q : ℕ) (known : Size) (seen : List ReadyEvent) → room ≡ known.queues → q < known.queues
    → Pushes KeptReady room id (one_caller known c seen) q (announces (one_caller known c seen) q)
put room id c q known seen wide there waiting parts less r at =
    let k = r.1 in
    let fit = k.fits id (one_caller known c seen) at in
    let queues : known.queues ≡ r.0.queues = ap (λ (s : Size). s.queues) fit.size_is in
    let within = fit.within in
    let long = ap length k.waits ∙ length-append (picked k.history) waiting in
    happens r.0 waiting (waiting ++ q ∷ []) parts k id c known seen at (Announce c q) refl
    (record { has_caller = omega arith; has_queue = omega arith; follows = λ full. omega arith })
    (simp growing (ap (λ (l : List ℕ). l ++ q ∷ []) k.waits ∙ append_assoc (picked k.history) waiting (q ∷ [])))

pub puts : (room id c q : ℕ) (p : PassPart) → p ≡ one_caller p.size c p.seen → room ≡ p.size.queues → q < p.size.queues
    → Pushes KeptReady room id p q (announces p q)
puts room id c q p is wide there =
    subst (λ w. Pushes KeptReady room id w q (announces w q)) (sym is) (put room id c q p.size p.seen wide there)

get : (id c : ℕ) (known : Size) (seen : List ReadyEvent) → Pops KeptReady id (one_caller known c seen) (picks (one_caller known c seen))
get id c known seen q waiting parts r at =
    let k = r.1 in
    let fit = k.fits id (one_caller known c seen) at in
    let within = fit.within in
    let turn : slice_get (announced k.history) (length (picked k.history)) ≡ Some q =
    ap (λ (l : List ℕ). slice_get l (length (picked k.history))) k.waits ∙ slice_get_last (picked k.history) q waiting in
    let below = announced_below r.0 k.history (length (picked k.history)) q k.legal turn in
    let step = happens r.0 (q ∷ waiting) waiting parts k id c known seen at (Pick c q) refl
    (record { has_caller = omega arith; has_queue = below; follows = turn })
    (simp growing (k.waits ∙ sym (append_assoc (picked k.history) (q ∷ []) waiting))) in
    (step.0, step.1, (subst (λ (s : Size). q < s.queues) (sym fit.size_is) below, step.2))

pub gets : (id c : ℕ) (p : PassPart) → p ≡ one_caller p.size c p.seen → Pops KeptReady id p (picks p)
gets id c p is = subst (λ w. Pops KeptReady id w (picks w)) (sym is) (get id c p.size p.seen)

learn : (id c : ℕ) (known : Size) (seen : List ReadyEvent) → Learns KeptReady id (one_caller known c seen) (CanWait (one_caller known c seen))
learn id c known seen waiting parts r at =
    let k = r.1 in
    let fit = k.fits id (one_caller known c seen) at in
    record {
      history = k.history;
      grows = grows_none c seen k.history fit.begins (fit.knows c ((omega arith, omega arith)));
      legal = subst (λ s. IsReadyLegal s k.history) (sym fit.size_is) k.legal;
      waits = k.waits;
    }

pub learns : (id c : ℕ) (p : PassPart) → p ≡ one_caller p.size c p.seen → Learns KeptReady id p (CanWait p)
learns id c p is = subst (λ w. Learns KeptReady id w (CanWait w)) (sym is) (learn id c p.size p.seen)
