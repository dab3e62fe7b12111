-- A delay table stays fit.
use Rattle.wq_words.specs.declared.event.Why.{Why}
use Rattle.wq_words.specs.declared.answer.Answer.{Answer}
use Rattle.wq_words.specs.declared.answer.Posted.{Posted}
use Rattle.wq_live.specs.Answers.{Answers, Posts}
use Rattle.wq_delay.proofs.Common.{◌≡◌, ℕ, ◌+◌, ◌<◌, Bool, true, false, cond, not, ◌&&◌, ◌||◌, List, [], ◌∷◌, ◌==◌, sym, refl, ap, ◌∙◌, subst, arith, eqb-true}
use Rattle.wq_delay.proofs.Common.{nat_tests, Event, Back, Push, Hold, Layout, Holds, Entry, without, on_table, placed, IsLegal, all-more, on_table-without}
use Rattle.wq_delay.proofs.Common.{ordered-placed, ordered-without, all-placed, all-without, on_table-placed, Known, Sees, DelayState, IsFit, FitsTable}
use Rattle.wq_calls.proofs.HeldAfter.{starts, stops, HoldsAll, holds_same, holds_more, holds_less, free_before}
use Rattle.wq_words.specs.declared.event.Why.TheVariants as why
use Rattle.wq_words.specs.declared.answer.Answer.TheVariants as answer
use Rattle.wq_words.specs.declared.answer.Posted.TheVariants as posted

abbrev pub state : Known → ℕ → ℕ → List Entry → DelayState
state p now next t = record { sender = p; table = record { entries = t; tick = now; next = next }; looked = 0 }

-- a table of so many places over the layout's items
abbrev pub FitsSize : ℕ → DelayState → Type 0
FitsSize size d = (size ≡ d.sender.layout.items) × IsFit d

-- what is fit is so at every tick
pub fit_at : (a : Known) (es : List Entry) (now later next : ℕ) → FitsTable a (record { entries = es; tick = now; next = next })
    → FitsTable a (record { entries = es; tick = later; next = next })
fit_at a es now later next fit = record { ordered = fit.ordered; armed = fit.armed; held = fit.held; legal = fit.legal }

items_same : (xs : List Event) (n size : ℕ) (a b : Known) → Sees xs n a b → size ≡ a.layout.items → size ≡ b.layout.items
items_same xs n size a b sees is = is ∙ ap (λ (z : Layout). z.items) (sym sees.same.layout_is)

pub sound_keeps : (xs : List Event) (n size : ℕ) (a b : Known) (now next later : ℕ) (t : List Entry) → Sees xs n a b
    → ((k : ℕ) → starts a.number k xs ≡ stops a.number k xs)
    → FitsSize size (state a now next t) → FitsSize size (state b later next t)
sound_keeps xs n size a b now next later t sees even sound = (
  items_same xs n size a b sees sound.0,
  record {
    ordered = sound.1.ordered;
    armed = sound.1.armed;
    held =
        holds_same xs n a b t sees even sound.1.held;
    legal = sees.legal;
  },
)

-- events that leave what is held as it was
pub even_pushed : (s i k : ℕ) → starts s k (Hold s i ∷ Push s i ∷ []) ≡ stops s k (Hold s i ∷ Push s i ∷ [])
even_pushed s i k = omega arith

pub even_back : (s i k : ℕ) (w : Why) → starts s k (Hold s i ∷ Back s i w ∷ []) ≡ stops s k (Hold s i ∷ Back s i w ∷ [])
even_back s i k w = omega arith

pub sound_queued : (size k tries : ℕ) (r : Answer) (a b : Known) (now next : ℕ) (t : List Entry) → Answers k tries r a b
    → FitsSize size (state a now next t) → FitsSize size (state b now next t)
sound_queued size k tries (answer.Queued is_first wakes) a b now next t told sound =
    sound_keeps _ _ size a b now next now t told.0 (even_pushed a.number k) sound
sound_queued size k tries answer.Pending a b now next t told sound = sound_keeps _ _ size a b now next now t told (λ j. refl) sound
sound_queued size k tries answer.Closed a b now next t told sound =
    sound_keeps _ _ size a b now next now t told (λ j. even_back a.number k j why.Closed) sound
sound_queued size k tries answer.Contended a b now next t told sound =
    sound_keeps _ _ size a b now next now t told (λ j. even_back a.number k j why.Contended) sound
sound_queued size k tries answer.Draining a b now next t told sound =
    sound_keeps _ _ size a b now next now t told.0 (λ j. even_back a.number k j why.Draining) sound

-- an item that is held now was not on the table
pub off_before : (n : ℕ) (a b : Known) (k : ℕ) (t : List Entry) → Sees (Hold a.number k ∷ []) n a b → HoldsAll a t → on_table k t ≡ false
off_before n a b k t sees held = by (on_table k t) refl
  where
    by : (q : Bool) → on_table k t ≡ q → on_table k t ≡ false
    by true is = absurd (free_before n a b k sees ((held k).0 is))
    by false is = is

pub sound_puts : (size n k : ℕ) (a b : Known) (now next due : ℕ) (t u : List Entry) → Sees (Hold a.number k ∷ []) n a b
    → u ≡ placed (record { due = due; arming = next; item = k }) t
    → FitsSize size (state a now next t) → FitsSize size (state b now (next + 1) u)
sound_puts size n k a b now next due t u sees is sound =
    let e : Entry = record { due = due; arming = next; item = k } in
    let off = off_before n a b k t sees sound.1.held in (
      items_same _ n size a b sees sound.0,
      subst (λ (z : List Entry). IsFit (state b now (next + 1) z)) (sym is) (record {
        ordered = ordered-placed (record { due = due; arming = next; item = k }) t sound.1.ordered sound.1.armed off;
        armed = all-placed (λ f. f.arming < next + 1) (record { due = due; arming = next; item = k }) t (omega arith)
            (all-more (λ f. f.arming < next) (λ f. f.arming < next + 1) (λ f low. omega arith) t sound.1.armed);
        held = holds_more n a b k t (placed (record { due = due; arming = next; item = k }) t) sees
            (λ j. on_table-placed j (record { due = due; arming = next; item = k }) t) sound.1.held;
        legal = sees.legal;
      }),
    )

pub sound_leaves : (x : Event) (size n k : ℕ) (a b : Known) (now next : ℕ) (t u : List Entry) → Sees (x ∷ []) n a b
    → ((j : ℕ) → starts a.number j (x ∷ []) ≡ 0) → ((j : ℕ) → stops a.number j (x ∷ []) ≡ cond (k == j) 1 0)
    → u ≡ without k t → FitsSize size (state a now next t) → FitsSize size (state b now next u)
sound_leaves x size n k a b now next t u sees none one is sound = (
  items_same _ n size a b sees sound.0,
  subst (λ (z : List Entry). IsFit (state b now next z)) (sym is) (record {
    ordered = ordered-without k t sound.1.ordered;
    armed = all-without (λ f. f.arming < next) k t sound.1.armed;
    held = holds_less x n a b k t (without k t) sees none one (λ j. on_table-without j k t) sound.1.held;
    legal = sees.legal;
  }),
)

-- an event that ends a hold
pub stops_push : (s k j : ℕ) → stops s j (Push s k ∷ []) ≡ cond (k == j) 1 0
stops_push s k j = grind (arith, nat_tests)

pub stops_back : (s k j : ℕ) (w : Why) → stops s j (Back s k w ∷ []) ≡ cond (k == j) 1 0
stops_back s k j w = grind (arith, nat_tests)

-- nothing is on the table, and nothing is held
pub sound_empty : (size now : ℕ) (a : Known) (t : List Entry) → t ≡ [] → size ≡ a.layout.items → IsLegal a.layout a.seen
    → ((k : ℕ) → ¬ Holds a.seen a.number k) → FitsSize size (state a now 0 t)
sound_empty size now a t none is legal free = (
  is,
  subst (λ (z : List Entry). IsFit (state a now 0 z)) (sym none) (record {
    ordered = tt;
    armed = tt;
    held = λ k. (λ on. absurd (cc), λ holds. absurd (free k holds));
    legal = legal;
  }),
)

-- an item on the table was posted
pub sound_posted : (size k tries : ℕ) (r : Posted) (a b : Known) (now next : ℕ) (t u : List Entry) → (r ≡ posted.Contended → ⊥)
    → (r ≡ posted.Draining → ⊥)
    → Posts k tries r a b → u ≡ without k t
    → FitsSize size (state a now next t) → FitsSize size (state b now next u)
sound_posted size k tries (posted.Queued is_first wakes) a b now next t u won stays_open told is sound =
    sound_leaves (Push a.number k) size 0 k a b now next t u told.0 (λ j. refl) (λ j. stops_push a.number k j) is sound
sound_posted size k tries posted.Closed a b now next t u won stays_open told is sound =
    sound_leaves (Back a.number k why.Closed) size 0 k a b now next t u told (λ j. refl) (λ j. stops_back a.number k j why.Closed) is sound
sound_posted size k tries posted.Contended a b now next t u won stays_open told is sound = absurd (won refl)
sound_posted size k tries posted.Draining a b now next t u won stays_open told is sound = absurd (stays_open refl)

-- an item on the table has another tick and a later arming
on_moved : (j k : ℕ) (p q b : Bool) → (j == k) ≡ p → b ≡ q → (j ≡ k → q ≡ true) → ((j == k) || (not (j == k) && b)) ≡ q
on_moved j k true true b same is on = rw same refl
on_moved j k true false b same is on = absurd (let e : j ≡ k = eqb-true j k same in let f = on e in cc)
on_moved j k false q b same is on = rw same is

pub sound_moves : (size k now next due : ℕ) (a : Known) (t u : List Entry) → on_table k t ≡ true
    → u ≡ placed (record { due = due; arming = next; item = k }) (without k t)
    → FitsSize size (state a now next t) → FitsSize size (state a now (next + 1) u)
sound_moves size k now next due a t u on is sound =
    let e : Entry = record { due = due; arming = next; item = k } in
    let off : on_table k (without k t) ≡ false = let same : (k == k) ≡ true = grind (arith, nat_tests) in on_table-without k k t
    ∙ ap (λ (z : Bool). not z && on_table k t) same in
    let armed = all-without (λ f. f.arming < next) k t sound.1.armed in
    let same_on : (j : ℕ) → on_table j (placed (record { due = due; arming = next; item = k }) (without k t)) ≡ on_table j t =
    λ j. on_table-placed j (record { due = due; arming = next; item = k }) (without k t) ∙ (ap (λ (z : Bool). (j == k) || z) (on_table-without j k t)
    ∙ on_moved j k (j == k) (on_table j t) (on_table j t) refl refl (λ same. subst (λ (z : ℕ). on_table z t ≡ true) (sym same) on)) in (
      sound.0,
      subst (λ (z : List Entry). IsFit (state a now (next + 1) z)) (sym is) (record {
        ordered = ordered-placed (record { due = due; arming = next; item = k }) (without k t) (ordered-without k t sound.1.ordered) armed off;
        armed = all-placed (λ f. f.arming < next + 1) (record { due = due; arming = next; item = k }) (without k t) (omega arith)
            (all-more (λ f. f.arming < next) (λ f. f.arming < next + 1) (λ f low. omega arith) (without k t) armed);
        held = λ j. (λ here. (sound.1.held j).0 (sym (same_on j) ∙ here), λ holds. same_on j ∙ (sound.1.held j).1 holds);
        legal = sound.1.legal;
      }),
    )
