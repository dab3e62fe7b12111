-- Which items are on the table after an entry was placed, or an item taken off.
use Rattle.wq_delay.proofs.Common.{◌≡◌, ℕ, Bool, true, false, not, ◌||◌, ◌&&◌, ◌≢◌, List, [], ◌∷◌, length, refl, ap, ◌∙◌}
use Rattle.wq_delay.proofs.Common.{Entry, DelayTable, DelayState, Known, Holds, on_table, placed, without, on_table-placed, on_table-without}
use Rattle.wq_calls.proofs.HeldAfter.{HoldsAll}
use Rattle.wq_delay.specs.Delay.{PostsOne}
use Rattle.wq_words.specs.Armed.{armed_of}
use Rattle.wq_live.specs.Laws.{queued_number}
use Rattle.wq_words.specs.declared.answer.Answer.{Answer}
use Rattle.wq_words.specs.declared.answer.Posted.{Posted}
use Rattle.wq_words.specs.declared.answer.Answer.TheVariants as answer
use Rattle.wq_words.specs.declared.answer.Armed.TheVariants as armed
use Rattle.wq_words.specs.declared.answer.Posted.TheVariants as posted
use Rattle.std.proofs.lemmas.Bool.{eq-eqb, ne_eqb}

-- a placed item is on it, and every other is as it was
pub placed_on : (e : Entry) (t u : List Entry) → u ≡ placed e t → on_table e.item u ≡ true
placed_on e t u is =
    ap (λ (z : List Entry). on_table e.item z) is ∙ (on_table-placed e.item e t ∙ ap (λ (z : Bool). z || on_table e.item t) (eq-eqb e.item e.item refl))

pub placed_others : (j : ℕ) (e : Entry) (t u : List Entry) → u ≡ placed e t → j ≢ e.item → on_table j u ≡ on_table j t
placed_others j e t u is apart =
    ap (λ (z : List Entry). on_table j z) is ∙ (on_table-placed j e t ∙ ap (λ (z : Bool). z || on_table j t) (ne_eqb j e.item apart))

-- an item taken off is not on it, and every other is as it was
pub without_at : (k : ℕ) (t u : List Entry) → u ≡ without k t → on_table k u ≡ false
without_at k t u is =
    ap (λ (z : List Entry). on_table k z) is ∙ (on_table-without k k t ∙ ap (λ (z : Bool). not z && on_table k t) (eq-eqb k k refl))

pub without_others : (j k : ℕ) (t u : List Entry) → u ≡ without k t → j ≢ k → on_table j u ≡ on_table j t
without_others j k t u is apart =
    ap (λ (z : List Entry). on_table j z) is ∙ (on_table-without j k t ∙ ap (λ (z : Bool). not z && on_table j t) (ne_eqb j k apart))

-- a post takes no other item off
pub posts_others : (j k tries : ℕ) (r : Posted) (old new : DelayState) → PostsOne k tries r old new → j ≢ k
    → on_table j new.table.entries ≡ on_table j old.table.entries
posts_others j k tries (posted.Queued is_first wakes) old new told apart =
    without_others j k old.table.entries new.table.entries (ap (λ (t : DelayTable). t.entries) told.table_is) apart
posts_others j k tries posted.Closed old new told apart =
    without_others j k old.table.entries new.table.entries (ap (λ (t : DelayTable). t.entries) told.table_is) apart
posts_others j k tries posted.Contended old new told apart = ap (λ (t : DelayTable). on_table j t.entries) told.table_is
posts_others j k tries posted.Draining old new told apart = ap (λ (t : DelayTable). on_table j t.entries) told.0.table_is

-- where nothing is on it, its sender holds nothing
none_on : (k : ℕ) (t : List Entry) → length t ≡ 0 → on_table k t ≡ false
none_on k [] none = refl
none_on k (e ∷ es) none = absurd (cc)

pub empty_free : (a : Known) (t : List Entry) → HoldsAll a t → length t ≡ 0 → (k : ℕ) → ¬ Holds a.seen a.number k
empty_free a t held none k holds = absurd (let on = (held k).1 holds in let off = none_on k t none in cc)

-- only a queueing that is answered Queued is an arming that is
pub queued_armed : (k : ℕ) (a : Answer) (is_first wakes : Bool) → armed_of a ≡ armed.Queued is_first wakes → queued_number k a ≡ k ∷ []
queued_armed k (answer.Queued f w) is_first wakes is = refl
queued_armed k answer.Pending is_first wakes is = absurd (cc)
queued_armed k answer.Closed is_first wakes is = absurd (cc)
queued_armed k answer.Contended is_first wakes is = absurd (cc)
queued_armed k answer.Draining is_first wakes is = absurd (cc)
