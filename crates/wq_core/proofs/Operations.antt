-- What the table's operations make of a word.
use Rattle.wq_core.proofs.Common.{◌≡◌, ◌≢◌, ℕ, ◌<◌, Bool, true, false, ◌==◌, if◌then◌else◌, List, get_or, set, sym, ap, ◌∙◌, arith, eqb-false, eqb-true}
use Rattle.wq_core.proofs.Common.{number_count, Machine, item_word, IsSound}
use prog.Atomic.{either}
use Rattle.std.specs.Prelude.{bit_or, bit_and}
use lib.Seq.{set-get_or}

-- an item word is a bit
pub item_word-bit : (m : Machine) → IsSound m → (k : ℕ) → k < number_count m.layout → item_word m k < 2
item_word-bit m sound k number = go _ (sound.items_are k number)
  where
    go : (b : Bool) → item_word m k ≡ (if b then 1 else 0) → item_word m k < 2
    go true is = omega arith
    go false is = omega arith

-- a load writes what it found
pub loads : (ws : List ℕ) (i : ℕ) → ws ≡ set ws i (get_or ws i 0)
loads ws i = sym (set-get_or ws i 0)

-- setting a bit: where it was clear the machine is x then, and else y
pub sets_bit : (x y : Machine) (ws : List ℕ) (i w : ℕ) → w ≡ get_or ws i 0 → x.words ≡ set ws i 1 → y.words ≡ ws → w < 2 → (b : Bool) → (w == 0) ≡ b
    → (if b then x else y).words ≡ set ws i (bit_or w 1)
sets_bit x y ws i w is at_x at_y small true zero = let clear : w ≡ 0 = eqb-true w 0 zero in at_x ∙ ap (λ (v : ℕ). set ws i (bit_or v 1)) (sym clear)
sets_bit x y ws i w is at_y at_x small false zero =
    let ne : w ≢ 0 = eqb-false w 0 zero in let one_is : w ≡ 1 = omega arith in
    at_x ∙ (loads ws i ∙ (ap (set ws i) (sym is ∙ one_is) ∙ ap (λ (v : ℕ). set ws i (bit_or v 1)) (sym one_is)))

pub clears_bit : (w : ℕ) → w < 2 → (b : Bool) → (w == 0) ≡ b → 0 ≡ bit_and w 0
clears_bit w small true zero = ap (λ (v : ℕ). bit_and v 0) (sym (eqb-true w 0 zero))
clears_bit w small false zero = let ne : w ≢ 0 = eqb-false w 0 zero in let one_is : w ≡ 1 = omega arith in ap (λ (v : ℕ). bit_and v 0) (sym one_is)

-- an exchange: where the word was the one expected the machine is x then, and else y
pub exchanges : (x y : Machine) (ws : List ℕ) (old new w : ℕ) → w ≡ get_or ws 0 0 → x.words ≡ set ws 0 new → y.words ≡ ws → (b : Bool) → (w == old) ≡ b
    → (if b then x else y).words ≡ set ws 0 (either b new w)
exchanges x y ws old new w is at_x at_y true hit = at_x
exchanges x y ws old new w is at_x at_y false miss = at_y ∙ (loads ws 0 ∙ ap (set ws 0) (sym is))
