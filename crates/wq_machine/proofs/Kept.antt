-- The keeper of a number of a machine.
use Rattle.wq_machine.proofs.Common.{◌≡◌, ℕ, sym, ◌∙◌, ap, List}
use Rattle.wq_words.specs.declared.event.Event.{Event}
use Rattle.wq_words.specs.Keeper as words
use Rattle.wq_words.specs.Keeper.{Keeps}
use Rattle.wq_words.proofs.Places.{keeps-keeper}
use Rattle.wq_machine.specs.declared.keeper.Keeper.{Keeper}
use Rattle.wq_machine.specs.Keeper.{kept_by}
use Rattle.wq_core.specs.Machine.{Machine}
use Rattle.wq_core.specs.Sound.{IsSound}

pub keeps_kept : (m : Machine) → IsSound m → (h : List Event) → h ≡ m.history → (k : ℕ) (x : Keeper) → kept_by x ≡ words.keeper h k
    → Keeps m.history k (kept_by x)
keeps_kept m sound h same k x is = (keeps-keeper m.layout m.history sound.legal k (kept_by x)).1 (sym (is ∙ ap (λ (l : List Event). words.keeper l k) same))

pub kept_alone : (m : Machine) → IsSound m → (h : List Event) → h ≡ m.history → (k : ℕ) (x : Keeper) → kept_by x ≡ words.keeper h k
    → (y : words.Keeper) → Keeps m.history k y → y ≡ kept_by x
kept_alone m sound h same k x is y keeps =
    sym ((keeps-keeper m.layout m.history sound.legal k y).0 keeps) ∙ sym (is ∙ ap (λ (l : List Event). words.keeper l k) same)
