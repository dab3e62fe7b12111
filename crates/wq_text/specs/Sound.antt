-- What was read so far fits together: the senders are few enough, and the layout has what is asked for.
use Rattle.std.specs.Prelude.{◌≡◌, ℕ, ◌≤◌, List, [], ◌++◌, All, Option}
use Rattle.std.specs.Option.{option_to_list}
use Rattle.wq_words.specs.declared.layout.Layout.{Layout}
use Rattle.wq_text.specs.declared.header.Awaited.{Awaited}
use Rattle.wq_text.specs.declared.header.Awaited.TheVariants as awaited

-- all that was asked is of the layout
abbrev pub AreSound : {A : Type 0} → ℕ → (Layout → A → Type 0) → Layout → List A → Type 0
AreSound most fits layout asked = (layout.senders ≤ most) × All (fits layout) asked

-- and nothing was asked before a header was whole
abbrev pub SoundAt : {A : Type 0} → ℕ → (Layout → A → Type 0) → Awaited → List A → Type 0
SoundAt most fits (awaited.Commands layout) asked = AreSound most fits layout asked
SoundAt most fits (awaited.Barriers layout) asked = (layout.senders ≤ most) × (asked ≡ [])
SoundAt most fits s asked = asked ≡ []

-- what a line gives keeps it so
unfoldable pub KeepsSound : {A : Type 0} → ℕ → (Layout → A → Type 0) → Awaited → Awaited → Option A → Type 0
KeepsSound {A} most fits s t one = (asked : List A) → SoundAt most fits s asked → SoundAt most fits t (asked ++ option_to_list one)

-- behind a line of the header the next one is awaited, and there are few senders
abbrev pub KeepsHeader : ℕ → Awaited → Awaited → Type 0
KeepsHeader most awaited.Items (awaited.Senders l) = Unit {0}
KeepsHeader most awaited.Items (awaited.Commands m) = m.senders ≤ most
KeepsHeader most (awaited.Senders l) (awaited.Barriers m) = m.senders ≤ most
KeepsHeader most (awaited.Barriers l) (awaited.Commands m) = m.senders ≡ l.senders
KeepsHeader most s t = ⊥
