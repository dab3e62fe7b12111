-- What a line gives keeps what was read sound.
use Rattle.wq_text.proofs.Common.{◌≡◌, ℕ, zero, suc, ◌∙◌, All, List, [], ◌∷◌, ◌++◌, Option, Some, None, sym, subst, arith, option_to_list, append-nil}
use Rattle.wq_text.proofs.Common.{All-append, All-nil, Layout, Awaited, layout_at, AreSound, SoundAt, KeepsSound, KeepsHeader, same_Some}
use Rattle.wq_text.specs.declared.header.Awaited.TheVariants as awaited

pub all_one : {A : Type 0} (P : A → Type 0) (x : A) → P x → All P (x ∷ [])
all_one P x here zero d lt = here
all_one P x here (suc k) d lt = absurd (omega (arith, lt))

module _ {A : Type 0} (most : ℕ) (fits : Layout → A → Type 0) where
  all_none : (layout : Layout) (asked : List A) → asked ≡ [] → All (fits layout) asked
  all_none layout asked none = let P : List A → Type 0 = λ xs. All (fits layout) xs in subst P (sym none) (All-nil (fits layout))

  pub keeps_none : (s : Awaited) → KeepsSound most fits s s None
  unfolding KeepsSound
  keeps_none s asked sound = let P : List A → Type 0 = λ x. SoundAt most fits s x in subst P (sym (append-nil asked)) sound

  pub keeps_version : KeepsSound most fits awaited.Version awaited.Items None
  unfolding KeepsSound
  keeps_version asked sound = append-nil asked ∙ sound

  pub keeps_header : (s t : Awaited) → KeepsHeader most s t → KeepsSound most fits s t None
  unfolding KeepsSound
  keeps_header awaited.Items (awaited.Senders l) step asked sound = append-nil asked ∙ sound
  keeps_header awaited.Items (awaited.Commands m) step asked sound = (step, all_none m (asked ++ []) (append-nil asked ∙ sound))
  keeps_header (awaited.Senders l) (awaited.Barriers m) step asked sound = (step, append-nil asked ∙ sound)
  keeps_header (awaited.Barriers l) (awaited.Commands m) step asked sound = (
    omega (arith, step, sound.0),
    all_none m (asked ++ []) (append-nil asked ∙ sound.1),
  )
  keeps_header s t step asked sound = absurd step

  pub ends_sound : (s : Awaited) (layout : Layout) (asked : List A) → layout_at s ≡ Some layout → SoundAt most fits s asked → AreSound most fits layout asked
  ends_sound (awaited.Commands l) layout asked here sound = let P : Layout → Type 0 = λ x. AreSound most fits x asked in subst P (same_Some _ _ here) sound
  ends_sound (awaited.Barriers l) layout asked here sound =
      let P : Layout → Type 0 = λ x. AreSound most fits x asked in subst P (same_Some _ _ here) (sound.0, all_none l asked sound.1)
  ends_sound awaited.Version layout asked here sound = cc
  ends_sound awaited.Items layout asked here sound = cc
  ends_sound (awaited.Senders l) layout asked here sound = cc

  pub keeps_asked : (s : Awaited) (layout : Layout) (a : A) → layout_at s ≡ Some layout → fits layout a
      → KeepsSound most fits s (awaited.Commands layout) (Some a)
  unfolding KeepsSound
  keeps_asked s layout a here fit asked sound =
      let before = ends_sound s layout asked here sound in
      (before.0, All-append (fits layout) asked (a ∷ []) before.1 (all_one (fits layout) a fit))

  pub keeps : (s t : Awaited) (one : Option A) (asked new : List A) → KeepsSound most fits s t one → new ≡ asked ++ option_to_list one
      → SoundAt most fits s asked → SoundAt most fits t new
  unfolding KeepsSound
  keeps s t one asked new step added sound = let P : List A → Type 0 = λ x. SoundAt most fits t x in subst P (sym added) (step asked sound)
