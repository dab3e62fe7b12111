-- What is awaited behind a line.
use Rattle.wq_recording.proofs.Common.{◌≡◌, ℕ, Bool, true, false, List, [], ◌∷◌, Option, Some, None, IfSome, Result, Ok, Err, refl, sym, ap, subst}
use Rattle.wq_recording.proofs.Common.{Layout, FaultKind, Awaited, Grammar, line_gives, IsMadeAt}
use Rattle.std.proofs.lemmas.List.Elements.{All-nil, All-head}
use Rattle.wq_words.proofs.Cases.{same_ok}
use Rattle.wq_text.specs.declared.header.Awaited.TheVariants as awaited
use Rattle.wq_text.specs.declared.fault.FaultKind.TheVariants as kind
use Rattle.wq_text.specs.Fault.{◌>>=◌, need, found, of_one}
use Rattle.wq_text.specs.Header.{awaits, is_header, header_line_gives}
use Rattle.wq_text.specs.Line.{plain_line_gives, words_give, by_words, asking_line, is_passed_over}
use Rattle.wq_text.specs.Sound.{KeepsSound, SoundAt}
use Rattle.wq_text.specs.Word.{words}
use Rattle.std.specs.Prelude.{if◌then◌else◌}

-- where a need and what stands behind it give a value, what stands behind it gives that
pub ok_behind_need : {B : Type 0} (k : FaultKind) (b : Bool) (r : Result B FaultKind) (x : B) → (need k b >>= λ _. r) ≡ Ok x → r ≡ Ok x
ok_behind_need k true r x e = e
ok_behind_need k false r x e = cc

-- behind a whole header the same is awaited
module _ {N A : Type 0} (g : Grammar N A) (l : Layout) (next : Awaited) (one : Option A) where
  stays_asking : (w : List ℕ) (ws : List (List ℕ)) → asking_line g (awaited.Commands l) w ws ≡ Ok (next, one) → next ≡ awaited.Commands l
  stays_asking w ws e = by_name (g.names w ws) e
    where
      asked : A → Awaited × Option A
      asked a = (awaited.Commands l, Some a)

      by_ask : (r : Result A FaultKind) → of_one asked r ≡ Ok (next, one) → next ≡ awaited.Commands l
      by_ask (Ok a) e = ap (λ (p : Awaited × Option A). p.0) (sym (same_ok e))
      by_ask (Err k) e = cc

      by_name : (o : Option N)
          → (found kind.Word o >>= λ name. of_one asked (g.asks l name w ws)) ≡ Ok (next, one) → next ≡ awaited.Commands l
      by_name None e = cc
      by_name (Some name) e = by_ask (g.asks l name w ws) e

  stays_first : (w : List ℕ) (ws : List (List ℕ)) (b : Bool)
      → (if b then of_one (λ n. (n, None)) (header_line_gives g.names_seats g.most (awaited.Commands l) w ws) else asking_line g (awaited.Commands l) w ws)
      ≡ Ok (next, one) → next ≡ awaited.Commands l
  unfolding awaits
  stays_first w ws true e = cc
  stays_first w ws false e = stays_asking w ws e

  stays_words : (ws : List (List ℕ)) → by_words g (awaited.Commands l) ws ≡ Ok (next, one) → next ≡ awaited.Commands l
  stays_words [] e = cc
  stays_words (w ∷ ws) e = stays_first w ws (is_header w) e

  pub stays : (line : List ℕ) → line_gives g (awaited.Commands l) line ≡ Ok (next, one) → next ≡ awaited.Commands l
  unfolding plain_line_gives words_give
  stays line e = by_passing (is_passed_over line) e
    where
      by_passing : (b : Bool) → (if b then Ok (awaited.Commands l, None) else plain_line_gives g (awaited.Commands l) line) ≡ Ok (next, one)
          → next ≡ awaited.Commands l
      by_passing true e = ap (λ (p : Awaited × Option A). p.0) (sym (same_ok e))
      by_passing false e = stays_words (words line) (ok_behind_need kind.Space _ _ _ (ok_behind_need kind.Bytes _ _ _ e))

pub made_behind : {N A C : Type 0} (g : Grammar N A) (layout_of : C → Layout) (s next : Awaited) (one : Option A) (checker : Option C) (line : List ℕ)
    → IsMadeAt layout_of s checker → line_gives g s line ≡ Ok (next, one) → IsMadeAt layout_of next checker
made_behind g layout_of s next one None line made given = tt
made_behind {N} {A} g layout_of s next one (Some c) line made given =
    let P : Awaited → Type 0 = λ t. line_gives g t line ≡ Ok (next, one) in stays g (layout_of c) next one line (subst P made given)

-- what a line asks for fits the layout
module _ {A : Type 0} (most : ℕ) (fits : Layout → A → Type 0) where
  sound_one : (next : Awaited) (a : A) → SoundAt most fits next (a ∷ []) → SoundAt most fits next [] × ((l : Layout) × (next ≡ awaited.Commands l) × fits l a)
  sound_one (awaited.Commands l) a sound = ((sound.0, All-nil (fits l)), (l, refl, All-head (fits l) a [] sound.1))
  sound_one (awaited.Barriers l) a sound = absurd (some sound.1)
    where
      some : a ∷ [] ≡ [] → ⊥
      some e = cc
  sound_one awaited.Version a sound = cc
  sound_one awaited.Items a sound = cc
  sound_one (awaited.Senders l) a sound = cc

  pub sound_on : (s next : Awaited) (one : Option A) → KeepsSound most fits s next one → SoundAt most fits s [] → SoundAt most fits next []
  unfolding KeepsSound
  sound_on s next None keeps sound = keeps [] sound
  sound_on s next (Some a) keeps sound = (sound_one next a (keeps [] sound)).0

  pub fits_on : (s next : Awaited) (one : Option A) → KeepsSound most fits s next one → SoundAt most fits s []
      → IfSome one (λ a. (l : Layout) × (next ≡ awaited.Commands l) × fits l a)
  unfolding KeepsSound
  fits_on s next None keeps sound = tt
  fits_on s next (Some a) keeps sound = (sound_one next a (keeps [] sound)).1
