-- What is wrong with what no LF ends.
use Rattle.wq_recording.proofs.Common.{◌≡◌, ℕ, ◌<◌, ◌≤◌, false, List, [], ◌∷◌, length, Some, refl, sym, ap, subst, arith, Awaited, ScriptError}
use Rattle.wq_recording.proofs.Common.{last_fault, end_fault}
use Rattle.std.proofs.Common.{if◌then◌else◌, ◌==◌}
use Rattle.std.proofs.lemmas.Bool.{eqb-false, le-leb, lt-leb}
use Rattle.wq_text.specs.declared.fault.FaultKind.TheVariants as kind
use Rattle.wq_text.specs.declared.fault.ParseError.{ParseError}
use Rattle.wq_text.specs.Fault.{RefusedFor}

pub last_long : (s : Awaited) (line : List ℕ) → 4096 < length line → last_fault s line ≡ Some kind.Size
last_long s [] lt = absurd (omega (arith, lt))
last_long s (b ∷ bs) lt = ap (λ t. Some (if t then kind.Cut else kind.Size)) (lt-leb (length (b ∷ bs)) 4096 lt)

pub last_cut : (s : Awaited) (line : List ℕ) → length line ≤ 4096 → (length line == 0) ≡ false → last_fault s line ≡ Some kind.Cut
last_cut s [] le some = absurd (eqb-false 0 0 some refl)
last_cut s (b ∷ bs) le some = ap (λ t. Some (if t then kind.Cut else kind.Size)) (le-leb (length (b ∷ bs)) 4096 le)

-- where nothing is left, the fault is that of the end
pub ends_refused : (s : Awaited) (n : ℕ) (line : List ℕ) (e : ParseError) → line ≡ []
    → RefusedFor e (λ x. (x.line ≡ n) × (end_fault s ≡ Some x.kind)) → RefusedFor e (λ x. (x.line ≡ n) × (last_fault s line ≡ Some x.kind))
ends_refused s n line e none refused =
    subst (λ (l : List ℕ). RefusedFor e (λ (x : ScriptError). (x.line ≡ n) × (last_fault s l ≡ Some x.kind))) (sym none) refused
