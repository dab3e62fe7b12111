-- What a line of a recording comes to.
use Rattle.std.specs.Prelude.{◌≡◌, ℕ, List, [], ◌++◌, flat_map, Option, Some, None, IfSome, IsSomeAnd}
use Rattle.std.specs.Option.{option_to_list}
use Rattle.wq_words.specs.declared.layout.Layout.{Layout}
use Rattle.wq_text.specs.declared.fault.LineError.{LineError}
use Rattle.wq_text.specs.declared.fault.LineError.TheVariants as line_errors
use Rattle.wq_text.specs.declared.fault.ParseError.{ParseError}
use Rattle.wq_text.specs.declared.fault.ParseError.TheVariants as parse_errors
use Rattle.wq_text.specs.declared.fault.ScriptError.{ScriptError}
use Rattle.wq_text.specs.declared.header.Awaited.{Awaited}
use Rattle.wq_text.specs.declared.header.Awaited.TheVariants.{Commands}
use Rattle.wq_text.specs.Fault.{RefusedFor}
use Rattle.wq_recording.specs.declared.error.CheckError.{CheckError}
use Rattle.wq_recording.specs.declared.error.CheckError.TheVariants as errors
use Rattle.wq_recording.specs.declared.judging.LineOutcome.{LineOutcome}
use Rattle.wq_recording.specs.declared.judging.LineOutcome.TheVariants.{On, Violation}
use Rattle.wq_recording.specs.Recording.{ViolatesAmong}
use Rattle.wq_recording.specs.Verdict.{Rules}

-- the checker was told these events, or there is none yet
abbrev pub HasTold : {C E : Type 0} → (C → List E → Type 0) → Option C → List E → Type 0
HasTold after None h = h ≡ []
HasTold after (Some c) h = after c h

-- a checker there is only behind a whole header, and of its layout
abbrev pub IsMadeAt : {C : Type 0} → (C → Layout) → Awaited → Option C → Type 0
IsMadeAt layout_of s checker = IfSome checker (λ c. s ≡ Commands (layout_of c))

-- the new checker was also told what is asked for
abbrev pub TellsAll : {A E C : Type 0} → Rules A E → (C → List E → Type 0) → Option A → Option C → Option C → Type 0
TellsAll {A} {E} {C} rules after asked old new =
    (h : List E) → HasTold after old h → HasTold after new (h ++ flat_map rules.tells (option_to_list asked))

-- what comes of telling it: what is awaited behind it and the new checker, or its first event that is not legal
abbrev pub ComesTo : {A E C : Type 0} → Rules A E → (C → Layout) → (C → List E → Type 0) → Awaited → Option C → Option A → LineOutcome → Option C → Type 0
ComesTo rules layout_of after next old asked (On s) new = (s ≡ next) × IsMadeAt layout_of next new × TellsAll rules after asked old new
ComesTo {A} {E} {C} rules layout_of after next old asked (Violation layout cause) new =
    (next ≡ Commands layout) × IsSomeAnd new (λ c. (layout_of c ≡ layout) × ((a : A) × (asked ≡ Some a)
    × ((h : List E) → HasTold after old h → ViolatesAmong rules layout h (rules.tells a) (after c) cause)))

-- why a line could not be read, as of its text
abbrev pub refusal_of : ℕ → LineError → ParseError
refusal_of n line_errors.Memory = parse_errors.Memory
refusal_of n (line_errors.Fault k) = parse_errors.Refused (record { line = n; kind = k })

-- a text that was refused, and not a reader that failed or want of memory
abbrev pub IfTextRefused : CheckError → (ScriptError → Type 0) → Type 0
IfTextRefused (errors.Read e) P = Unit {0}
IfTextRefused (errors.Text e) P = RefusedFor e P
