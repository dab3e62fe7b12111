-- Tests in a row: a value, or the first fault.
use Rattle.std.specs.Prelude.{◌≡◌, Bool, true, false, Option, Some, None, Result, Ok, Err}
use Rattle.wq_text.specs.declared.fault.FaultKind.{FaultKind}
use Rattle.wq_text.specs.declared.fault.LineError.{LineError}
use Rattle.wq_text.specs.declared.fault.LineError.TheVariants as line_errors
use Rattle.wq_text.specs.declared.fault.ParseError.{ParseError}
use Rattle.wq_text.specs.declared.fault.ParseError.TheVariants as parse_errors
use Rattle.wq_text.specs.declared.fault.ScriptError.{ScriptError}

infixl 10 ◌>>=◌
abbrev pub ◌>>=◌ : {E A B : Type 0} → Result A E → (A → Result B E) → Result B E
(Ok x) >>= f = f x
(Err e) >>= f = Err e

-- the fault k, unless the test passes, or unless there is a value
abbrev pub need : FaultKind → Bool → Result (Unit {0}) FaultKind
need k true = Ok tt
need k false = Err k

abbrev pub found : {A : Type 0} → FaultKind → Option A → Result A FaultKind
found k None = Err k
found k (Some x) = Ok x

-- a command, what is awaited, or the like, that is made of nothing, of one value, or of two
abbrev pub of_none : {C : Type 0} → C → Result (Unit {0}) FaultKind → Result C FaultKind
of_none c told = told >>= λ _. Ok c

abbrev pub of_one : {A C : Type 0} → (A → C) → Result A FaultKind → Result C FaultKind
of_one c told = told >>= λ a. Ok (c a)

abbrev pub of_two : {A B C : Type 0} → (A → B → C) → Result (A × B) FaultKind → Result C FaultKind
of_two c told = told >>= λ p. Ok (c p.0 p.1)

-- what a function returned for a line is what its definition gives, unless memory ran out
abbrev pub LineFailsAs : {Y : Type 0} → LineError → Result Y FaultKind → Type 0
LineFailsAs line_errors.Memory told = Unit {0}
LineFailsAs (line_errors.Fault k) told = told ≡ Err k

abbrev pub LineGives : {X : Type 0} → Result X LineError → Result X FaultKind → Type 0
LineGives (Ok x) told = told ≡ Ok x
LineGives (Err e) told = LineFailsAs e told

abbrev pub LineGivesAs : {X Y : Type 0} → (X → Y) → Result X LineError → Result Y FaultKind → Type 0
LineGivesAs view (Ok x) told = told ≡ Ok (view x)
LineGivesAs view (Err e) told = LineFailsAs e told

-- the refusal of a text, if there is one, is such a fault
abbrev pub RefusedFor : ParseError → (ScriptError → Type 0) → Type 0
RefusedFor parse_errors.Memory P = Unit {0}
RefusedFor (parse_errors.Refused e) P = P e

abbrev pub IfRefused : {X : Type 0} → Result X ParseError → (ScriptError → Type 0) → Type 0
IfRefused (Ok x) P = Unit {0}
IfRefused (Err e) P = RefusedFor e P
