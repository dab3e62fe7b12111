-- What is said of a text of which several things are known.
use Rattle.wq_recording.proofs.Common.{ℕ, List, Option, Some, None, IfSome, Result, Ok, Err, IfOk, IfErr, ScriptError}
use Rattle.wq_text.specs.declared.fault.ParseError.TheVariants as parse_errors
use Rattle.wq_recording.specs.declared.error.CheckError.{CheckError}
use Rattle.wq_recording.specs.declared.error.CheckError.TheVariants as errors
use Rattle.wq_recording.specs.Judging.{IfTextRefused}
use Rattle.wq_recording.proofs.Reading.{refused_if}

pub says_nothing : (known : Option (List ℕ)) → IfSome known (λ text. Unit {0})
says_nothing None = tt
says_nothing (Some text) = tt

pub both_known : (known : Option (List ℕ)) (P Q : List ℕ → Type 0) → IfSome known P → IfSome known Q → IfSome known (λ text. P text × Q text)
both_known None P Q first second = tt
both_known (Some text) P Q first second = (first, second)

pub ok_by_two : {T E : Type 0} (r : Result T E) {P Q R : T → Type 0} → IfOk r P → IfOk r Q → ((x : T) → P x → Q x → R x) → IfOk r R
ok_by_two (Ok x) p q all = all x p q
ok_by_two (Err e) p q all = tt

pub ok_by_three : {T E : Type 0} (r : Result T E) {P Q R S : T → Type 0} → IfOk r P → IfOk r Q → IfOk r R
    → ((x : T) → P x → Q x → R x → S x) → IfOk r S
ok_by_three (Ok x) p q s all = all x p q s
ok_by_three (Err e) p q s all = tt

-- a refusal holds of the text, where the bytes are known; a reader that failed and want of memory say nothing
pub refused_text : (known : Option (List ℕ)) (P : List ℕ → ScriptError → Type 0) (Q : ScriptError → Type 0) (error : CheckError)
    → IfTextRefused error Q → ((x : ScriptError) → Q x → IfSome known (λ text. P text x)) → IfSome known (λ text. IfTextRefused error (P text))
refused_text known P Q (errors.Read e) fault all = says_nothing known
refused_text known P Q (errors.Text e) fault all = refused_if known P Q e fault all

-- what holds of what was found, or of the refusal, where the bytes are known, leads to what follows from it
pub ok_weaker : {X Y : Type 0} (r : Result X Y) (known : Option (List ℕ)) (P Q : X → List ℕ → Type 0) → ((x : X) (text : List ℕ) → P x text → Q x text)
    → IfOk r (λ x. IfSome known (P x)) → IfOk r (λ x. IfSome known (Q x))
ok_weaker (Ok x) None P Q all holds = tt
ok_weaker (Ok x) (Some text) P Q all holds = all x text holds
ok_weaker (Err e) known P Q all holds = tt

pub refused_weaker : {X : Type 0} (r : Result X CheckError) (known : Option (List ℕ)) (P Q : List ℕ → ScriptError → Type 0)
    → ((text : List ℕ) (e : ScriptError) → P text e → Q text e) → IfErr r (λ error. IfSome known (λ text. IfTextRefused error (P text)))
    → IfErr r (λ error. IfSome known (λ text. IfTextRefused error (Q text)))
refused_weaker (Ok x) known P Q all holds = tt
refused_weaker (Err error) None P Q all holds = tt
refused_weaker (Err (errors.Read e)) (Some text) P Q all holds = tt
refused_weaker (Err (errors.Text parse_errors.Memory)) (Some text) P Q all holds = tt
refused_weaker (Err (errors.Text (parse_errors.Refused e))) (Some text) P Q all holds = all text e holds
