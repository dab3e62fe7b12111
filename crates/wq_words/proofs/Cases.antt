-- Options and results by their cases: what equal results hold, which are never equal, and what a test says of either.
use Rattle.std.proofs.Common.{◌≡◌, false, Option, Some, None, Result, Ok, Err, is_some, refl}

pub same_ok : {E B : Type 0} {b c : B} → ◌≡◌ {A = Result B E} (Ok b) (Ok c) → b ≡ c
same_ok e = cc

pub same_err : {E B : Type 0} {b c : E} → ◌≡◌ {A = Result B E} (Err b) (Err c) → b ≡ c
same_err e = cc

pub ok_is_no_err : {E B : Type 0} {b : B} {e : E} → ◌≡◌ {A = Result B E} (Ok b) (Err e) → ⊥
ok_is_no_err e = cc

pub none_told : {A : Type 0} (o : Option A) → is_some o ≡ false → o ≡ None
none_told None is = refl
none_told (Some x) is = absurd (cc)
