use Rattle.wq_text.proofs.Common.{arith, sym, ◌∙◌, ◌<◌, length, inl, inr, eqb-true}
use Rattle.wq_text.proofs.Words.{no_empty, no_plus, no_zero, nonempty, parsed}
use Rattle.wq_text.proofs.word.number_of.Goals as goal
use Rattle.wq_text.proofs.word.number_of.Goals.{else-digits-gt1-via-then-digits-gt1+else-first-eq48, else-digits-gt1-via-else-digits-gt1}

pub returns-then-is_empty : goal.returns-then-is_empty
returns-then-is_empty c =
    rw (← c.as_bytes-digits.ensures.value) (no_empty c.as_bytes-digits.result.now (eqb-true _ _ (sym c.is_empty.ensures ∙ c.if-is_empty.true)))

pub returns-then-first-eq43 : goal.returns-then-first-eq43
returns-then-first-eq43 c =
    rw (← c.as_bytes-digits.ensures.value) (no_plus c.as_bytes-digits.result.now
    (nonempty c.as_bytes-digits.result.now (sym c.is_empty.ensures ∙ c.if-is_empty.false)) c.if-first-eq43.true)

pub returns-then-first-eq48 : goal.returns-then-first-eq48
returns-then-first-eq48 c = rw (← c.as_bytes-digits.ensures.value) (no_zero c.as_bytes-digits.result.now (omega arith) c.if-first-eq48.true)

pub returns : goal.returns
returns c =
    let same = c.as_bytes-digits.ensures.value in
    let some : 0 < length c.args.word.now = nonempty c.args.word.now (rw same at (sym c.is_empty.ensures ∙ c.if-is_empty.false)) in
    c.ok.ensures.value ∙ parsed c.args.word.now c.parse.result c.parse.ensures.value.0 some (rw same at c.if-first-eq43.false)
    (elim c.else-digits-gt1.branch [
      | else-digits-gt1-via-then-digits-gt1+else-first-eq48 w ↦ inr (rw same at w.if-first-eq48.false)
      | else-digits-gt1-via-else-digits-gt1 w ↦ inl (omega (arith, w.if-digits-gt1.false, c.as_bytes-digits.ensures.len))
    ])
