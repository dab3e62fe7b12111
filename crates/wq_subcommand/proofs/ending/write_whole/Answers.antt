use Rattle.std.proofs.Common.{◌≡◌, ℕ, ◌-◌, List, ◌++◌, length, take, drop, sym, ap, ◌∙◌, append_assoc, take-append-drop}
use Rattle.std.proofs.lemmas.List.{take_rest}
use Rattle.std.proofs.KnownBytes.{Appends-trans, Appends-kept}
use Rattle.wq_subcommand.proofs.ending.write_whole.Goals.{in-Ok, in-Err+else-ne}
use Rattle.wq_subcommand.proofs.ending.write_whole.Goals as goal

-- what a write takes goes from the front of the rest to the end of what was taken
goes_over : (all taken rest : List ℕ) (n : ℕ) → all ≡ taken ++ rest → all ≡ (taken ++ take n rest) ++ take (length rest - n) (drop n rest)
goes_over all taken rest n is =
    is ∙ ap (λ l. taken ++ l) (sym (take-append-drop n rest)) ∙ sym (append_assoc taken (take n rest) (drop n rest))
    ∙ ap (λ l. (taken ++ take n rest) ++ l) (sym (take_rest rest n))

pub loop-preserved : goal.loop-preserved
loop-preserved g c =
    let (taken, split, appended) = c.loop.invariant in
    let rest = c.loop.rest.now in
    elim c.match-write.branch [
      | in-Ok w ↦
          let n = w.in-Ok.count in
          let now = taken ++ take n rest in
          (now, goes_over _ taken rest n split ∙ ap (λ b. now ++ b.now) (sym w.rest-is), Appends-trans _ _ _ _ _ appended w.in-Ok.ensures.bytes)
      | in-Err+else-ne w ↦ (taken, split ∙ ap (λ b. taken ++ b.now) (sym w.rest-is), Appends-kept _ _ _ _ appended w.in-Err.ensures.bytes)
    ]
