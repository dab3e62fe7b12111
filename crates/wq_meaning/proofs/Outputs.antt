-- The output of a script, a command further.
use Rattle.wq_meaning.proofs.Common.{◌≡◌, ℕ, ◌+◌, ◌<◌, List, [], ◌∷◌, ◌++◌, length, drop, get_or, refl, sym, ap, ◌∙◌, append_assoc, drop-cons, add-one}
use Rattle.wq_meaning.proofs.Common.{append-nil, Layout, Command, ScriptState, state_after, lines, output_from}

-- what is left at place i is its command and the rest
pub left_at : (commands : List Command) (i : ℕ) (d : Command) → i < length commands → drop i commands ≡ get_or commands i d ∷ drop (i + 1) commands
left_at commands i d lt = rw (add-one, drop-cons commands i d lt) refl

pub output_more : (layout : Layout) (s : ScriptState) (commands : List Command) (i : ℕ) (c : Command) (out new all : List ℕ)
    → drop i commands ≡ c ∷ drop (i + 1) commands
    → new ≡ out ++ lines layout s (state_after layout s c) c
    → out ++ output_from layout s (drop i commands) ≡ all → new ++ output_from layout (state_after layout s c) (drop (i + 1) commands) ≡ all
unfolding output_from
output_more layout s commands i c out new all left wrote so_far =
    ap (λ x. x ++ output_from layout (state_after layout s c) (drop (i + 1) commands)) wrote
    ∙ append_assoc out (lines layout s (state_after layout s c) c) (output_from layout (state_after layout s c) (drop (i + 1) commands))
    ∙ ap (λ cs. out ++ output_from layout s cs) (sym left) ∙ so_far

pub output_done : (layout : Layout) (s : ScriptState) (commands : List Command) (out all : List ℕ) → commands ≡ []
    → out ++ output_from layout s commands ≡ all → out ≡ all
unfolding output_from
output_done layout s commands out all none so_far = sym (append-nil out) ∙ ap (λ cs. out ++ output_from layout s cs) (sym none) ∙ so_far
