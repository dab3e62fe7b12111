-- The history that all commands leave.
use Rattle.wq_script.proofs.Common.{◌≡◌, sym, ap, ◌∙◌, subst, fold, List, [], Layout, IsLegal, Command, ScriptState, state_after, Engine, Meets, IsWider}
use Rattle.wq_words.proofs.Headlines.{keeps_headline}
use Rattle.wq_meaning.specs.Order.{final_state}
use Rattle.wq_script.specs.Output.{HasLegalHistory}

-- the state in which an engine is at the end is the last one
pub final_legal : (e : Engine) (layout : Layout) (s : ScriptState) (commands left : List Command) → e.layout ≡ layout → Meets e s → left ≡ []
    → fold (state_after layout) s left ≡ final_state layout commands → HasLegalHistory layout commands
final_legal e layout s commands left same meets none goes_on =
    let at_end : s ≡ final_state layout commands = ap (λ cs. fold (state_after layout) s cs) (sym none) ∙ goes_on in
    let P : ScriptState → Type 0 = λ t. IsLegal meets.seated.wide t.history in
    let Q : Layout → Type 0 = λ l. IsWider l meets.seated.wide in
    let legal : P (final_state layout commands) = subst P at_end meets.seated.legal in
    record {
      wide = meets.seated.wide;
      wider = subst Q same meets.seated.wider;
      legal = legal;
      headline =
          keeps_headline meets.seated.wide (final_state layout commands).history legal;
    }
