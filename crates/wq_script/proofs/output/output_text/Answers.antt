use Rattle.wq_script.proofs.Common.{◌∙◌, subst, Layout, opening_state, Meets}
use Rattle.wq_script.proofs.output.output_text.Goals as goal

pub execute_all-requires : goal.execute_all-requires
execute_all-requires c =
    let P : Layout → Type 0 = λ l. Meets c.in_ok-engine.engine (opening_state l) in
    record {
      layout = c.in_ok-engine.ensures.layout ∙ c.layout.ensures.numbers;
      meets = subst P c.layout.ensures.numbers c.in_ok-engine.ensures.meets;
    }

pub returns : goal.returns
returns c = record { output = c.execute_all.ensures.output; legal = c.execute_all.ensures.legal }
