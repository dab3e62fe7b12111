use Rattle.wq_script.proofs.Common.{◌≡◌, arith, ◌∙◌, ap, sym, ◌++◌, ◌∷◌, ◌+◌, ◌^◌, ◌<◌, ◌≤◌, drop, fold, List, length, get_or, string_bytes, subst, refl}
use Rattle.wq_script.proofs.Common.{drop_of_length-le, Layout, Command, opening_state, state_after, lines, output_from, Meets, size}
use Rattle.wq_text.specs.Fits.{Fits}
use Rattle.wq_meaning.proofs.Outputs.{left_at, output_more, output_done}
use Rattle.wq_script.proofs.Histories.{final_legal}
use Rattle.wq_script.proofs.output.execute_all.Goals as goal

pub loop-command-init : goal.loop-command-init
loop-command-init c = record {
  layout = c.requires.layout;
  told = (
    opening_state c.args.script.now.layout,
    c.requires.meets,
    omega arith,
    ap (λ x. x ++ output_from c.args.script.now.layout (opening_state c.args.script.now.layout) c.args.script.now.commands.items) c.new-out.ensures.bytes,
    refl,
  );
}

pub execute-requires-clause-fits : goal.execute-requires-clause-fits
execute-requires-clause-fits c =
    let commands : List Command = c.args.script.now.commands.items in
    let lt : c.loop-command.command-index < length commands = omega (arith, ap length c.commands-command-items.ensures.asked) in
    let same : c.command-item.result ≡ get_or commands c.loop-command.command-index c.command-item.result = c.command-item.is
    ∙ ap (λ xs. get_or xs c.loop-command.command-index c.command-item.result) c.commands-command-items.ensures.asked in
    let P : Command → Type 0 = λ k. Fits c.args.script.now.layout k in
    let Q : Layout → Type 0 = λ l. Fits l c.command-item.result in
    subst Q (sym c.loop-command.invariant.layout) (subst P (sym same) (c.args.script.now.fits c.loop-command.command-index c.command-item.result lt))

pub execute-requires-clause-ready : goal.execute-requires-clause-ready
execute-requires-clause-ready c =
    let told = c.loop-command.invariant.told in
    let lt : c.loop-command.command-index < length c.args.script.now.commands.items = omega (arith, ap length c.commands-command-items.ensures.asked) in
    (told.0, told.1, omega (arith, told.2, lt, c.args.script.now.few))

pub loop-command-preserved : goal.loop-command-preserved
loop-command-preserved c =
    let commands : List Command = c.args.script.now.commands.items in
    let lt : c.loop-command.command-index < length commands = omega (arith, ap length c.commands-command-items.ensures.asked) in
    let same : c.command-item.result ≡ get_or commands c.loop-command.command-index c.command-item.result = c.command-item.is
    ∙ ap (λ xs. get_or xs c.loop-command.command-index c.command-item.result) c.commands-command-items.ensures.asked in
    let left : drop c.loop-command.command-index commands ≡ c.command-item.result ∷ drop (c.loop-command.command-index + 1) commands =
    left_at commands c.loop-command.command-index c.command-item.result lt ∙ ap (λ x. x ∷ drop (c.loop-command.command-index + 1) commands) (sym same) in
    let does = c.in_ok-execute.ensures in
    let told = c.loop-command.invariant.told in
    let few : size told.0 ≤ 2 ^ 60 = omega (arith, told.2, lt, c.args.script.now.few) in
    let P : Layout → Type 0 = λ l. Meets c.execute.new.self (state_after l told.0 c.command-item.result) in
    let Q : Layout → Type 0 =
    λ l. string_bytes c.execute.new.out
    ≡ string_bytes c.loop-command.out ++ lines l told.0 (state_after l told.0 c.command-item.result) c.command-item.result in
    let R : Layout → Type 0 = λ l. size (state_after l told.0 c.command-item.result) ≤ size told.0 + 2 ^ 36 in
    let room : R c.args.script.now.layout = subst R c.loop-command.invariant.layout (does.room told.0 told.1) in
    record {
      layout = does.layout ∙ c.loop-command.invariant.layout;
      told = (
        state_after c.args.script.now.layout told.0 c.command-item.result,
        subst P c.loop-command.invariant.layout (does.meets told.0 told.1),
        omega (arith, room, told.2),
        output_more c.args.script.now.layout told.0 commands c.loop-command.command-index c.command-item.result _ _ _ left
            (subst Q c.loop-command.invariant.layout (does.lines told.0 told.1 few)) told.3,
        ap (λ cs. fold (state_after c.args.script.now.layout) told.0 cs) (sym left) ∙ told.4,
      );
    }

pub returns-clause-output : goal.returns-clause-output
returns-clause-output c =
    output_done c.args.script.now.layout c.loop-command.invariant.told.0 _ _ _
    (drop_of_length-le c.args.script.now.commands.items (omega (arith, ap length c.commands-command-items.ensures.asked))) c.loop-command.invariant.told.3

pub returns-clause-legal : goal.returns-clause-legal
returns-clause-legal c =
    final_legal c.loop-command.engine c.args.script.now.layout c.loop-command.invariant.told.0 c.args.script.now.commands.items
    _ c.loop-command.invariant.layout
    c.loop-command.invariant.told.1 (drop_of_length-le c.args.script.now.commands.items
    (omega (arith, ap length c.commands-command-items.ensures.asked))) c.loop-command.invariant.told.4
