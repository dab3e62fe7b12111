use Rattle.wq_text.proofs.Common.{◌≡◌, arith, length, take, drop, ◌-◌, ◌+◌, length-drop, take_all}
use Rattle.wq_text.proofs.Texts.{no_line, one_line}
use Rattle.wq_text.proofs.text.cut_line.Goals as goal

pub returns-in-None : goal.returns-in-None
returns-in-None c = no_line c.args.text.now c.in-None.ensures

pub returns-in-Some : goal.returns-in-Some
returns-in-Some c =
    let line = one_line c.args.text.now c.in-Some.end c.in-Some.ensures in
    let whole : take (length c.args.text.now - (c.in-Some.end + 1)) (drop (c.in-Some.end + 1) c.args.text.now) ≡ drop
    (c.in-Some.end + 1) c.args.text.now = take_all _ _ (omega (arith, length-drop (c.in-Some.end + 1) c.args.text.now)) in
    rw (whole) (line.1, omega (arith, line.0, length-drop (c.in-Some.end + 1) c.args.text.now))
