use Rattle.wq_race.proofs.Common.{arith}
use Rattle.wq_race.proofs.Queueing.{vain_none, vain_more, last_stopped, last_answer}
use Rattle.wq_race.proofs.race.try_stop.Goals as goal

pub loop-init : goal.loop-init
loop-init c = vain_none c.args.program.now

pub returns-in_default-clause-few : goal.returns-in_default-clause-few
returns-in_default-clause-few c =
    last_stopped c.loop.counter c.request_stop.result c.args.program.now c.loop.program c.request_stop.new.self
    (omega (arith, c.loop-test.true)) c.loop.invariant c.request_stop.ensures.answer

pub returns-in_default-clause-answer : goal.returns-in_default-clause-answer
returns-in_default-clause-answer c =
    last_answer c.loop.counter c.request_stop.result c.args.program.now c.loop.program c.request_stop.new.self
    (omega (arith, c.loop-test.true)) c.loop.invariant c.request_stop.ensures.answer

pub loop-preserved : goal.loop-preserved
loop-preserved c =
    vain_more c.loop.counter c.request_stop.result c.args.program.now c.loop.program c.request_stop.new.self c.in-Contended.is c.loop.invariant
    c.request_stop.ensures.answer

pub returns-clause-few : goal.returns-clause-few
returns-clause-few c =
    last_stopped c.loop.counter c.request_stop-2.result c.args.program.now c.loop.program c.request_stop-2.new.self
    (omega (arith, c.loop.auto.counter-end)) c.loop.invariant c.request_stop-2.ensures.answer

pub returns-clause-answer : goal.returns-clause-answer
returns-clause-answer c =
    last_answer c.loop.counter c.request_stop-2.result c.args.program.now c.loop.program c.request_stop-2.new.self
    (omega (arith, c.loop.auto.counter-end)) c.loop.invariant c.request_stop-2.ensures.answer
