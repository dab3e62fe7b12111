use Rattle.wq_race.proofs.Common.{◌∙◌, refl, sym}
use Rattle.wq_race.proofs.Destroying.{goes_still, goes_on, ends_on}
use Rattle.wq_race.proofs.Serving.{leaves_on, destroys_on}
use Rattle.wq_race.proofs.outcome.destroy.Goals as goal

pub loop-init : goal.loop-init
loop-init g c = goes_still c.args.worker c.requires.idle c.requires.legal

pub loop-preserved : goal.loop-preserved
loop-preserved g c =
    let now = c.loop.worker in let gone = c.loop.invariant in
    goes_on c.args.worker now c.in-Err.unfinished.worker gone (leaves_on _ (λ w k f v none. none) 4294967295 now
    c.in-Err.unfinished.worker _ (λ is. c.requires.seat (sym gone.same.number_is ∙ is)) gone.idle gone.legal c.in-Err.ensures.outcome)

pub returns-in-Ok : goal.returns-in-Ok
returns-in-Ok g c =
    let now = c.loop.worker in let gone = c.loop.invariant in
    ends_on c.args.worker now c.in-Ok.work c.in-Ok.book gone (destroys_on _ (λ w k f v none. none) _ (λ w. refl) 4294967295 now c.in-Ok.work
    c.in-Ok.book (λ is. c.requires.seat (sym gone.same.number_is ∙ is)) gone.idle gone.legal c.in-Ok.ensures.outcome c.legal.ensures.own_ledger)
