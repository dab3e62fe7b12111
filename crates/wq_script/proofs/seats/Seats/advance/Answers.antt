use Rattle.wq_script.proofs.Common.{◌∙◌, List, ap, subst, append-nil, Event, Seated}
use Rattle.wq_script.proofs.Asked.{worker_draining}
use Rattle.wq_script.proofs.Delayed.{goes_nowhere}
use Rattle.wq_script.proofs.Moved.{posted_where, advanced_so}
use Rattle.wq_script.proofs.seats.Seats.advance.Goals as goal

pub returns-in-Ok : goal.returns-in-Ok
returns-in-Ok c = λ layout h g. let told = c.in-Ok.ensures.answer in
    let so = advanced_so layout c.args.self.now c.publish.new.self h g c.advance-advanced.new.self c.publish.ensures.delay c.fit.ensures.fit
    c.args.tick _ _ told.1 in
    let drains = worker_draining layout c.args.self.now h g in
    (told.0, c.in_ok-posted.ensures ∙ ap (posted_where c.args.tick c.args.self.now.delay.table) drains, so)

pub returns-in-Err : goal.returns-in-Err
returns-in-Err c = λ layout h g. let told = c.in-Err.ensures.answer in
    let l = goes_nowhere layout c.args.self.now c.publish.new.self h g c.advance-advanced.new.self c.publish.ensures.delay told.1 c.fit.ensures.fit in (
      told.0,
      record { seated = subst (λ (x : List Event). Seated layout c.publish.new.self x) (append-nil h) l.seated; table = l.table; work = l.work },
    )
