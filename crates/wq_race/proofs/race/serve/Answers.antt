use Rattle.wq_race.proofs.Serving.{serves_plain}
use Rattle.wq_race.proofs.race.serve.Goals as goal

pub returns : goal.returns
returns g c = serves_plain _ (λ w k f v none. none) c.args.worker c.serve.new.self c.requires.seat c.requires.idle c.serve.ensures.serves
