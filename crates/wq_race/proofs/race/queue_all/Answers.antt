use Rattle.wq_race.proofs.Running.{untouched_open, untouched_idle, rooms}
use Rattle.wq_race.proofs.race.queue_all.Goals as goal

pub start_worker-serving-requires-clause-open : goal.start_worker-serving-requires-clause-open
start_worker-serving-requires-clause-open g c κs within = untouched_open c.args.team.worker.seen c.requires.untouched

pub start_worker-serving-requires-clause-idle : goal.start_worker-serving-requires-clause-idle
start_worker-serving-requires-clause-idle g c κs within = untouched_idle c.args.team.worker.seen c.requires.untouched

pub run_senders-senders-requires-after_bounds : goal.run_senders-senders-requires-after_bounds
run_senders-senders-requires-after_bounds g c κs within = rooms c.args.plan c.args.team c.requires
