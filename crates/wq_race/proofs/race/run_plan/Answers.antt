use Rattle.wq_race.proofs.race.run_plan.Goals as goal

pub returns-clause-whole : goal.returns-clause-whole
returns-clause-whole g c = (c.in_ok-outcome.ensures.told c.args.plan c.in_ok-team-2.ensures.raced).0

pub returns-clause-told : goal.returns-clause-told
returns-clause-told g c = record {
  worker = c.in_ok-team-2.team.worker;
  book = c.in_ok-outcome._book;
  ledgers = c.in_ok-outcome._ledgers.items;
  sized = c.in_ok-team-2.ensures.raced.layout;
  tells = (c.in_ok-outcome.ensures.told c.args.plan c.in_ok-team-2.ensures.raced).1;
}
