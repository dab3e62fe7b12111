use Rattle.wq_calls.proofs.Held.{seen_unheld, queued_unheld, tested_unheld, refused_unheld, posted_unheld, given_unheld}
use Rattle.wq_calls.proofs.laws.unheld_stays.Goals as goal

pub returns : goal.returns
returns c = record {
  seen = seen_unheld;
  queued = queued_unheld;
  held = tested_unheld;
  still_unheld = refused_unheld;
  posted = posted_unheld;
  given = given_unheld;
}
