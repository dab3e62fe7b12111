use Rattle.wq_meaning.proofs.Common.{ap, ◌∙◌, sym, subst, List, ◌++◌, Event, Layout}
use Rattle.wq_words.specs.Legal.{IsLegal}
use Rattle.wq_meaning.proofs.schedule_history.steps_history.Goals as goal

pub returns-clause-history : goal.returns-clause-history
returns-clause-history c = record {
  machine = c.in_ok-core.core;
  passed = c.in_ok-core.ensures.passed;
  history_is = c.in_ok-extend_from_slice.ensures.items
      ∙ (ap (λ (h : List Event). h ++ c.history.result.now) c.new-events.ensures.items ∙ c.history.ensures.events);
}

pub returns-clause-legal : goal.returns-clause-legal
returns-clause-legal c =
    let same = c.in_ok-extend_from_slice.ensures.items
    ∙ (ap (λ (h : List Event). h ++ c.history.result.now) c.new-events.ensures.items ∙ c.history.ensures.events) in
    subst (λ (h : List Event). IsLegal c.args.schedule.now.layout h) (sym same)
    (subst (λ (l : Layout). IsLegal l c.in_ok-core.core.history) c.in_ok-core.ensures.same c.sound.ensures.holds.legal)
