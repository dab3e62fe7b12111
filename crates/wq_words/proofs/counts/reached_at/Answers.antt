use Rattle.wq_words.proofs.Common.{sym, ap, ◌∙◌, arith, length, slice_get, slice_get-get_or, slice_get_past, take_all}
use Rattle.wq_words.specs.Milestone.{reached_by, reached}
use Rattle.wq_words.proofs.Counted.{mapped_some, mapped_none}
use Rattle.wq_words.proofs.Ranks.{filter_map_rank}
use Rattle.wq_words.proofs.counts.reached_at.Goals.{in-Some+else-before-place, in_default}
use Rattle.wq_words.proofs.counts.reached_at.Goals as goal

pub loop-event-preserved : goal.loop-event-preserved
loop-event-preserved c =
    let h = c.args.history.now in
    let i = c.loop-event.event-index in
    let here = c.loop-event-test.true in
    let f = reached_by c.args.milestone in
    elim c.match-number.branch [
      | in-Some+else-before-place w ↦
          rw w.before-is (mapped_some f h i _ here c.loop-event.invariant.0 (sym w.in-Some.is ∙ c.number.ensures), omega (arith, w.if-before-place.false))
      | in_default w ↦ rw w.before-is (mapped_none f h i _ here c.loop-event.invariant.0 (sym w.in_default.is ∙ c.number.ensures), c.loop-event.invariant.1)
    ]

pub returns-then-before-place : goal.returns-then-before-place
returns-then-before-place c =
    let h = c.args.history.now in
    let i = c.loop-event.event-index in
    let place = sym c.if-before-place.true ∙ c.loop-event.invariant.0.0 in
    let there = slice_get-get_or h i _ c.loop-event-test.true in
    sym (filter_map_rank (reached_by c.args.milestone) h i _ c.in-Some.number there (sym c.number.ensures ∙ c.in-Some.is))
    ∙ ap (slice_get (reached c.args.milestone h)) (sym place)

pub returns : goal.returns
returns c =
    let h = c.args.history.now in
    let whole = ap (λ es. length (reached c.args.milestone es)) (take_all c.loop-event.event-index h c.loop-event-test.false) in
    sym (slice_get_past (reached c.args.milestone h) c.args.place (omega (arith, whole)))
