-- What the marks before say against a mark.
use Rattle.std.specs.Prelude.{◌≡◌, ◌≢◌, ◌<◌, List, Some, Contains}
use Rattle.wq_words.specs.declared.layout.Layout.{Layout}
use Rattle.wq_check.specs.declared.cause.Cause.{Cause}
use Rattle.wq_check.specs.declared.cause.Cause.TheVariants.{Pending, Runs, NothingRuns, NotWaiting, Next}
use Rattle.wq_check.specs.declared.cause.MarkError.{MarkError}
use Rattle.wq_check.specs.declared.cause.MarkError.TheVariants.{NoItem, NotAllowed}
use Rattle.wq_check.specs.declared.mark.Mark.{Mark}
use Rattle.wq_check.specs.declared.mark.Mark.TheVariants.{Queue, Start, End}
use Rattle.wq_check.specs.Trace.{IsAtRest, executing, next_start, unstarted, surely_unbegun, MayShow, number_of}

-- the first part of the mark's line in `MayShow` that fails after the marks t
abbrev pub HasMarkCause : List Mark → Mark → Cause → Type 0
HasMarkCause t (Queue k) Pending = Contains (surely_unbegun t) k
HasMarkCause t (Start k) (Runs j) = executing t ≡ Some j
HasMarkCause t (Start k) NotWaiting = IsAtRest t × (¬ Contains (unstarted t) k)
HasMarkCause t (Start k) (Next j) = IsAtRest t × Contains (unstarted t) k × (next_start t ≡ Some j) × (j ≢ k)
HasMarkCause t (End k) NothingRuns = IsAtRest t
HasMarkCause t (End k) (Runs j) = (executing t ≡ Some j) × (j ≢ k)
HasMarkCause t _ _ = ⊥

-- why the mark may not be shown after the marks t: it is of no item, or else the cause
abbrev pub HasMarkError : Layout → List Mark → Mark → MarkError → Type 0
HasMarkError layout t m NoItem = ¬ (number_of m < layout.items)
HasMarkError layout t m (NotAllowed cause) = (number_of m < layout.items) × (¬ MayShow t m) × HasMarkCause t m cause
