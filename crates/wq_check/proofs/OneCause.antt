-- An event has one cause at most, and none where it goes on legally.
use Rattle.wq_check.proofs.Common.{◌≡◌, ℕ, ◌∷◌, ◌++◌, List, length, sym, ap, ◌∙◌, refl, arith, Layout}
use Rattle.wq_check.specs.declared.cause.Cause.{Cause}
use Rattle.std.proofs.lemmas.Option.{same_Some}
use Rattle.std.proofs.lemmas.Option.{slice_get_within}
use Rattle.wq_words.specs.declared.event.Why.{Why}
use Rattle.wq_words.specs.declared.event.Why.TheVariants as reason
use Rattle.wq_words.specs.declared.event.Event.{Event}
use Rattle.wq_words.specs.declared.event.Event.TheVariants.{Hold, Busy, Push, Back, Take, Close, Drain, Resume, Begin, End, Chain, ChainBusy, Rest}
use Rattle.wq_words.proofs.Growing.{slice_get_last, take_length}
use Rattle.wq_check.specs.declared.cause.Cause.TheVariants.{Pending, Idle, NotHeld, Closed, Draining, NotDraining, NeverDrained, Open, Runs, NothingRuns, NotWaiting, Next, NotEnded}
use Rattle.wq_check.specs.declared.mark.Mark.{Mark}
use Rattle.wq_check.specs.declared.mark.Mark.TheVariants as mark
use Rattle.wq_check.specs.Causes.{HasCause}
use Rattle.wq_check.specs.MarkCauses.{HasMarkCause}
use Rattle.wq_check.specs.Trace.{IsLegalTrace, MayShow, started, returned}
use Rattle.wq_words.proofs.Closed.{closed_shuts}
use Rattle.wq_words.proofs.Running.{runs_from_running}

closed_or_drained : (why : Why) → why ≡ reason.Closed → why ≡ reason.Draining → ⊥
closed_or_drained why p q = cc

pub one_event_cause : (h : List Event) (e : Event) (c d : Cause) → HasCause h e c → HasCause h e d → c ≡ d
one_event_cause h (Hold s k) Pending Pending p q = refl
one_event_cause h (Hold s k) Pending _ p q = absurd q
one_event_cause h (Busy s k) Idle Idle p q = refl
one_event_cause h (Busy s k) Idle _ p q = absurd q
one_event_cause h (Push s k) NotHeld NotHeld p q = refl
one_event_cause h (Push s k) NotHeld Closed p q = absurd (p q.0)
one_event_cause h (Push s k) NotHeld Draining p q = absurd (p q.0)
one_event_cause h (Push s k) NotHeld _ p q = absurd q
one_event_cause h (Push s k) Closed NotHeld p q = absurd (q p.0)
one_event_cause h (Push s k) Closed Closed p q = refl
one_event_cause h (Push s k) Closed Draining p q = absurd (q.1.1 p.1)
one_event_cause h (Push s k) Closed _ p q = absurd q
one_event_cause h (Push s k) Draining NotHeld p q = absurd (q p.0)
one_event_cause h (Push s k) Draining Closed p q = absurd (p.1.1 q.1)
one_event_cause h (Push s k) Draining Draining p q = refl
one_event_cause h (Push s k) Draining _ p q = absurd q
one_event_cause h (Back s k why) NotHeld NotHeld p q = refl
one_event_cause h (Back s k why) NotHeld Open p q = absurd (p q.0)
one_event_cause h (Back s k why) NotHeld NeverDrained p q = absurd (p q.0)
one_event_cause h (Back s k why) NotHeld _ p q = absurd q
one_event_cause h (Back s k why) Open NotHeld p q = absurd (q p.0)
one_event_cause h (Back s k why) Open Open p q = refl
one_event_cause h (Back s k why) Open NeverDrained p q = absurd (closed_or_drained why p.1 q.1)
one_event_cause h (Back s k why) Open _ p q = absurd q
one_event_cause h (Back s k why) NeverDrained NotHeld p q = absurd (q p.0)
one_event_cause h (Back s k why) NeverDrained Open p q = absurd (closed_or_drained why q.1 p.1)
one_event_cause h (Back s k why) NeverDrained NeverDrained p q = refl
one_event_cause h (Back s k why) NeverDrained _ p q = absurd q
one_event_cause h Take Closed Closed p q = refl
one_event_cause h Take Closed Draining p q = absurd (q.1 p)
one_event_cause h Take Closed _ p q = absurd q
one_event_cause h Take Draining Closed p q = absurd (p.1 q)
one_event_cause h Take Draining Draining p q = refl
one_event_cause h Take Draining _ p q = absurd q
one_event_cause h Drain Closed Closed p q = refl
one_event_cause h Drain Closed Draining p q = absurd (q.1 p)
one_event_cause h Drain Closed _ p q = absurd q
one_event_cause h Drain Draining Closed p q = absurd (p.1 q)
one_event_cause h Drain Draining Draining p q = refl
one_event_cause h Drain Draining _ p q = absurd q
one_event_cause h Resume NotDraining NotDraining p q = refl
one_event_cause h Resume NotDraining NotEnded p q = absurd (p q.0)
one_event_cause h Resume NotDraining _ p q = absurd q
one_event_cause h Resume NotEnded NotDraining p q = absurd (q p.0)
one_event_cause h Resume NotEnded NotEnded p q = refl
one_event_cause h Resume NotEnded _ p q = absurd q
one_event_cause h Close Closed Closed p q = refl
one_event_cause h Close Closed _ p q = absurd q
one_event_cause h (Begin k) (Runs i) (Runs j) p q = ap (λ n. Runs n) (same_Some i j (sym p ∙ q))
one_event_cause h (Begin k) (Runs i) NotWaiting p q = absurd (q.0 (runs_from_running h i p))
one_event_cause h (Begin k) (Runs i) (Next j) p q = absurd (q.0 (runs_from_running h i p))
one_event_cause h (Begin k) (Runs i) _ p q = absurd q
one_event_cause h (Begin k) NotWaiting (Runs j) p q = absurd (p.0 (runs_from_running h j q))
one_event_cause h (Begin k) NotWaiting NotWaiting p q = refl
one_event_cause h (Begin k) NotWaiting (Next j) p q = absurd (p.1 q.1)
one_event_cause h (Begin k) NotWaiting _ p q = absurd q
one_event_cause h (Begin k) (Next i) (Runs j) p q = absurd (p.0 (runs_from_running h j q))
one_event_cause h (Begin k) (Next i) NotWaiting p q = absurd (q.1 p.1)
one_event_cause h (Begin k) (Next i) (Next j) p q = ap (λ n. Next n) (same_Some i j (sym p.2 ∙ q.2))
one_event_cause h (Begin k) (Next i) _ p q = absurd q
one_event_cause h (End k) NothingRuns NothingRuns p q = refl
one_event_cause h (End k) NothingRuns (Runs j) p q = absurd (p (runs_from_running h j q.0))
one_event_cause h (End k) NothingRuns _ p q = absurd q
one_event_cause h (End k) (Runs i) NothingRuns p q = absurd (q (runs_from_running h i p.0))
one_event_cause h (End k) (Runs i) (Runs j) p q = ap (λ n. Runs n) (same_Some i j (sym p.0 ∙ q.0))
one_event_cause h (End k) (Runs i) _ p q = absurd q
one_event_cause h (Chain k) Open Open p q = refl
one_event_cause h (Chain k) Open NothingRuns p q = absurd (p q.0)
one_event_cause h (Chain k) Open Pending p q = absurd (p q.0)
one_event_cause h (Chain k) Open _ p q = absurd q
one_event_cause h (Chain k) NothingRuns Open p q = absurd (q p.0)
one_event_cause h (Chain k) NothingRuns NothingRuns p q = refl
one_event_cause h (Chain k) NothingRuns Pending p q = absurd (p.1 q.1)
one_event_cause h (Chain k) NothingRuns _ p q = absurd q
one_event_cause h (Chain k) Pending Open p q = absurd (q p.0)
one_event_cause h (Chain k) Pending NothingRuns p q = absurd (q.1 p.1)
one_event_cause h (Chain k) Pending Pending p q = refl
one_event_cause h (Chain k) Pending _ p q = absurd q
one_event_cause h (ChainBusy k) Open Open p q = refl
one_event_cause h (ChainBusy k) Open NothingRuns p q = absurd (p q.0)
one_event_cause h (ChainBusy k) Open Idle p q = absurd (p q.0)
one_event_cause h (ChainBusy k) Open _ p q = absurd q
one_event_cause h (ChainBusy k) NothingRuns Open p q = absurd (q p.0)
one_event_cause h (ChainBusy k) NothingRuns NothingRuns p q = refl
one_event_cause h (ChainBusy k) NothingRuns Idle p q = absurd (p.1 q.1)
one_event_cause h (ChainBusy k) NothingRuns _ p q = absurd q
one_event_cause h (ChainBusy k) Idle Open p q = absurd (q p.0)
one_event_cause h (ChainBusy k) Idle NothingRuns p q = absurd (q.1 p.1)
one_event_cause h (ChainBusy k) Idle Idle p q = refl
one_event_cause h (ChainBusy k) Idle _ p q = absurd q
one_event_cause h Rest Closed Closed p q = refl
one_event_cause h Rest Closed Draining p q = absurd (q.1 p)
one_event_cause h Rest Closed NotEnded p q = absurd (q.0 (closed_shuts h p))
one_event_cause h Rest Closed _ p q = absurd q
one_event_cause h Rest Draining Closed p q = absurd (p.1 q)
one_event_cause h Rest Draining Draining p q = refl
one_event_cause h Rest Draining NotEnded p q = absurd (q.0 p.0)
one_event_cause h Rest Draining _ p q = absurd q
one_event_cause h Rest NotEnded Closed p q = absurd (p.0 (closed_shuts h q))
one_event_cause h Rest NotEnded Draining p q = absurd (p.0 q.0)
one_event_cause h Rest NotEnded NotEnded p q = refl
one_event_cause h Rest NotEnded _ p q = absurd q
one_event_cause h _ _ _ p q = absurd p

-- a function is seen to run, or none is
executes : (t : List Mark) (k : ℕ) → length (started t) ≡ length (returned t) → HasMarkCause t (mark.Start 0) (Runs k) → ⊥
executes t k rests runs = omega (arith, rests, slice_get_within (started t) (length (returned t)) k runs)

pub one_mark_cause : (t : List Mark) (m : Mark) (c d : Cause) → HasMarkCause t m c → HasMarkCause t m d → c ≡ d
one_mark_cause t (mark.Queue k) Pending Pending p q = refl
one_mark_cause t (mark.Queue k) Pending _ p q = absurd q
one_mark_cause t (mark.Start k) (Runs i) (Runs j) p q = ap (λ n. Runs n) (same_Some i j (sym p ∙ q))
one_mark_cause t (mark.Start k) (Runs i) NotWaiting p q = absurd (executes t i q.0 p)
one_mark_cause t (mark.Start k) (Runs i) (Next j) p q = absurd (executes t i q.0 p)
one_mark_cause t (mark.Start k) (Runs i) _ p q = absurd q
one_mark_cause t (mark.Start k) NotWaiting (Runs j) p q = absurd (executes t j p.0 q)
one_mark_cause t (mark.Start k) NotWaiting NotWaiting p q = refl
one_mark_cause t (mark.Start k) NotWaiting (Next j) p q = absurd (p.1 q.1)
one_mark_cause t (mark.Start k) NotWaiting _ p q = absurd q
one_mark_cause t (mark.Start k) (Next i) (Runs j) p q = absurd (executes t j p.0 q)
one_mark_cause t (mark.Start k) (Next i) NotWaiting p q = absurd (q.1 p.1)
one_mark_cause t (mark.Start k) (Next i) (Next j) p q = ap (λ n. Next n) (same_Some i j (sym p.2 ∙ q.2))
one_mark_cause t (mark.Start k) (Next i) _ p q = absurd q
one_mark_cause t (mark.End k) NothingRuns NothingRuns p q = refl
one_mark_cause t (mark.End k) NothingRuns (Runs j) p q = absurd (executes t j p q.0)
one_mark_cause t (mark.End k) NothingRuns _ p q = absurd q
one_mark_cause t (mark.End k) (Runs i) NothingRuns p q = absurd (executes t i q p.0)
one_mark_cause t (mark.End k) (Runs i) (Runs j) p q = ap (λ n. Runs n) (same_Some i j (sym p.0 ∙ q.0))
one_mark_cause t (mark.End k) (Runs i) _ p q = absurd q
one_mark_cause t _ _ _ p q = absurd p

-- the mark behind a beginning of a legal trace may be shown there
pub shown_next : (layout : Layout) (t : List Mark) (m : Mark) (rest : List Mark) → IsLegalTrace layout (t ++ m ∷ rest) → MayShow t m
shown_next layout t m rest legal = let here = rw (take_length t (m ∷ rest)) at (legal (length t) m (slice_get_last t m rest)) in here.1
