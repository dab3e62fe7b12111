-- What no longer changes once the queue is shut, and where nothing waits.
use Rattle.wq_worker.proofs.Common.{◌≡◌, ℕ, List, length, take, drop, None, slice_get, sym, ap, ◌∙◌, arith, Event, Take, accepted}
use Rattle.wq_worker.proofs.Common.{begun, IsShut, shut_from_IsShut, batch, next_of, NothingWaits}
use Rattle.std.proofs.lemmas.List.{take_all}
use Rattle.wq_words.proofs.Listed.{taken_shut}
use Rattle.wq_live.specs.Batch.{TakesAll}
use Rattle.wq_worker.specs.Seats.{at_take, at_all}
use Rattle.wq_words.proofs.Lists.{slice_get-drop}

pub batch-shut : (h : List Event) → IsShut h → batch h ≡ drop (length (begun h)) (accepted h)
batch-shut h shut =
    ap (λ (n : ℕ). drop (length (begun h)) (take n (accepted h))) (taken_shut h (shut_from_IsShut h shut)) ∙ ap (drop (length (begun h)))
    (take_all (length (accepted h)) (accepted h) (omega arith))

pub nothing_shut : (h : List Event) → IsShut h → next_of h ≡ None → NothingWaits h
nothing_shut h shut none =
    at_all shut (sym (slice_get-drop (length (begun h)) (accepted h)) ∙ (ap (λ (z : List ℕ). slice_get z 0) (sym (batch-shut h shut)) ∙ none))

pub nothing_taken : (n : ℕ) (h : List Event) → TakesAll Take n h → next_of h ≡ None → NothingWaits h
nothing_taken n h t none =
    at_take t.before t.after t.is t.last (sym (slice_get-drop (length (begun t.before)) (accepted t.before)) ∙
    (ap (λ (z : List ℕ). slice_get z 0) (sym t.batch_is) ∙ none))
