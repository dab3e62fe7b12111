-- A drain that resumes: how it begins and ends, and that executions do neither.
use Rattle.std.specs.List.{AllByRecursion}
use Rattle.wq_meaning.proofs.Common.{◌≡◌, ℕ, zero, suc, ◌≤◌, ◌==◌, ◌&&◌, Bool, true, false, not, nat_le, List, [], ◌∷◌, ◌++◌, length, fold, refl, sym, ap, ◌∙◌}
use Rattle.wq_meaning.proofs.Common.{arith, Option, Some, None, if◌then◌else◌, append-nil, append_assoc, length-append, ArrayVec, Event, Hold, Busy, Push, Back}
use Rattle.wq_meaning.proofs.Common.{Take, Drain, Resume, Begin, End, Chain, ChainBusy, begun, ended, closed, shut, draining, pending, taken, next}
use Rattle.wq_meaning.proofs.Common.{follow_of, take_events, follow_events, after_follow, after_run, after_execution, after_executions, go_on}
use Rattle.wq_meaning.proofs.Common.{left_in, begin_drain, end_drain}
use Rattle.wq_words.specs.declared.event.Why.TheVariants as why
use Rattle.wq_words.specs.History.{is_close, is_drain, is_resume}
use Rattle.wq_words.proofs.Appended.{begun-append, ended-append}
use Rattle.wq_words.proofs.Closed.{shut_quiet, shut_drain}

-- events of which none closes the queue, and none begins or ends a drain
abbrev IsCalm : List Event → Type 0
IsCalm es = AllByRecursion (λ e. (is_resume e ≡ false) × (is_drain e ≡ false) × (is_close e ≡ false)) es

calm_shut : (h es : List Event) → IsCalm es → shut (h ++ es) ≡ shut h
calm_shut h [] calm = ap shut (append-nil h)
calm_shut h (e ∷ es) calm =
    ap shut (sym (append_assoc h (e ∷ []) es)) ∙ (calm_shut (h ++ e ∷ []) es calm.1 ∙ shut_quiet h e calm.0.0 calm.0.1 calm.0.2)

calm : (is_resume Take ≡ false) × (is_drain Take ≡ false) × (is_close Take ≡ false)
calm = (refl, refl, refl)

follow_calm : (w k : ℕ) (h : List Event) → IsCalm (follow_events w k h)
follow_calm w k h = each (shut h) (pending h k) (closed h) (draining h)
  where
    each : (chains set refused drains : Bool) → IsCalm (if chains then (if set then ChainBusy k ∷ [] else Chain k ∷ [])
        else (if set then Busy w k ∷ [] else if refused then Hold w k ∷ Back w k why.Closed ∷ []
        else if drains then Hold w k ∷ Back w k why.Draining ∷ [] else Hold w k ∷ Push w k ∷ []))
    each true true refused drains = (calm, tt)
    each true false refused drains = (calm, tt)
    each false true refused drains = (calm, tt)
    each false false true drains = (calm, (calm, tt))
    each false false false true = (calm, (calm, tt))
    each false false false false = (calm, (calm, tt))

take_calm : (h : List Event) → IsCalm (take_events h)
take_calm h = each (nat_le (taken h) (length (begun h)) && not (shut h))
  where
    each : (b : Bool) → IsCalm (if b then Take ∷ [] else [])
    each true = (calm, tt)
    each false = tt

follows_shut : (w : ℕ) (h : List Event) (ks : List ℕ) → shut (fold (after_follow w) h ks) ≡ shut h
follows_shut w h [] = refl
follows_shut w h (k ∷ ks) = follows_shut w (after_follow w h k) ks ∙ calm_shut h (follow_events w k h) (follow_calm w k h)

run_shut : (w : ℕ) (follows : List (ArrayVec ℕ)) (h : List Event) (o : Option ℕ) → shut (after_run w follows h o) ≡ shut h
run_shut w follows h None = refl
run_shut w follows h (Some k) =
    calm_shut (fold (after_follow w) (h ++ Begin k ∷ []) (follow_of follows k)) (End k ∷ []) (calm, tt)
    ∙ (follows_shut w (h ++ Begin k ∷ []) (follow_of follows k) ∙ calm_shut h (Begin k ∷ []) (calm, tt))

execution_shut : (w : ℕ) (follows : List (ArrayVec ℕ)) (h : List Event) → shut (after_execution w follows h) ≡ shut h
execution_shut w follows h = run_shut w follows (h ++ take_events h) (next h) ∙ calm_shut h (take_events h) (take_calm h)

-- what goes on from g, or ends there, is shut where h is
row_shut : (more : List Event → List Event) (ends : ℕ → Bool) (h g : List Event) (o : Option ℕ) → shut g ≡ shut h → shut (more g) ≡ shut h
    → shut (go_on more ends g o) ≡ shut h
row_shut more ends h g None one rest = one
row_shut more ends h g (Some k) one rest = stop (ends k)
  where
    stop : (b : Bool) → shut (if b then g else more g) ≡ shut h
    stop true = one
    stop false = rest

-- executions leave a queue shut, or open
pub executions_shut : (w : ℕ) (follows : List (ArrayVec ℕ)) (ends : ℕ → Bool) (limit : ℕ) (h : List Event)
    → shut (after_executions w follows ends limit h) ≡ shut h
executions_shut w follows ends zero h = refl
executions_shut w follows ends (suc n) h =
    let g : List Event = after_execution w follows h in
    let one : shut g ≡ shut h = execution_shut w follows h in
    row_shut (after_executions w follows ends n) ends h g (next h) one (executions_shut w follows ends n g ∙ one)

-- a shut queue is not taken from
pub no_take : (b : Bool) → (if (b && not true) then Take ∷ [] else []) ≡ []
no_take true = refl
no_take false = refl

-- where a queue is shut and nothing waits, nothing is executed
pub nothing_executed : (w : ℕ) (follows : List (ArrayVec ℕ)) (ends : ℕ → Bool) (limit : ℕ) (h : List Event) → shut h ≡ true → next h ≡ None
    → after_executions w follows ends limit h ≡ h
nothing_executed w follows ends zero h is none = refl
nothing_executed w follows ends (suc n) h is none =
    ap (go_on (after_executions w follows ends n) ends (after_execution w follows h)) none
    ∙ (ap (after_run w follows (h ++ take_events h)) none ∙ (ap (λ (x : List Event). h ++ x) untaken ∙ append-nil h))
  where
    untaken : take_events h ≡ []
    untaken = ap (λ (s : Bool). if (nat_le (taken h) (length (begun h)) && not s) then Take ∷ [] else []) is
        ∙ no_take (nat_le (taken h) (length (begun h)))

module _ (h : List Event) where
  -- how a drain begins
  pub begun_anew : shut h ≡ false → begin_drain h ≡ h ++ Drain ∷ []
  begun_anew is = ap (λ (b : Bool). if b then h else h ++ Drain ∷ []) is

  pub begun_before : shut h ≡ true → begin_drain h ≡ h
  begun_before is = ap (λ (b : Bool). if b then h else h ++ Drain ∷ []) is

  pub begun_shut : shut (begin_drain h) ≡ true
  begun_shut = each (shut h) refl
    where
      each : (b : Bool) → shut h ≡ b → shut (if b then h else h ++ Drain ∷ []) ≡ true
      each true is = is
      each false is = shut_drain h Drain refl refl

  pub begun_few : length (begin_drain h) ≤ suc (length h)
  begun_few = each (shut h)
    where
      each : (b : Bool) → length (if b then h else h ++ Drain ∷ []) ≤ suc (length h)
      each true = omega arith
      each false = omega (arith, length-append h (Drain ∷ []))

  pub begun_ended : ended (begin_drain h) ≡ ended h
  begun_ended = each (shut h)
    where
      each : (b : Bool) → ended (if b then h else h ++ Drain ∷ []) ≡ ended h
      each true = refl
      each false = ended-append h (Drain ∷ []) ∙ append-nil (ended h)

  pub begun_begun : begun (begin_drain h) ≡ begun h
  begun_begun = each (shut h)
    where
      each : (b : Bool) → begun (if b then h else h ++ Drain ∷ []) ≡ begun h
      each true = refl
      each false = begun-append h (Drain ∷ []) ∙ append-nil (begun h)

  -- and how it ends
  pub ended_now : draining h ≡ true → (left_in h == 0) ≡ true → end_drain h ≡ h ++ Resume ∷ []
  ended_now is none = λ i. if (is i && none i) then h ++ Resume ∷ [] else h

  pub not_draining_ended : draining h ≡ false → end_drain h ≡ h
  not_draining_ended is = ap (λ (b : Bool). if (b && (left_in h == 0)) then h ++ Resume ∷ [] else h) is

  pub some_left_ended : (left_in h == 0) ≡ false → end_drain h ≡ h
  some_left_ended some = ap (λ (b : Bool). if (draining h && b) then h ++ Resume ∷ [] else h) some ∙ each (draining h)
    where
      each : (b : Bool) → (if (b && false) then h ++ Resume ∷ [] else h) ≡ h
      each true = refl
      each false = refl

  pub ended_few : length (end_drain h) ≤ suc (length h)
  ended_few = each (draining h && (left_in h == 0))
    where
      each : (b : Bool) → length (if b then h ++ Resume ∷ [] else h) ≤ suc (length h)
      each true = omega (arith, length-append h (Resume ∷ []))
      each false = omega arith

  pub ended_ended : ended (end_drain h) ≡ ended h
  ended_ended = each (draining h && (left_in h == 0))
    where
      each : (b : Bool) → ended (if b then h ++ Resume ∷ [] else h) ≡ ended h
      each true = ended-append h (Resume ∷ []) ∙ append-nil (ended h)
      each false = refl
