-- Every schedule keeps what is sound.
use Rattle.wq_machine.proofs.Common.{◌≡◌, ℕ, ◌+◌, ◌<◌, List, [], ◌∷◌, ◌++◌}
use Rattle.wq_machine.proofs.Common.{length, get_or, take, ap, ◌∙◌}
use Rattle.wq_machine.proofs.Common.{take_more, slice_get-get_or, Layout, IsLegal, Step}
use Rattle.wq_machine.proofs.Common.{Machine, opening}
use Rattle.wq_machine.proofs.Common.{after, IsMade, IsRefused, Leads, Leaves, StopsAt, IsSound}
use Rattle.wq_core.specs.declared.step.Seat.{Seat}
use Rattle.wq_core.proofs.Sound.{sound_after, sound_opening, layout_after}
use Rattle.wq_machine.specs.declared.refusal.StepError.{StepError}

pub sound_leads : (turns : List (Seat × Step)) (old new : Machine) → IsSound old → Leads old turns new → IsSound new
sound_leads [] old new o leads = rw leads o
sound_leads (turn ∷ turns) old new o leads =
    sound_leads turns (after old turn.0 turn.1) new (sound_after old turn.0 turn.1 o leads.0) leads.1

-- whatever the schedule, the machine stays sound
pub sound_leaves : (layout : Layout) (turns : List (Seat × Step)) (m : Machine) → Leaves layout turns m → IsSound m
sound_leaves layout turns m leaves = sound_leads turns (opening layout) m (sound_opening layout) leaves

layout_leads : (turns : List (Seat × Step)) (old new : Machine) → Leads old turns new → new.layout ≡ old.layout
layout_leads [] old new leads = ap (λ (m : Machine). m.layout) leads
layout_leads (turn ∷ turns) old new leads = layout_leads turns (after old turn.0 turn.1) new leads.1 ∙ layout_after old turn.0 turn.1

-- whatever the schedule, what has happened is a legal history
pub legal_leaves : (layout : Layout) (turns : List (Seat × Step)) (m : Machine) → Leaves layout turns m → IsLegal layout m.history
legal_leaves layout turns m leaves = rw (layout_leads turns (opening layout) m leaves) at (sound_leaves layout turns m leaves).legal

-- a schedule goes on by one step
pub leads_push : (turns : List (Seat × Step)) (old mid : Machine) (seat : Seat) (step : Step) → Leads old turns mid → IsMade mid seat step
    → Leads old (turns ++ (seat, step) ∷ []) (after mid seat step)
leads_push [] old mid seat step leads made = (rw leads at made, ap (λ m. after m seat step) leads)
leads_push (turn ∷ turns) old mid seat step leads made =
    (leads.0, leads_push turns (after old turn.0 turn.1) mid seat step leads.1 made)

pub leads_more : (turns : List (Seat × Step)) (place : ℕ) (d : Seat × Step) (old m : Machine) → place < length turns
    → Leads old (take place turns) m
    → IsMade m (get_or turns place d).0 (get_or turns place d).1
    → Leads old (take (place + 1) turns) (after m (get_or turns place d).0 (get_or turns place d).1)
leads_more turns place d old m lt leads made =
    rw (take_more turns place d lt) (leads_push (take place turns) old m (get_or turns place d).0 (get_or turns place d).1 leads made)

pub stops_at : (turns : List (Seat × Step)) (place : ℕ) (d : Seat × Step) (old m : Machine) (why : StepError) → place < length turns
    → Leads old (take place turns) m
    → IsRefused m (get_or turns place d).0 (get_or turns place d).1 why → StopsAt old turns m place why
stops_at turns place d old m why lt leads refused =
    (leads, (get_or turns place d).0, (get_or turns place d).1, slice_get-get_or turns place d lt, refused)
