-- The output of a schedule, a turn further, and that it is one.
use Rattle.wq_meaning.proofs.Common.{◌≡◌, ◌≢◌, inl, inr, ℕ, ◌+◌, ◌<◌, List, [], ◌∷◌, ◌++◌, length, drop, get_or, refl, sym, ap, ◌∙◌, subst, append_assoc}
use Rattle.wq_meaning.proofs.Common.{drop-cons, add-one, append-nil, Layout, Turn, Gives, AllGive, GivesBehind, IsScheduleOutput, HasOneOutput, ending}
use Rattle.std.specs.Prelude.{codes}
use Rattle.wq_core.specs.Machine.{Machine, opening, reply_to, IsEnabled}
use Rattle.wq_core.specs.Made.{IsPlaced}
use Rattle.wq_core.specs.declared.step.Seat.{Seat}
use Rattle.wq_core.specs.declared.step.Step.{Step}
use Rattle.wq_machine.specs.Refusal.{IsRefused}
use Rattle.wq_machine.specs.declared.refusal.StepError.{StepError}
use Rattle.wq_machine.specs.declared.refusal.StepError.TheVariants as refusal
use Rattle.wq_meaning.specs.Replies.{made_text}
use Rattle.wq_meaning.specs.Report.{line}
use Rattle.wq_meaning.specs.ScheduleHistory.{Passes, AllPass}

-- a step of a seat and of numbers of the queue that is refused, and not for want of memory, is not enabled
pub not_enabled : (m : Machine) (seat : Seat) (step : Step) (why : StepError) → IsPlaced m.layout seat step → IsRefused m seat step why
    → why ≢ refusal.Memory → ¬ IsEnabled m seat step
not_enabled m seat step refusal.NoSeat placed refused room = absurd (refused placed.0)
not_enabled m seat step refusal.NoItem placed refused room = absurd (refused.1 placed.1)
not_enabled m seat step refusal.NotEnabled placed refused room = refused.1
not_enabled m seat step refusal.Memory placed refused room = absurd (room refl)

-- whatever the turns that are left give, all turns give it behind what was written
abbrev pub Continues : Layout → List Turn → Machine → List Turn → List ℕ → Type 0
Continues layout turns m left out = (n : Machine) (rest : List ℕ) → AllGive m left n rest → AllGive (opening layout) turns n (out ++ rest)

pub continues_opening : (layout : Layout) (turns : List Turn) (m : Machine) (out : List ℕ) → m ≡ opening layout → out ≡ []
    → Continues layout turns m turns out
continues_opening layout turns m out opened none n rest given =
    let P : Machine → Type 0 = λ x. AllGive x turns n rest in
    subst (λ (xs : List ℕ). AllGive (opening layout) turns n (xs ++ rest)) (sym none) (subst P opened given)

pub continues_behind : (layout : Layout) (turns : List Turn) (i : ℕ) (d : Turn) (m next : Machine) (out new : List ℕ)
    → i < length turns → GivesBehind m (get_or turns i d) next out new
    → Continues layout turns m (drop i turns) out → Continues layout turns next (drop (i + 1) turns) new
continues_behind layout turns i d m next out new lt gives so_far n rest given =
    let left : drop i turns ≡ get_or turns i d ∷ drop (i + 1) turns = rw (add-one, drop-cons turns i d lt) refl in
    let P : List Turn → Type 0 = λ ts. AllGive m ts n (gives.0 ++ rest) in
    let Q : List ℕ → Type 0 = λ xs. AllGive (opening layout) turns n xs in
    subst Q (sym (append_assoc out gives.0 rest) ∙ ap (λ x. x ++ rest) (sym gives.2))
    (so_far n (gives.0 ++ rest) (subst P (sym left) (next, gives.0, rest, gives.1, given, refl)))

pub given_whole : (layout : Layout) (turns left : List Turn) (m : Machine) (out : List ℕ) → left ≡ []
    → Continues layout turns m left out → AllGive (opening layout) turns m out
given_whole layout turns left m out none so_far =
    let P : List Turn → Type 0 = λ ts. AllGive m ts m [] in
    subst (λ (xs : List ℕ). AllGive (opening layout) turns m xs) (append-nil out) (so_far m [] (subst P (sym none) (refl, refl)))

pub output_whole : (layout : Layout) (turns left : List Turn) (m : Machine) (out text : List ℕ) → left ≡ []
    → Continues layout turns m left out → text ≡ out ++ ending m → IsScheduleOutput layout turns text
output_whole layout turns left m out text none so_far whole =
    record { machine = m; lines = out; given = given_whole layout turns left m out none so_far; whole = whole }

-- of a turn something is written
pub written : (m : Machine) (turn : Turn) (n : Machine) → Passes m turn n → (text : List ℕ) × Gives m turn n text
written m turn n (inl made) = (line (made_text m.layout turn.1 (reply_to m turn.0 turn.1)), inl (made.0, made.1, refl))
written m turn n (inr over) = (line (codes "not enabled"), inr (over.0, over.1, refl))

-- where turns lead with what is written of them, they lead without it
passes_given : (m : Machine) (turn : Turn) (n : Machine) (text : List ℕ) → Gives m turn n text → Passes m turn n
passes_given m turn n text (inl made) = inl (made.0, made.1)
passes_given m turn n text (inr over) = inr (over.0, over.1)

pub all_pass : (turns : List Turn) (m n : Machine) (text : List ℕ) → AllGive m turns n text → AllPass m turns n
all_pass [] m n text given = given.0
all_pass (turn ∷ turns) m n text (next, first, rest, gives, given, whole) =
    (next, passes_given m turn next first gives, all_pass turns next n rest given)

one_gives : (m : Machine) (turn : Turn) (n p : Machine) (text other : List ℕ) → Gives m turn n text → Gives m turn p other → (n ≡ p) × (text ≡ other)
one_gives m turn n p text other (inl made) (inl again) = (made.1 ∙ sym again.1, made.2 ∙ sym again.2)
one_gives m turn n p text other (inl made) (inr not) = absurd (not.0 made.0)
one_gives m turn n p text other (inr not) (inl made) = absurd (not.0 made.0)
one_gives m turn n p text other (inr not) (inr again) = (not.1 ∙ sym again.1, not.2 ∙ sym again.2)

all_give_one : (turns : List Turn) (m n p : Machine) (text other : List ℕ) → AllGive m turns n text → AllGive m turns p other → (n ≡ p) × (text ≡ other)
all_give_one [] m n p text other a b = (a.0 ∙ sym b.0, a.1 ∙ sym b.1)
all_give_one (turn ∷ turns) m n p text other (next, first, rest, gives, given, whole) (next', first', rest', gives', given', whole') =
    let here = one_gives m turn next next' first first' gives gives' in
    let P : Machine → Type 0 = λ x. AllGive x turns n rest in
    let there = all_give_one turns next' n p rest rest' (subst P here.0 given) given' in
    (there.0, whole ∙ ap (λ x. x ++ rest) here.1 ∙ ap (λ x. first' ++ x) there.1 ∙ sym whole')

pub one_output : HasOneOutput
one_output layout turns text other a b =
    let same = all_give_one turns (opening layout) a.machine b.machine a.lines b.lines a.given b.given in
    a.whole ∙ ap (λ x. x ++ ending a.machine) same.1 ∙ ap (λ m. b.lines ++ ending m) same.0 ∙ sym b.whole
