-- What a script never answers: another seat would have had to step between two commands, or memory to be wanting.
use Rattle.std.proofs.lemmas.Bool.{false≢true}
use Rattle.wq_meaning.proofs.Common.{◌≡◌, ◌≢◌, ℕ, ◌==◌, Bool, true, false, List, if◌then◌else◌, refl, sym, ap, ◌∙◌, Event, pending, closed, first}
use Rattle.wq_meaning.proofs.Common.{armed_of, modified_of}
use Rattle.wq_meaning.proofs.Common.{DelayTable, on_table, is_too_far, draining, queue_answer, queues_now, arm_answer, modify_answer}
use Rattle.wq_words.specs.declared.answer.Answer.{Answer}
use Rattle.wq_words.specs.Rest.{wakes}
use Rattle.wq_words.specs.declared.answer.Answer.TheVariants as answer
use Rattle.wq_words.specs.declared.answer.Armed.{Armed}
use Rattle.wq_words.specs.declared.answer.Armed.TheVariants as armed
use Rattle.wq_words.specs.declared.answer.Modified.{Modified}
use Rattle.wq_words.specs.declared.answer.Modified.TheVariants as modified

-- one of two, by a test
either : {A : Type 0} (P : A → Type 0) (q : Bool) (a b : A) → P a → P b → P (if q then a else b)
either P true a b x y = x
either P false a b x y = y

-- which answers a script has a text for
abbrev has_text : Answer → Bool
has_text answer.Contended = false
has_text _ = true

abbrev armed_has_text : Armed → Bool
armed_has_text armed.Contended = false
armed_has_text armed.Memory = false
armed_has_text _ = true

abbrev modified_has_text : Modified → Bool
modified_has_text modified.Contended = false
modified_has_text modified.Memory = false
modified_has_text _ = true

armed_given : (a : Armed) → armed_has_text a ≡ true → (a ≢ armed.Contended) × (a ≢ armed.Memory)
armed_given a has = (λ is. false≢true (sym (ap armed_has_text is) ∙ has), λ is. false≢true (sym (ap armed_has_text is) ∙ has))

modified_given : (a : Modified) → modified_has_text a ≡ true → (a ≢ modified.Contended) × (a ≢ modified.Memory)
modified_given a has = (λ is. false≢true (sym (ap modified_has_text is) ∙ has), λ is. false≢true (sym (ap modified_has_text is) ∙ has))

-- by the tests on which a queueing rests: it is none of those without a text
queueing : (k : ℕ) (h : List Event) (P : Answer → Type 0) → P answer.Pending → P answer.Closed → P answer.Draining
    → P (answer.Queued (first h) (wakes h)) → P (queue_answer k h)
queueing k h P pends refused drains went =
    either P (pending h k) _ _ pends (either P (closed h) _ _ refused (either P (draining h) _ _ drains went))

-- and of an arming
arming : (k delay : ℕ) (h : List Event) (t : DelayTable) (P : Armed → Type 0) → P armed.TooFar → P armed.OnTable → P (armed_of (queue_answer k h))
    → P (arm_answer k delay h t)
arming k delay h t P far on now = either P (is_too_far delay t) _ _ far (either P (queues_now k delay h) _ _ now on)

pub queue_uncontended : (k : ℕ) (h : List Event) → queue_answer k h ≢ answer.Contended
queue_uncontended k h is = false≢true (sym (ap has_text is) ∙ queueing k h (λ a. has_text a ≡ true) refl refl refl refl)

pub arm_given : (k delay : ℕ) (h : List Event) (t : DelayTable) → (arm_answer k delay h t ≢ armed.Contended) × (arm_answer k delay h t ≢ armed.Memory)
arm_given k delay h t = armed_given (arm_answer k delay h t) (arming k delay h t (λ a. armed_has_text a ≡ true) refl refl
    (queueing k h (λ a. armed_has_text (armed_of a) ≡ true) refl refl refl refl))

pub modify_given : (k delay : ℕ) (h : List Event) (t : DelayTable) → (modify_answer k delay h t ≢ modified.Contended)
    × (modify_answer k delay h t ≢ modified.Memory)
modify_given k delay h t =
    let P : Modified → Type 0 = λ a. modified_has_text a ≡ true in
    modified_given (modify_answer k delay h t) (either P (is_too_far delay t) _ _ refl (either P (on_table k t.entries) _ _
    (either P (delay == 0) _ _ (either P (closed h) _ _ refl (either P (draining h) _ _ refl refl)) refl)
    (arming k delay h t (λ a. modified_has_text (modified_of a) ≡ true) refl refl
    (queueing k h (λ a. modified_has_text (modified_of (armed_of a)) ≡ true) refl refl refl refl))))
