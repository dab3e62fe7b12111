-- Due items that went out, one after another.
use Rattle.wq_words.proofs.Growing.{count_by_push}
use Rattle.wq_delay.proofs.Common.{◌≡◌, ℕ, ◌+◌, ◌<◌, cond, List, [], ◌∷◌, ◌++◌, length, count_by, sym, refl, ap, ◌∙◌, subst, inl, inr, append_assoc, arith}
use Rattle.wq_delay.proofs.Common.{length-append, append-nil, AllZip, Event, Back, Push, is_push, Entry, DelayTable, due_part, later_part, without, IsOrdered}
use Rattle.wq_delay.proofs.Common.{without_first, due_then_later, first_due_part, first_later_part, Known, Sees, IsFirstDue, DelayState, IsFit, KeepsTable}
use Rattle.wq_delay.proofs.Common.{TakesOff, IsOut, is_back, MayStay, PostsDue}
use Rattle.std.specs.Prelude.{◌⊎◌}
use Rattle.wq_live.specs.Answers.{HasMetDrain}
use Rattle.wq_delay.specs.Delay.{none, contended, draining}
use Rattle.wq_calls.proofs.GoingOn.{sees_on, sees_none}
use Rattle.wq_words.specs.declared.event.Why.TheVariants as why

all_zip_push : {A B : Type 0} (R : A → B → Type 0) (xs : List A) (ys : List B) (x : A) (y : B) → AllZip R xs ys → R x y
    → AllZip R (xs ++ x ∷ []) (ys ++ y ∷ [])
all_zip_push R [] [] x y all r = (r, tt)
all_zip_push R [] (z ∷ zs) x y all r = absurd all
all_zip_push R (z ∷ zs) [] x y all r = absurd all
all_zip_push R (z ∷ zs) (w ∷ ws) x y all r = (all.0, all_zip_push R zs ws x y all.1 r)

-- so much of the due part at the tick t has gone out
pub record Going (t : ℕ) (old new : DelayState) (pushed refused : ℕ) : Type 0 where
  pub gone : List Entry
  pub events : List Event
  pub split : due_part t old.table.entries ≡ gone ++ due_part t new.table.entries
  pub later : later_part t new.table.entries ≡ later_part t old.table.entries
  pub fewer : length gone + length new.table.entries ≡ length old.table.entries
  pub out : AllZip (IsOut old.sender.number) gone events
  pub seen : Sees events 0 old.sender new.sender
  pub tick_is : new.table.tick ≡ old.table.tick
  pub next_is : new.table.next ≡ old.table.next
  pub pushed_is : pushed ≡ count_by is_push events
  pub refused_is : refused ≡ count_by is_back events
  pub sum_is : pushed + refused ≡ length gone

pub going_none : (t : ℕ) (d : DelayState) → IsFit d → Going t d d 0 0
going_none t d fit = record {
  gone = [];
  events = [];
  split = refl;
  later = refl;
  fewer = omega arith;
  out = tt;
  seen = sees_none d.sender fit.legal;
  tick_is = refl;
  next_is = refl;
  pushed_is = refl;
  refused_is = refl;
  sum_is = refl;
}

-- the first of the due part went out by the event x
pub going_more : (t k pushed refused p r : ℕ) (old mid new : DelayState) (x : Event) → Going t old mid pushed refused
    → IsOrdered mid.table.entries → IsFirstDue t k mid.table.entries → TakesOff (x ∷ []) k mid new
    → ((e : Entry) → e.item ≡ k → IsOut old.sender.number e x)
    → p ≡ pushed + cond (is_push x) 1 0 → r ≡ refused + cond (is_back x) 1 0 → p + r ≡ pushed + refused + 1 → Going t old new p r
going_more t k pushed refused p r old mid new x going in_order is_first leaves is_out pushes backs sums =
    let es : List Entry = mid.table.entries in
    let ordered : IsOrdered (is_first.first ∷ is_first.rest) = subst IsOrdered is_first.is in_order in
    let tail : is_first.rest ≡ without k mid.table.entries = without_first is_first.first is_first.rest ordered.1
    ∙ (ap (without is_first.first.item) (sym is_first.is) ∙ ap (λ (z : ℕ). without z mid.table.entries) is_first.item_is) in
    let same : is_first.rest ≡ new.table.entries = tail ∙ sym (ap (λ (z : DelayTable). z.entries) leaves.table_is) in
    let whole : mid.table.entries ≡ is_first.first ∷ new.table.entries = is_first.is ∙ ap (λ (z : List Entry). is_first.first ∷ z) same in
    record {
      gone = going.gone ++ is_first.first ∷ [];
      events = going.events ++ x ∷ [];
      split = going.split ∙ (ap (λ (z : List Entry). going.gone ++ z)
          (ap (due_part t) whole ∙ first_due_part t is_first.first new.table.entries is_first.due)
          ∙ sym (append_assoc going.gone (is_first.first ∷ []) (due_part t new.table.entries)));
      later = sym (first_later_part t is_first.first new.table.entries is_first.due) ∙ (ap (later_part t) (sym whole) ∙ going.later);
      fewer = let l = ap (length {A = Entry}) whole in omega (arith, l, going.fewer, length-append going.gone (is_first.first ∷ []));
      out = all_zip_push (IsOut old.sender.number) going.gone going.events is_first.first x going.out (is_out is_first.first is_first.item_is);
      seen = sees_on going.events (x ∷ []) 0 0 old.sender mid.sender new.sender going.seen leaves.seen;
      tick_is = ap (λ (z : DelayTable). z.tick) leaves.table_is ∙ going.tick_is;
      next_is = ap (λ (z : DelayTable). z.next) leaves.table_is ∙ going.next_is;
      pushed_is = let m = count_by_push is_push going.events x in omega (arith, m, going.pushed_is);
      refused_is = let m = count_by_push is_back going.events x in omega (arith, m, going.refused_is);
      sum_is = omega (arith, going.sum_is, length-append going.gone (is_first.first ∷ []));
    }

is_out_pushed : (a b : Known) (k : ℕ) → b.number ≡ a.number → (e : Entry) → e.item ≡ k → IsOut a.number e (Push b.number k)
is_out_pushed a b k number e item = inl (ap (λ (z : ℕ). Push z k) number ∙ ap (λ (z : ℕ). Push a.number z) (sym item))

is_out_refused : (a b : Known) (k : ℕ) → b.number ≡ a.number → (e : Entry) → e.item ≡ k → IsOut a.number e (Back b.number k why.Closed)
is_out_refused a b k number e item = inr (ap (λ (z : ℕ). Back z k why.Closed) number ∙ ap (λ (z : ℕ). Back a.number z why.Closed) (sym item))

pub going_pushed : (t k pushed refused : ℕ) (old mid new : DelayState) → Going t old mid pushed refused → IsOrdered mid.table.entries
    → IsFirstDue t k mid.table.entries → TakesOff (Push mid.sender.number k ∷ []) k mid new
    → Going t old new (pushed + 1) refused
going_pushed t k pushed refused old mid new going in_order is_first leaves =
    going_more t k pushed refused (pushed + 1) refused old mid new (Push mid.sender.number k) going in_order is_first leaves
    (is_out_pushed old.sender mid.sender k going.seen.same.number_is) refl (omega arith) (omega arith)

pub going_refused : (t k pushed refused : ℕ) (old mid new : DelayState) → Going t old mid pushed refused → IsOrdered mid.table.entries
    → IsFirstDue t k mid.table.entries → TakesOff (Back mid.sender.number k why.Closed ∷ []) k mid new
    → Going t old new pushed (refused + 1)
going_refused t k pushed refused old mid new going in_order is_first leaves =
    going_more t k pushed refused pushed (refused + 1) old mid new (Back mid.sender.number k why.Closed) going in_order is_first leaves
    (is_out_refused old.sender mid.sender k going.seen.same.number_is) (omega arith) refl (omega arith)

pub fewer_left : (t k : ℕ) (es fs : List Entry) → IsOrdered es → IsFirstDue t k es → fs ≡ without k es → length fs < length es
fewer_left t k es fs in_order is_first is =
    let ordered : IsOrdered (is_first.first ∷ is_first.rest) = subst IsOrdered is_first.is in_order in
    let tail : is_first.rest ≡ without k es = without_first is_first.first is_first.rest ordered.1
    ∙ (ap (without is_first.first.item) (sym is_first.is) ∙ ap (λ (z : ℕ). without z es) is_first.item_is) in
    let rest = ap (length {A = Entry}) (tail ∙ sym is) in let l = ap (length {A = Entry}) is_first.is in omega arith

-- all that was due went out
pub went_all : (t tries pushed refused : ℕ) (old new : DelayState) → Going t old new pushed refused → old.table.tick ≡ t
    → IsOrdered new.table.entries → due_part t new.table.entries ≡ [] → PostsDue t tries old new pushed refused
went_all t tries pushed refused old new going now in_order over =
    let rest : new.table.entries ≡ later_part t old.table.entries =
    due_then_later t new.table.entries in_order
    ∙ (ap (λ (z : List Entry). z ++ later_part t new.table.entries) over ∙ going.later) in
    record {
      gone = going.gone;
      left = [];
      events = going.events;
      due_is = going.split ∙ ap (λ (z : List Entry). going.gone ++ z) over;
      table_is = λ i. record { entries = rest i; tick = (going.tick_is ∙ now) i; next = going.next_is i };
      out = going.out;
      seen = going.seen;
      stays = none refl;
      pushed_is = going.pushed_is;
      refused_is = going.refused_is;
    }

-- what was met after more was seen was met after less
met_before : (events : List Event) (n : ℕ) (old mid new : Known) → Sees events n old mid → HasMetDrain mid.seen new.seen → HasMetDrain old.seen new.seen
met_before events n old mid new seen met =
    let e = ap (length {A = Event}) seen.grows.is in
    (met.0, omega (arith, e, length-append old.seen seen.grows.new, met.1), met.2)

-- events seen behind those of its own that went before
seen_behind : (events : List Event) (n : ℕ) (old mid new : Known) → Sees events 0 old mid → Sees [] n mid new → Sees events n old new
seen_behind events n old mid new before seen =
    let all : Sees (events ++ []) (0 + n) old new = sees_on events [] 0 n old mid new before seen in
    subst (λ (z : List Event). Sees z n old new) (append-nil events) (subst (λ (z : ℕ). Sees (events ++ []) z old new) (omega arith) all)

-- what one post met, the whole advance met
pub stays_in_all : (left : List Entry) (tries : ℕ) (events : List Event) (old new : Known) → MayStay left tries events old new
    → (left ≡ []) ⊎ (Sees events tries old new ⊎ HasMetDrain old.seen new.seen)
stays_in_all left tries events old new (none nothing) = inl nothing
stays_in_all left tries events old new (contended mid before lost) = inr (inl (seen_behind events tries old mid new before lost))
stays_in_all left tries events old new (draining mid before seen met) = inr (inr (met_before events 0 old mid new before met))

module _ (t tries pushed refused : ℕ) (old mid new : DelayState) (going : Going t old mid pushed refused) (now : old.table.tick ≡ t)
    (in_order : IsOrdered mid.table.entries) where
  went_some : (n : ℕ) → KeepsTable [] n mid new → Sees going.events 0 old.sender new.sender
      → MayStay (due_part t mid.table.entries) tries going.events old.sender new.sender → PostsDue t tries old new pushed refused
  went_some n keeps seen stays =
      let same : new.table.entries ≡ mid.table.entries = ap (λ (z : DelayTable). z.entries) keeps.table_is in
      let rest : new.table.entries ≡ due_part t mid.table.entries ++ later_part t old.table.entries =
      same ∙ (due_then_later t mid.table.entries in_order ∙ ap (λ (z : List Entry). due_part t mid.table.entries ++ z) going.later) in
      record {
        gone = going.gone;
        left = due_part t mid.table.entries;
        events = going.events;
        due_is = going.split;
        table_is = λ i. record {
          entries = rest i;
          tick = (ap (λ (z : DelayTable). z.tick) keeps.table_is ∙ (going.tick_is ∙ now)) i;
          next = (ap (λ (z : DelayTable). z.next) keeps.table_is ∙ going.next_is) i;
        };
        out = going.out;
        seen = seen;
        stays = stays;
        pushed_is = going.pushed_is;
        refused_is = going.refused_is;
      }

  -- the post of the first was contended
  pub went_lost : KeepsTable [] tries mid new → PostsDue t tries old new pushed refused
  went_lost keeps =
      went_some tries keeps (less (seen_behind going.events tries old.sender mid.sender new.sender going.seen keeps.seen))
      (contended mid.sender going.seen keeps.seen)
    where
      less : Sees going.events tries old.sender new.sender → Sees going.events 0 old.sender new.sender
      less seen = record {
        same = seen.same;
        grows = record { new = seen.grows.new; is = seen.grows.is; mine = seen.grows.mine; theirs = omega arith };
        legal = seen.legal;
      }

  -- the post of the first found the queue draining
  pub went_drained : KeepsTable [] 0 mid new → HasMetDrain mid.sender.seen new.sender.seen → PostsDue t tries old new pushed refused
  went_drained keeps met =
      went_some 0 keeps (seen_behind going.events 0 old.sender mid.sender new.sender going.seen keeps.seen)
      (draining mid.sender going.seen keeps.seen met)

-- what was posted, told of the table as it was before it was led on to the tick
pub posts_before : (t u tries pushed refused : ℕ) (old led new : DelayState) → PostsDue u tries led new pushed refused → u ≡ t
    → led.sender ≡ old.sender → led.table.entries ≡ old.table.entries → led.table.next ≡ old.table.next → PostsDue t tries old new pushed refused
posts_before t u tries pushed refused old led new told at sender entries next =
    let posts : PostsDue t tries led new pushed refused = subst (λ (z : ℕ). PostsDue z tries led new pushed refused) at told in record {
      gone = posts.gone;
      left = posts.left;
      events = posts.events;
      due_is = ap (due_part t) (sym entries) ∙ posts.due_is;
      table_is = posts.table_is ∙ (λ i. record { entries = posts.left ++ later_part t (entries i); tick = t; next = next i });
      out = subst (λ (k : Known). AllZip (IsOut k.number) posts.gone posts.events) sender posts.out;
      seen = subst (λ (k : Known). Sees posts.events 0 k new.sender) sender posts.seen;
      stays = subst (λ (k : Known). MayStay posts.left tries posts.events k new.sender) sender posts.stays;
      pushed_is = posts.pushed_is;
      refused_is = posts.refused_is;
    }
