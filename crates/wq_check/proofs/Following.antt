-- How a queue stands once an event came.
use Rattle.wq_check.proofs.Common.{◌≡◌, ℕ, replicate, ◌+◌, ◌-◌, ◌<◌, ◌≤◌, ◌↔◌, true, false, List, [], ◌∷◌, ◌++◌, length, drop, get_or}
use Rattle.wq_check.proofs.Common.{slice_get, Some, None, refl, sym, ap, ◌∙◌, arith, inl, inr, length-append, drop-drop, slice_get_past, false≢true}
use Rattle.wq_check.proofs.Common.{cases_eq, Layout, Event, Hold, Busy, Push, Back, Take, Close, Drain, Resume, Begin, Chain, ChainBusy, Rest}
use Rattle.wq_check.proofs.Common.{number_count, accepted, begun, ended, IsRunning, Keeper, Home, Sender, Listed, Owner, keeper, growing}
use Rattle.wq_check.proofs.Common.{slice_get_last, count_by_push, prefix_length, in_order, Idle, all_alike}
use Rattle.std.proofs.Common.{IsTrue, length-set, set}
use Rattle.std.proofs.lemmas.List.{length-replicate, get_or-set_other, get_or-set_same, drop-append-le}
use Rattle.wq_words.specs.declared.event.Event.TheVariants.{End}
use Rattle.wq_words.specs.History.{closed, shut, is_close, is_drain, is_resume, HasDrained}
use Rattle.wq_words.specs.Legal.{IsAllowed}
use Rattle.wq_words.specs.Keeper.{taken_over, keeper_after}
use Rattle.wq_words.proofs.Keepers.{LeavesWith, gives_back, gives_begin, gives_chain, gives_hold, gives_push, keeper_push}
use Rattle.wq_words.proofs.Legal.{legal_nil, legal_push}
use Rattle.wq_words.proofs.Closed.{closed_push_no, closed_push_yes, shut_quiet, shut_close, shut_drain, shut_resume, drained_stays}
use Rattle.circular_buffer.specs.Buffer.{keep_last}
use Rattle.wq_check.specs.declared.queue.Place.TheVariants.{Held, Waiting}
use Rattle.wq_check.specs.Checked.{QueueState, queue_state, place_by_keeper, StandsAfter}
use Rattle.wq_words.proofs.Waits.{few_unbegun}
use Rattle.wq_check.proofs.Standing.{number_place}

-- the queue once the event came
abbrev pub after_event : QueueState → Event → QueueState
after_event c (Hold s k) = record c { places = set c.places k (Held s) }
after_event c (Push s k) = record c { places = set c.places k Waiting; waiting = c.waiting ++ k ∷ [] }
after_event c (Back s k why) = record c { places = set c.places k Idle }
after_event c Close = record c { closed = true; shut = true }
after_event c Drain = record c { shut = true; has_drained = true }
after_event c Resume = record c { shut = false }
after_event c (Begin k) = record c { places = set c.places k Idle; waiting = drop 1 c.waiting; running = Some k }
after_event c (End k) = record c { running = None }
after_event c (Chain k) = record c { places = set c.places k Waiting; waiting = c.waiting ++ k ∷ [] }
after_event c _ = c

-- the event neither closes nor drains nor resumes
abbrev IsPhaseless : Event → Type 0
IsPhaseless e = (is_close e ≡ false) × (is_drain e ≡ false) × (is_resume e ≡ false)

over : (x : Keeper) → place_by_keeper (taken_over x) ≡ place_by_keeper x
over Home = refl
over (Sender s) = refl
over Listed = refl
over Owner = refl

module _ (c : QueueState) (h : List Event) (o : StandsAfter c h) where
  some_begun : length (begun h) ≤ length (accepted h)
  some_begun = prefix_length (begun h) (accepted h) (in_order c.layout h o.legal).begun_first

  -- one number moves
  moved : (e : Event) (k : ℕ) (y : Keeper) → k < number_count c.layout → LeavesWith k e y
      → (j : ℕ) → j < number_count c.layout → get_or (set c.places k (place_by_keeper y)) j Idle ≡ place_by_keeper (keeper (h ++ e ∷ []) j)
  moved e k y lt gives j small =
      elim (cases_eq j k) [
        | inl same ↦ rw (same, keeper_push h e k, gives.1 (keeper h k)) (get_or-set_same c.places k (place_by_keeper y) Idle (omega (arith, o.has_places)))
        | inr ne ↦ rw (keeper_push h e j, gives.0 j (keeper h j) ne, get_or-set_other c.places k j (place_by_keeper y) Idle ne) (o.places_are j small)
      ]

  -- none moves
  unmoved : (e : Event) → ((j : ℕ) (x : Keeper) → place_by_keeper (keeper_after j x e) ≡ place_by_keeper x)
      → (j : ℕ) → j < number_count c.layout → number_place c j ≡ place_by_keeper (keeper (h ++ e ∷ []) j)
  unmoved e quiet j small = o.places_are j small ∙ sym (ap place_by_keeper (keeper_push h e j) ∙ quiet j (keeper h j))

  -- one more waits
  queued : (k : ℕ) → c.waiting ++ k ∷ [] ≡ drop (length (begun h)) (accepted h ++ k ∷ [])
  queued k = ap (λ xs. xs ++ k ∷ []) o.waiting_is ∙ sym (drop-append-le (length (begun h)) (accepted h) (k ∷ []) some_begun)

  later : (k : ℕ) → drop 1 c.waiting ≡ drop (length (begun h ++ k ∷ [])) (accepted h)
  later k = ap (drop 1) o.waiting_is ∙ (drop-drop 1 (length (begun h)) (accepted h) ∙ ap (λ n. drop n (accepted h)) (sym (length-append (begun h) (k ∷ []))))

  begins : (k : ℕ) → ¬ IsRunning h → Some k ≡ slice_get (begun h ++ k ∷ []) (length (ended h))
  begins k rests =
      let i = in_order c.layout h o.legal in
      let same : length (ended h) ≡ length (begun h) = omega (arith, rests, prefix_length (ended h) (begun h) i.ended_first) in
      sym (ap (slice_get (begun h ++ k ∷ [])) same ∙ slice_get_last (begun h) k [])

  ends : (k : ℕ) → None ≡ slice_get (begun h) (length (ended h ++ k ∷ []))
  ends k =
      let i = in_order c.layout h o.legal in
      sym (slice_get_past (begun h) (length (ended h ++ k ∷ [])) (omega (arith, length-append (ended h) (k ∷ []), i.one_at_a_time)))

  closed_on : (e : Event) → IsPhaseless e → c.closed ≡ closed (h ++ e ∷ [])
  closed_on e none = o.closed_is ∙ sym (closed_push_no h e none.0)

  shut_on : (e : Event) → IsPhaseless e → c.shut ≡ shut (h ++ e ∷ [])
  shut_on e none = o.shut_is ∙ sym (shut_quiet h e none.2 none.1 none.0)

  drained_on : (e : Event) → is_drain e ≡ false → IsTrue c.has_drained ↔ HasDrained (h ++ e ∷ [])
  drained_on e none =
      let drains = rw none at (count_by_push is_drain h e) in
      (λ is. drained_stays h e (o.has_drained_is.0 is), λ is. o.has_drained_is.1 (omega (arith, is, drains)))

  -- an event that moves no number and changes no list
  quiet : (e : Event) → IsAllowed c.layout h e → ((j : ℕ) (x : Keeper) → place_by_keeper (keeper_after j x e) ≡ place_by_keeper x)
      → accepted (h ++ e ∷ []) ≡ accepted h → begun (h ++ e ∷ []) ≡ begun h → ended (h ++ e ∷ []) ≡ ended h → IsPhaseless e
      → StandsAfter c (h ++ e ∷ [])
  quiet e a same acs bs es none = record {
    legal = legal_push c.layout h e o.legal a;
    has_places = o.has_places;
    places_are = unmoved e same;
    waiting_is = o.waiting_is ∙ sym (rw (acs, bs) refl);
    running_is = o.running_is ∙ sym (rw (bs, es) refl);
    closed_is = closed_on e none;
    shut_is = shut_on e none;
    has_drained_is = drained_on e none.1;
  }

  pub after_kept : (e : Event) → IsAllowed c.layout h e → StandsAfter (after_event c e) (h ++ e ∷ [])
  after_kept (Hold s k) a = record {
    legal = legal_push c.layout h (Hold s k) o.legal a;
    has_places = length-set c.places k _ ∙ o.has_places;
    places_are = moved (Hold s k) k (Sender s) a.1 (gives_hold s k);
    waiting_is = simp growing o.waiting_is;
    running_is = simp growing o.running_is;
    closed_is = closed_on (Hold s k) (refl, refl, refl);
    shut_is = shut_on (Hold s k) (refl, refl, refl);
    has_drained_is = drained_on (Hold s k) refl;
  }
  after_kept (Push s k) a = record {
    legal = legal_push c.layout h (Push s k) o.legal a;
    has_places = length-set c.places k _ ∙ o.has_places;
    places_are = moved (Push s k) k Listed a.1 (gives_push s k);
    waiting_is = simp growing (queued k);
    running_is = simp growing o.running_is;
    closed_is = closed_on (Push s k) (refl, refl, refl);
    shut_is = shut_on (Push s k) (refl, refl, refl);
    has_drained_is = drained_on (Push s k) refl;
  }
  after_kept (Back s k why) a = record {
    legal = legal_push c.layout h (Back s k why) o.legal a;
    has_places = length-set c.places k _ ∙ o.has_places;
    places_are = moved (Back s k why) k Home a.1 (gives_back s k why);
    waiting_is = simp growing o.waiting_is;
    running_is = simp growing o.running_is;
    closed_is = closed_on (Back s k why) (refl, refl, refl);
    shut_is = shut_on (Back s k why) (refl, refl, refl);
    has_drained_is = drained_on (Back s k why) refl;
  }
  after_kept (Begin k) a = record {
    legal = legal_push c.layout h (Begin k) o.legal a;
    has_places = length-set c.places k _ ∙ o.has_places;
    places_are = moved (Begin k) k Home a.1 (gives_begin k);
    waiting_is = simp growing (later k);
    running_is = simp growing (begins k a.2.0);
    closed_is = closed_on (Begin k) (refl, refl, refl);
    shut_is = shut_on (Begin k) (refl, refl, refl);
    has_drained_is = drained_on (Begin k) refl;
  }
  after_kept (Chain k) a = record {
    legal = legal_push c.layout h (Chain k) o.legal a;
    has_places = length-set c.places k _ ∙ o.has_places;
    places_are = moved (Chain k) k Owner (omega (arith, a.1)) (gives_chain k);
    waiting_is = simp growing (queued k);
    running_is = simp growing o.running_is;
    closed_is = closed_on (Chain k) (refl, refl, refl);
    shut_is = shut_on (Chain k) (refl, refl, refl);
    has_drained_is = drained_on (Chain k) refl;
  }
  after_kept (End k) a = record {
    legal = legal_push c.layout h (End k) o.legal a;
    has_places = o.has_places;
    places_are = unmoved (End k) (λ j x. refl);
    waiting_is = simp growing o.waiting_is;
    running_is = simp growing (ends k);
    closed_is = closed_on (End k) (refl, refl, refl);
    shut_is = shut_on (End k) (refl, refl, refl);
    has_drained_is = drained_on (End k) refl;
  }
  after_kept Close a = record {
    legal = legal_push c.layout h Close o.legal a;
    has_places = o.has_places;
    places_are = unmoved Close (λ j x. over x);
    waiting_is = simp growing o.waiting_is;
    running_is = simp growing o.running_is;
    closed_is = sym (closed_push_yes h Close refl);
    shut_is = sym (shut_close h Close refl);
    has_drained_is = drained_on Close refl;
  }
  after_kept Drain a = record {
    legal = legal_push c.layout h Drain o.legal a;
    has_places = o.has_places;
    places_are = unmoved Drain (λ j x. over x);
    waiting_is = simp growing o.waiting_is;
    running_is = simp growing o.running_is;
    closed_is = o.closed_is ∙ sym (closed_push_no h Drain refl);
    shut_is = sym (shut_drain h Drain refl refl);
    has_drained_is = (λ _. omega (arith, count_by_push is_drain h Drain), λ _. refl);
  }
  after_kept Resume a = record {
    legal = legal_push c.layout h Resume o.legal a;
    has_places = o.has_places;
    places_are = unmoved Resume (λ j x. refl);
    waiting_is = simp growing o.waiting_is;
    running_is = simp growing o.running_is;
    closed_is = o.closed_is ∙ sym (closed_push_no h Resume refl);
    shut_is = sym (shut_resume h Resume refl refl a.2.0.1);
    has_drained_is = drained_on Resume refl;
  }
  after_kept Take a = quiet Take a (λ j x. over x) (simp growing refl) (simp growing refl) (simp growing refl) (refl, refl, refl)
  after_kept Rest a = quiet Rest a (λ j x. refl) (simp growing refl) (simp growing refl) (simp growing refl) (refl, refl, refl)
  after_kept (Busy s k) a = quiet (Busy s k) a (λ j x. refl) (simp growing refl) (simp growing refl) (simp growing refl) (refl, refl, refl)
  after_kept (ChainBusy k) a =
      quiet (ChainBusy k) a (λ j x. refl) (simp growing refl) (simp growing refl) (simp growing refl) (refl, refl, refl)

few_left : (c : QueueState) (h : List Event) → StandsAfter c h → length c.waiting ≤ number_count c.layout
few_left c h o = omega (arith, ap length o.waiting_is, few_unbegun c.layout h o.legal)

-- a number that is queued finds room
pub room : (c : QueueState) (h : List Event) (e : Event) (k : ℕ) → StandsAfter c h → IsAllowed c.layout h e → (after_event c e).waiting ≡ c.waiting ++ k ∷ []
    → (after_event c e).layout ≡ c.layout → length c.waiting + 1 ≤ number_count c.layout
room c h e k o a grows same =
    let few' : length (after_event c e).waiting ≤ number_count (after_event c e).layout = few_left (after_event c e) (h ++ e ∷ []) (after_kept c h o e a) in
    omega (arith, ap length grows, length-append c.waiting (k ∷ []), ap number_count same)

pub told_opening : (layout : Layout) → StandsAfter (queue_state layout (replicate (number_count layout) Idle) [] None false false false) []
told_opening layout = record {
  legal = legal_nil layout;
  has_places = length-replicate _ _;
  places_are = λ k lt. all_alike (number_count layout) k Idle;
  waiting_is = refl;
  running_is = refl;
  closed_is = refl;
  shut_is = refl;
  has_drained_is = (λ is. absurd (false≢true is), λ is. absurd (omega (arith, is)));
}

-- each event that is allowed is followed
module _ (c : QueueState) (n : ℕ) (h : List Event) (o : StandsAfter c h) (e : Event) (size : n ≡ number_count c.layout) (a : IsAllowed c.layout h e) where
  pub kept_on : (after_event c e).layout ≡ c.layout → (n ≡ number_count (after_event c e).layout) × ((g : List Event) × StandsAfter (after_event c e) g)
  kept_on same = (size ∙ ap number_count (sym same), (h ++ e ∷ [], after_kept c h o e a))

  pub finds_room : (j : ℕ) → (after_event c e).waiting ≡ c.waiting ++ j ∷ [] → (after_event c e).layout ≡ c.layout
      → keep_last n (c.waiting ++ j ∷ []) ≡ c.waiting ++ j ∷ []
  finds_room j grows same =
      let fits = room c h e j o a grows same in
      let none : length (c.waiting ++ j ∷ []) - n ≡ 0 = omega (arith, fits, size, length-append c.waiting (j ∷ [])) in
      ap (λ m. drop m (c.waiting ++ j ∷ [])) none
