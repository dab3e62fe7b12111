-- The list stands newest first, and behind what was taken it is all that was accepted.
use Rattle.wq_words.proofs.Common.{◌≡◌, ℕ, ◌+◌, Bool, true, false, cond, List, [], ◌∷◌, ◌++◌, length, drop, reverse, None, refl, sym, ap, ◌∙◌, arith}
use Rattle.wq_words.proofs.Common.{length-append, count_by, before_last, after_last, append-nil, append_assoc, reverse-append, length-reverse, drop_at}
use Rattle.wq_words.proofs.Common.{fold_push, Layout, Event, Push, Take, Close, Chain, accepted_by, accepted, is_close, is_push, fresh, taken, MayFollow}
use Rattle.wq_words.proofs.Common.{IsLegal, Drain, Resume, is_drain, is_resume, is_cut, IsShut, shut}
use Rattle.wq_words.specs.Listed.{listed_after, listed}
use Rattle.wq_words.proofs.Growing.{count_by_push, filter_map_push_some, filter_map_push_none}
use Rattle.wq_words.proofs.Closed.{shut_from_IsShut, shut_from_open, shut_quiet, shut_close}
use Rattle.wq_words.proofs.Legal.{legal_induction}
use Rattle.wq_words.proofs.Lasts.{before_last_push_yes, before_last_push_no, after_last_push_yes, after_last_push_no}

module _ (h : List Event) (e : Event) where
  pub accepted_push_none : accepted_by e ≡ None → accepted (h ++ e ∷ []) ≡ accepted h
  accepted_push_none is = filter_map_push_none accepted_by h e is ∙ append-nil (accepted h)

pub taken_shut : (h : List Event) → shut h ≡ true → taken h ≡ length (accepted h)
taken_shut h is = rw is refl

pub taken_open : (h : List Event) → shut h ≡ false → taken h ≡ length (accepted (before_last is_cut h))
taken_open h is = rw is refl

-- of the parts of a history: whether it is shut, how many were taken, pushed since the last cut, what was accepted, and the list
pub record AreListed (shut : Bool) (taken fresh : ℕ) (accepted listed : List ℕ) : Type 0 where
  pub front : List ℕ
  pub front_taken : length front ≡ taken
  pub parts : accepted ≡ front ++ reverse listed
  pub open_fresh : shut ≡ false → fresh ≡ length listed
  pub shut_none : shut ≡ true → listed ≡ []

abbrev pub IsListed : List Event → Type 0
IsListed h = AreListed (shut h) (taken h) (fresh h) (accepted h) (listed h)

-- the event neither cuts nor closes
pub record CutsNothing (e : Event) : Type 0 where
  pub no_cut : is_cut e ≡ false
  pub no_drain : is_drain e ≡ false
  pub no_resume : is_resume e ≡ false
  pub no_close : is_close e ≡ false

module _ (h : List Event) (e : Event) (q : CutsNothing e) where
  shut_still : shut (h ++ e ∷ []) ≡ shut h
  shut_still = shut_quiet h e q.no_resume q.no_drain q.no_close

  pub taken_push_same : accepted_by e ≡ None → taken (h ++ e ∷ []) ≡ taken h
  taken_push_same no_accept = by (shut h) refl
    where
      by : (b : Bool) → shut h ≡ b → taken (h ++ e ∷ []) ≡ taken h
      by true is = taken_shut (h ++ e ∷ []) (shut_still ∙ is) ∙ ap length (accepted_push_none h e no_accept) ∙ sym (taken_shut h is)
      by false is =
          taken_open (h ++ e ∷ []) (shut_still ∙ is) ∙ ap (λ es. length (accepted es)) (before_last_push_no is_cut h e q.no_cut) ∙ sym (taken_open h is)

  pub fresh_push : fresh (h ++ e ∷ []) ≡ fresh h + cond (is_push e) 1 0
  fresh_push = ap (count_by is_push) (after_last_push_no is_cut h e q.no_cut) ∙ count_by_push is_push (after_last is_cut h) e

module _ (h : List Event) (e : Event) where
  -- a cut takes all that was accepted, whether or not the queue is shut by it
  pub taken_cut : is_cut e ≡ true → accepted_by e ≡ None → taken (h ++ e ∷ []) ≡ length (accepted h)
  taken_cut cuts no_accept = by (shut (h ++ e ∷ [])) refl
    where
      by : (b : Bool) → shut (h ++ e ∷ []) ≡ b → taken (h ++ e ∷ []) ≡ length (accepted h)
      by true is = taken_shut (h ++ e ∷ []) is ∙ ap length (accepted_push_none h e no_accept)
      by false is = taken_open (h ++ e ∷ []) is ∙ ap (λ es. length (accepted es)) (before_last_push_yes is_cut h e cuts)

  pub fresh_cut : is_cut e ≡ true → fresh (h ++ e ∷ []) ≡ 0
  fresh_cut cuts = ap (count_by is_push) (after_last_push_yes is_cut h e cuts)

pub taken_push_push : (h : List Event) (s k : ℕ) → shut h ≡ false → taken (h ++ Push s k ∷ []) ≡ taken h
taken_push_push h s k is =
    taken_open (h ++ Push s k ∷ []) (shut_quiet h (Push s k) refl refl refl ∙ is)
    ∙ ap (λ es. length (accepted es)) (before_last_push_no is_cut h (Push s k) refl)
    ∙ sym (taken_open h is)

listed_nil : IsListed []
listed_nil = record { front = []; front_taken = refl; parts = refl; open_fresh = λ _. refl; shut_none = λ _. refl }

pub quiet : {e : Event} → is_cut e ≡ false → is_drain e ≡ false → is_resume e ≡ false → is_close e ≡ false → CutsNothing e
quiet no_cut no_drain no_resume no_close = record { no_cut = no_cut; no_drain = no_drain; no_resume = no_resume; no_close = no_close }

listed_quiet : (h : List Event) (e : Event) → CutsNothing e → is_push e ≡ false → accepted_by e ≡ None → listed_after (listed h) e ≡ listed h
    → IsListed h → IsListed (h ++ e ∷ [])
listed_quiet h e q no_push no_accept no_list l =
    let still : shut (h ++ e ∷ []) ≡ shut h = shut_still h e q in
    let same : accepted (h ++ e ∷ []) ≡ accepted h = accepted_push_none h e no_accept in
    let list : listed (h ++ e ∷ []) ≡ listed h = fold_push listed_after [] h e ∙ no_list in
    let freshes : fresh (h ++ e ∷ []) ≡ fresh h = rw no_push at (fresh_push h e q) ∙ omega arith in
    record {
      front = l.front;
      front_taken = l.front_taken ∙ sym (taken_push_same h e q no_accept);
      parts = same ∙ l.parts ∙ ap (λ ks. l.front ++ reverse ks) (sym list);
      open_fresh = λ opens. freshes ∙ l.open_fresh (sym still ∙ opens) ∙ ap length (sym list);
      shut_none = λ is. list ∙ l.shut_none (sym still ∙ is);
    }

listed_push : (h : List Event) (s k : ℕ) → ¬ IsShut h → IsListed h → IsListed (h ++ Push s k ∷ [])
listed_push h s k opens l =
    let opened : shut h ≡ false = shut_from_open h opens in
    let still : shut (h ++ Push s k ∷ []) ≡ shut h = shut_quiet h (Push s k) refl refl refl in
    let more : accepted (h ++ Push s k ∷ []) ≡ accepted h ++ k ∷ [] = filter_map_push_some accepted_by h (Push s k) k refl in
    let list : listed (h ++ Push s k ∷ []) ≡ k ∷ listed h = fold_push listed_after [] h (Push s k) in
    record {
      front = l.front;
      front_taken = l.front_taken ∙ sym (taken_push_push h s k opened);
      parts =
          more ∙ ap (λ ks. ks ++ k ∷ []) l.parts ∙ append_assoc l.front (reverse (listed h)) (k ∷ [])
          ∙ ap (λ ks. l.front ++ ks) (sym (ap reverse list ∙ reverse-append (k ∷ []) (listed h)));
      open_fresh = λ _. fresh_push h (Push s k) (quiet refl refl refl refl) ∙ ap (λ n. n + 1) (l.open_fresh opened) ∙ sym (ap length list ∙ omega arith);
      shut_none = λ is. absurd (cc (still, opened, is));
    }

-- after an event that leaves nothing on the list all that was accepted is taken
listed_none : (h : List Event) (e : Event) → accepted_by e ≡ None → listed (h ++ e ∷ []) ≡ [] → taken (h ++ e ∷ []) ≡ length (accepted h)
    → (shut (h ++ e ∷ []) ≡ false → fresh (h ++ e ∷ []) ≡ 0) → IsListed (h ++ e ∷ [])
listed_none h e no_accept list all none =
    let same : accepted (h ++ e ∷ []) ≡ accepted h = accepted_push_none h e no_accept in
    record {
      front = accepted h;
      front_taken = sym all;
      parts = same ∙ sym (ap (λ ks. accepted h ++ reverse ks) list ∙ append-nil (accepted h));
      open_fresh = λ opens. none opens ∙ ap length (sym list);
      shut_none = λ _. list;
    }

listed_cut : (h : List Event) (e : Event) → is_cut e ≡ true → accepted_by e ≡ None → listed (h ++ e ∷ []) ≡ [] → IsListed (h ++ e ∷ [])
listed_cut h e cuts no_accept list = listed_none h e no_accept list (taken_cut h e cuts no_accept) (λ _. fresh_cut h e cuts)

listed_close : (h : List Event) → IsListed (h ++ Close ∷ [])
listed_close h =
    let now : shut (h ++ Close ∷ []) ≡ true = shut_close h Close refl in
    listed_none h Close refl (fold_push listed_after [] h Close) (taken_shut (h ++ Close ∷ []) now ∙ ap length (accepted_push_none h Close refl))
    (λ opens. absurd (cc (now, opens)))

listed_chain : (h : List Event) (k : ℕ) → IsShut h → IsListed h → IsListed (h ++ Chain k ∷ [])
listed_chain h k is l =
    let now : shut (h ++ Chain k ∷ []) ≡ true = shut_quiet h (Chain k) refl refl refl ∙ shut_from_IsShut h is in
    let list : listed (h ++ Chain k ∷ []) ≡ [] = fold_push listed_after [] h (Chain k) ∙ l.shut_none (shut_from_IsShut h is) in
    record {
      front = accepted (h ++ Chain k ∷ []);
      front_taken = sym (taken_shut (h ++ Chain k ∷ []) now);
      parts = sym (ap (λ ks. accepted (h ++ Chain k ∷ []) ++ reverse ks) list ∙ append-nil _);
      open_fresh = λ opens. absurd (cc (now, opens));
      shut_none = λ _. list;
    }

listed_after_event : (h : List Event) (e : Event) → MayFollow h e → IsListed h → IsListed (h ++ e ∷ [])
listed_after_event h (Push s k) may l = listed_push h s k may.1 l
listed_after_event h Take may l = listed_cut h Take refl refl (fold_push listed_after [] h Take)
listed_after_event h Drain may l = listed_cut h Drain refl refl (fold_push listed_after [] h Drain)
listed_after_event h Resume may l =
    listed_cut h Resume refl refl (fold_push listed_after [] h Resume ∙ l.shut_none (shut_from_IsShut h may.0.0))
listed_after_event h Close may l = listed_close h
listed_after_event h (Chain k) may l = listed_chain h k may.0 l
listed_after_event h _ may l = listed_quiet h _ (quiet refl refl refl refl) refl refl refl l

pub is_listed : (layout : Layout) (h : List Event) → IsLegal layout h → IsListed h
is_listed layout = legal_induction layout IsListed listed_nil (λ h e _ allowed l. listed_after_event h e allowed.2 l)

-- behind what was taken stands the list, oldest first
pub reverse-listed : (layout : Layout) (h : List Event) → IsLegal layout h → reverse (listed h) ≡ drop (taken h) (accepted h)
reverse-listed layout h legal =
    let l = is_listed layout h legal in
    sym (ap (drop (taken h)) l.parts ∙ drop_at l.front (reverse (listed h)) (taken h) l.front_taken)

pub length-accepted : (layout : Layout) (h : List Event) → IsLegal layout h → length (accepted h) ≡ taken h + length (listed h)
length-accepted layout h legal =
    let l = is_listed layout h legal in
    omega (arith, ap length l.parts, length-append l.front (reverse (listed h)), length-reverse (listed h), l.front_taken)

-- while the queue is open, a push now would be the first where the list is empty
pub fresh-open : (layout : Layout) (h : List Event) → IsLegal layout h → ¬ IsShut h → fresh h ≡ length (listed h)
fresh-open layout h legal opens = (is_listed layout h legal).open_fresh (shut_from_open h opens)

pub listed-shut : (layout : Layout) (h : List Event) → IsLegal layout h → IsShut h → listed h ≡ []
listed-shut layout h legal is = (is_listed layout h legal).shut_none (shut_from_IsShut h is)
