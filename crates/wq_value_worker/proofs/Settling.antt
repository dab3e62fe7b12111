-- The pairs of a run, as far as they were dealt with.
use Rattle.wq_value_worker.proofs.Common.{◌≡◌, ℕ, true, false, if◌then◌else◌, List, [], ◌∷◌, ◌++◌, Option, Some, inl, inr, refl, sym, ap, ◌∙◌, subst}
use Rattle.wq_value_worker.proofs.Common.{append_assoc, append-nil, Event, shut, IsRunning, IsLegal, owner_seat, KnownValuePair, owner_of, learnt_on}
use Rattle.wq_value_worker.proofs.Common.{StaysOr, KeepsHanded, numbers_in, queueing_seat, brought_in}
use Rattle.std.proofs.lemmas.List.{map-append}
use Rattle.wq_value_worker.specs.Returned.{GivenBack, none, values_in}
use Rattle.wq_value_worker.specs.Dealt.{DealsPair, IsContendedPair, BothDealAll, BothDealOut, settles, contends}
use Rattle.wq_value_worker.proofs.Deals.{deals_push, deals_follow}
use Rattle.wq_worker.proofs.Follow.{quiet_follows, queues_since}
use Rattle.wq_worker.proofs.Owned.{Stays, quiet_stays, owner_of_both}
use Rattle.wq_worker.proofs.Pair.{both_on, both_still}
use Rattle.wq_value_worker.proofs.Returned.{given_on}

pub kept_on : {V : Type 0} (old mid new : KnownValuePair V) → StaysOr KeepsHanded old mid → StaysOr KeepsHanded mid new → StaysOr KeepsHanded old new
kept_on {V} old mid new (inl same) kept = subst (λ (p : KnownValuePair V). StaysOr KeepsHanded p new) same kept
kept_on {V} old mid new (inr kept) (inl same) = subst (λ (p : KnownValuePair V). StaysOr KeepsHanded old p) (sym same) (inr kept)
kept_on old mid new (inr a) (inr b) = inr (record {
  learnt = learnt_on (owner_of old) (owner_of mid) (owner_of new) a.learnt b.learnt;
  handed_same = b.handed_same ∙ a.handed_same;
})

module _ {V W : Type 0} (log given : W → List (ℕ × V)) (takes : W → ℕ → V → W → Type 0) where
  -- of the pairs ps those before `left` were dealt with
  pub record DealtSofar (ps left : List (ℕ × V)) (a b : W) (old new : KnownValuePair V) : Type 0 where
    pub done : List (ℕ × V)
    pub events : List Event
    pub queued : List (ℕ × V)
    pub returned : List (ℕ × V)
    pub split : ps ≡ done ++ left
    pub all : BothDealAll log given takes done events queued returned a b old new

  pub dealt_none : (ps : List (ℕ × V)) (a : W) (p : KnownValuePair V) → IsLegal p.known.layout p.known.seen → DealtSofar ps ps a a p p
  dealt_none ps a p legal = record {
    done = [];
    events = [];
    queued = [];
    returned = [];
    split = refl;
    all = record {
      deals = (refl, refl, refl);
      both = both_still p.known legal;
      brings = sym (append-nil (brought_in (queueing_seat p.known.seen p.known.number) p));
      kept = inl refl;
      gives = none a;
      log_is = refl;
      given_is = sym (append-nil (given a));
    };
  }

  pub dealt_stays : {ps left : List (ℕ × V)} {a b : W} {old new : KnownValuePair V} → DealtSofar ps left a b old new → Stays old.known.seen new.known.seen
  dealt_stays {old = old} {new = new} f =
      let n = old.known.layout.items in let s = old.known.number in let is_shut = shut old.known.seen in let t = f.all in
      quiet_stays f.events old.known.seen new.known.seen
      (quiet_follows n s is_shut (numbers_in f.done) f.events (deals_follow n s is_shut f.done f.events f.queued f.returned t.deals))
      (owner_of_both s f.events 0 old.known.seen new.known.seen t.both.adds)

  pub dealt_runs : {ps left : List (ℕ × V)} {a b : W} {old new : KnownValuePair V} → DealtSofar ps left a b old new → IsRunning old.known.seen
      → IsRunning new.known.seen
  dealt_runs f runs = let k = dealt_stays f in rw (k.begun_same, k.ended_same) runs

  -- the same seat queues on
  pub seat_still : {ps left : List (ℕ × V)} {a b : W} {old mid : KnownValuePair V} → DealtSofar ps left a b old mid
      → queueing_seat mid.known.seen mid.known.number ≡ queueing_seat old.known.seen old.known.number
  seat_still f = let same = dealt_stays f in λ i. if same.phase.shut_same i then owner_seat else f.all.both.number_is i

  -- one pair more
  pub dealt_more : {ps from left q r : List (ℕ × V)} {k : ℕ} {v : V} {es : List Event} {a b c : W} {old mid new : KnownValuePair V}
      → DealtSofar ps from a b old mid → from ≡ (k, v) ∷ left → DealsPair k v es q r mid new → GivenBack takes r b c → log c ≡ log b
      → given c ≡ given b ++ r → DealtSofar ps left a c old new
  dealt_more {left = left} {q = q} {r = r} {k = k} {v = v} {es = es} {a = a} {b = b} {c = c} {old = old} {mid = mid} {new = new}
      f next one gives logged returned =
      let n = old.known.layout.items in let s = old.known.number in let t = f.all in let same = dealt_stays f in let seat = seat_still f in
      let seat_was = queueing_seat old.known.seen old.known.number in
      let here : brought_in seat_was new ≡ brought_in seat_was mid ++ values_in q =
      subst (λ (z : ℕ). brought_in z new ≡ brought_in z mid ++ values_in q) seat one.brings in
      record {
        done = f.done ++ (k, v) ∷ [];
        events = f.events ++ es;
        queued = f.queued ++ q;
        returned = f.returned ++ r;
        split = f.split ∙ (ap (λ (z : List (ℕ × V)). f.done ++ z) next ∙ sym (append_assoc f.done ((k, v) ∷ []) left));
        all = record {
          deals = deals_push n s (shut old.known.seen) f.done k v f.events es f.queued q f.returned r t.deals
              (queues_since f.events 0 k es old.known mid.known t.both same one.queues) one.deals;
          both = both_on f.events es 0 0 old.known mid.known new.known t.both one.both;
          brings = here ∙ (ap (λ (z : List (Option V)). z ++ values_in q) t.brings ∙
              (append_assoc (brought_in seat_was old) (values_in f.queued) (values_in q) ∙
              ap (λ (z : List (Option V)). brought_in seat_was old ++ z) (sym (map-append (λ (p : ℕ × V). Some p.1) f.queued q))));
          kept = kept_on old mid new t.kept one.kept;
          gives = given_on takes f.returned r a b c t.gives gives;
          log_is = logged ∙ t.log_is;
          given_is = returned ∙ (ap (λ (z : List (ℕ × V)). z ++ r) t.given_is ∙ append_assoc (given a) f.returned r);
        };
      }

  pub dealt_all : {ps from now : List (ℕ × V)} {a b : W} {old new : KnownValuePair V} (tries : ℕ) → DealtSofar ps from a b old new → from ≡ [] → now ≡ []
      → BothDealOut log given takes tries true ps now a b old new
  dealt_all {ps = ps} {a = a} {b = b} {old = old} {new = new} tries f empty none_left =
      let split : f.done ≡ ps = sym (f.split ∙ (ap (λ (z : List (ℕ × V)). f.done ++ z) empty ∙ append-nil f.done)) in
      subst (λ (z : List (ℕ × V)). BothDealOut log given takes tries true ps z a b old new) (sym none_left)
      (subst (λ (z : List (ℕ × V)). BothDealOut log given takes tries true z [] a b old new) split
      (settles f.done f.events f.queued f.returned a b old new f.all))

  pub dealt_owed : {ps from more now : List (ℕ × V)} {k tries : ℕ} {v : V} {a b : W} {old mid new : KnownValuePair V} → DealtSofar ps from a b old mid
      → from ≡ (k, v) ∷ more → IsContendedPair k tries mid new → now ≡ (k, v) ∷ more → BothDealOut log given takes tries false ps now a b old new
  dealt_owed {ps = ps} {more = more} {k = k} {tries = tries} {v = v} {a = a} {b = b} {old = old} {mid = mid} {new = new} f next lost left =
      let split : f.done ++ (k, v) ∷ more ≡ ps = sym (f.split ∙ ap (λ (z : List (ℕ × V)). f.done ++ z) next) in
      subst (λ (z : List (ℕ × V)). BothDealOut log given takes tries false ps z a b old new) (sym left)
      (subst (λ (z : List (ℕ × V)). BothDealOut log given takes tries false z ((k, v) ∷ more) a b old new) split
      (contends f.done k v more f.events f.queued f.returned a b old mid new f.all lost))
