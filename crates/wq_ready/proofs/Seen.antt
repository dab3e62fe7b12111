-- Lists of ready events, and those of one caller among them.
use Rattle.std.proofs.lemmas.List.Elements.{filter-append}
use Rattle.wq_ready.proofs.Common.{◌≡◌, ℕ, Bool, cond, eqb, ◌≢◌, List, [], ◌∷◌, ◌++◌, sym, refl, ap, ◌∙◌, append_assoc, arith, eq-eqb, ne_eqb, append-nil}
use Rattle.wq_ready.proofs.Common.{IsPrefix, nothing_more, Size, ReadyEvent, CallerState, CouldBe, caller_of, IsReadyLegal, own_ready, GrowsReady}
use Rattle.wq_ready.proofs.Legal.{legal_next}

own-append : (c : ℕ) (a b : List ReadyEvent) → own_ready c (a ++ b) ≡ own_ready c a ++ own_ready c b
own-append c a b = filter-append (λ e. eqb (caller_of e) c) a b

own_one : (c : ℕ) (e : ReadyEvent) → caller_of e ≡ c → own_ready c (e ∷ []) ≡ e ∷ []
own_one c e is = ap (λ (b : Bool). cond b (e ∷ []) []) (eq-eqb (caller_of e) c is)

-- an event is of no other caller
pub own_else : (c : ℕ) (h : List ReadyEvent) (e : ReadyEvent) → caller_of e ≢ c → own_ready c (h ++ e ∷ []) ≡ own_ready c h
own_else c h e ne =
    own-append c h (e ∷ []) ∙ (ap (λ (b : Bool). own_ready c h ++ cond b (e ∷ []) []) (ne_eqb (caller_of e) c ne) ∙ append-nil (own_ready c h))

-- what came new since the caller's last event has none of it
none_new : (c : ℕ) (seen new h : List ReadyEvent) → seen ++ new ≡ h → own_ready c h ≡ own_ready c seen → own_ready c new ≡ []
none_new c seen new h is mine = nothing_more (own_ready c seen) (own_ready c new) (sym (own-append c seen new) ∙ (ap (own_ready c) is ∙ mine))

pub grows_none : (c : ℕ) (seen h : List ReadyEvent) → IsPrefix seen h → own_ready c h ≡ own_ready c seen → GrowsReady c [] seen h
grows_none c seen h p mine = record { new = p.0; is = sym p.1; mine = none_new c seen p.0 h p.1 mine }

pub grows_one : (c : ℕ) (seen h : List ReadyEvent) (e : ReadyEvent) → IsPrefix seen h → own_ready c h ≡ own_ready c seen → caller_of e ≡ c
    → GrowsReady c (e ∷ []) seen (h ++ e ∷ [])
grows_one c seen h e p mine is = record {
  new = p.0 ++ e ∷ [];
  is = ap (λ (l : List ReadyEvent). l ++ e ∷ []) (sym p.1) ∙ append_assoc seen p.0 (e ∷ []);
  mine =
      own-append c p.0 (e ∷ []) ∙ (ap (λ (l : List ReadyEvent). l ++ own_ready c (e ∷ [])) (none_new c seen p.0 h p.1 mine) ∙ own_one c e is);
}

-- where there is one caller, nothing comes new without it
nobody_else : (size : Size) (c : ℕ) (seen new : List ReadyEvent) → size.callers ≡ 1 → c ≡ 0 → IsReadyLegal size (seen ++ new) → own_ready c new ≡ [] → new ≡ []
nobody_else size c seen [] one zero_is legal mine = refl
nobody_else size c seen (e ∷ es) one zero_is legal mine =
    let less = (legal_next size seen e es legal).has_caller in
    let same : caller_of e ≡ c = omega (arith, one, zero_is, less) in
    let there : own_ready c (e ∷ es) ≡ e ∷ own_ready c es = ap (λ (b : Bool). cond b (e ∷ own_ready c es) (own_ready c es)) (eq-eqb (caller_of e) c same) in
    absurd (cc (there, mine))

pub could_be_alone : (IsSuch : List ReadyEvent → Type 0) (caller : CallerState) → caller.ready.size.callers ≡ 1 → caller.number ≡ 0 → CouldBe IsSuch caller
    → IsSuch caller.seen
could_be_alone IsSuch caller one zero_is could =
    let g = could.grows in
    let none = nobody_else caller.ready.size caller.number caller.seen g.new one zero_is (rw g.is at could.legal) g.mine in
    let same : could.history ≡ caller.seen = g.is ∙ (ap (λ (l : List ReadyEvent). caller.seen ++ l) none ∙ append-nil caller.seen) in
    rw same at could.is_such
