use Rattle.wq_delay.proofs.Common.{◌≡◌, ◌<◌, true, List, [], length, get_or, take, filter, Option, sym, ap, ◌∙◌, subst, arith, DuePlace, DueItem, IsFirstDue}
use Rattle.wq_delay.proofs.Common.{stands, Rows}
use Rattle.wq_delay.proofs.Serving.{first_served, first_low}
use Rattle.wq_delay.proofs.timetable.Timetable.first_due.Goals as goal

pub returns-clause-first : goal.returns-clause-first
returns-clause-first c =
    let i = c.self.inside in let f = c.first_there-self-inside in let n = f.result in
    let places : List (Option DuePlace) = i.places.items in let row : List DueItem = i.row.items in
    let pv : c.deref.result.now ≡ places = c.deref.ensures.value in let rv : c.deref-2.result.now ≡ row = c.deref-2.ensures.value in
    let low : n < length row = let e = ap (length {A = DueItem}) rv in omega (arith, e, f.ensures.low, c.if-self-len.false, c.len.ensures, i.row.ok.0) in
    let before = subst (λ (z : List (Option DuePlace)). filter (stands z) (take i.front c.deref-2.result.now) ≡ []) (sym pv)
    (subst (λ (z : List DueItem). filter (stands places) (take i.front z) ≡ []) (sym rv) c.self.invariant.0.passed) in
    let passed = subst (λ (z : List (Option DuePlace)). filter (stands z) (take n row) ≡ []) pv
    (subst (λ (z : List DueItem). filter (stands c.deref.result.now) (take n z) ≡ []) rv (f.ensures.passed before)) in
    let e = c.index.result.now in
    let hit = ap (stands places) c.index.ensures ∙ subst (λ (z : List (Option DuePlace)). stands z (get_or row n e) ≡ true) pv
    (subst (λ (z : List DueItem). stands c.deref.result.now (get_or z n e) ≡ true) rv
    (f.ensures.there e (let q = ap (length {A = DueItem}) rv in omega (arith, low)))) in
    subst (λ (z : Rows). IsFirstDue z.tick e.item z.entries) c.self.view_is
    (first_served c.self.invariant.0 n e low passed c.index.ensures hit)

pub returns-clause-low : goal.returns-clause-low
returns-clause-low c =
    let i = c.self.inside in let e = c.index.result.now in
    subst (λ (z : Rows). IsFirstDue z.tick e.item z.entries → e.item < z.size) c.self.view_is (first_low i.places.items i.tick e.item c.self.invariant.0.apart)
    (returns-clause-first c)
