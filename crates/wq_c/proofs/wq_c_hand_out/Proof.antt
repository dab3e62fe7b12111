-- `wq_c_hand_out`: both seats are lent to the call, and lie there again after it.
use Rattle.wq_c.proofs.Steps.{◌≡◌, ℕ, List, [], ◌∷◌, refl, w32, w64, MutBor, proved, full_share, id⊢, GName, fat, fex, flft, fres, flent}
use Rattle.wq_c.proofs.Steps.{fdead, ftrue, named, Val, vint, vptr, fact, tables, ‵, raw, ◌⊛◌, some, later, prop, ◌$◌, ◌∵◌, !, qed, done}
use Rattle.wq_c.proofs.Steps.{move, keep, drop, use1, use2, use3, split, join, fsplit, fjoin, fpack, pick, await, regoal, suffices, group}
use Rattle.wq_c.proofs.Steps.{enter, of_opd, addr, stop, no_more, and_then, returns, alloc_all, pass_all, free_all, look_at, get, through}
use Rattle.wq_c.proofs.Steps.{sets, lands_as, u32, u64, yes, shows, Is, uint_Makes, uint_Lawful, uint_vals, uint_Tells, Ptr, RawPtr}
use Rattle.wq_c.proofs.Steps.{block_ptr, ptr_val, lies_at, in_a_block, rawptr_vals, rawptr_Tells, MutRef, mut_vals, plain, nothing, owned}
use Rattle.wq_c.proofs.Steps.{peeks, heard, calls_at, Lasts, lasts, on_entry, triple_of, Stays, walk_of, stay_dropped, Goes-dropped, ends_at}
use Rattle.wq_c.proofs.Steps.{framed, lft_new, lft_end, LentRef, lends_ref, ref_back, mem, Lent}
use prog.Wp.{WpFn}
use types.Kit.{Goal}
use base.Fml.{Fml, fsep}
use Rattle.wq_seats.specs.Words.{SaidHandOut}
use Rattle.wq_c.specs.contracts.wq_c_hand_out as f
use Rattle.wq_c.proofs.wq_c_hand_out.Statement.{statement}
use Rattle.wq_c.proofs.wq_c_hand_out.Code as code
use Rattle.wq_seats.specs.contracts.word.hand_out_word as g
use Rattle.wq_seats.proofs.word.hand_out_word.Met.{met}
use Rattle.wq_seats.specs.contracts.seat.Seat.{the_row as R}

abbrev stayed : Stays f.ended.signature.params f.ended.kept
stayed = (stay_dropped _ yes, (stay_dropped _ yes, tt))

pub wq_c_hand_out_spec : {M : Type 1} → statement M
wq_c_hand_out_spec 𝓤 𝓛 𝓜 𝓡 wired =
    let c = f.clauses 𝓛 𝓜.mem 𝓡.returns in let W = walk_of 𝓛 f.ended stayed c in let 𝓣 = tables 𝓤 𝓛.H 𝓜 𝓡 𝓡.env in
    let G = triple_of 𝓛 g.signature (g.spec 𝓛 𝓜.mem 𝓡.returns) in
    let goes = Goes-dropped 𝓛 0 (plain (λ _. RawPtr)) yes (λ κs x w. refl) in
    proved 𝓛 f.ended stayed c 𝓜 𝓡 (goes, (goes, tt))
    f.Key.name code.function (code.unfolded 𝓤 𝓛.H 𝓜 𝓡 wired)
    (λ κs. (rawptr_vals, (rawptr_vals, tt))) (λ κs. (rawptr_Tells, (rawptr_Tells, tt))) (λ κs qs bounds a s are.
    let Y : Ptr → Ptr → W.Ghost = λ p p'. ((κs, qs, bounds, (p, (p', tt)), (rawptr_vals p, (rawptr_vals p', tt))), s) in
    let Run : Ptr → Ptr → Goal 𝓤 𝓛.H = λ p p'. prop (WpFn 𝓤 𝓛.H 𝓣.C 𝓣.Λ code.function (ptr_val p ∷ ptr_val p' ∷ []) (W.post (Y p p'))) in
    qed 𝓛 (raw (on_entry 𝓛 f.signature κs qs a (Y a.0 a.1.0).0.4) ∷ ‵ (lies_at R full_share a.0 s.0) ∷ ‵ (lies_at R full_share a.1.0 s.1) ∷ []) ∵ drop ! $
    in_a_block ! a.0 (λ p. lies_at R full_share p s.0) (id⊢ 𝓤 _) (λ b o e. move ! (1 ∷ []) $
    in_a_block ! a.1.0 (λ p. lies_at R full_share p s.1) (id⊢ 𝓤 _) (λ b' o' e'.
    regoal ! (λ p. Run p a.1.0) e refl $ regoal ! (λ p. Run (block_ptr b o) p) e' refl $
    enter ! 𝓣.C 𝓣.Λ code.function (vptr b o ∷ vptr b' o' ∷ []) (W.post (Y (block_ptr b o) (block_ptr b' o'))) $
    alloc_all ! (λ l. pass_all ! refl ((tt, tt), ((tt, tt), tt)) $
    -- [the second seat; the first; the locals]
    sets ! (of_opd ! (get ! refl)) refl (tt, tt) $ sets ! (addr ! (through ! refl (stop !))) refl (tt, tt) $
    sets ! (of_opd ! (get ! refl)) refl (tt, tt) $ sets ! (addr ! (through ! refl (stop !))) refl (tt, tt) $
    lft_new ! tt (λ α'. let κ' : List ℕ = α' ∷ [] in move ! (1 ∷ []) $
    use1 𝓛 (later (some (λ (γ : GName).
    ‵ ((MutRef (named 1) κ' R).own_val (record { ref_ptr = (b', o'); ghost_name = γ; now = s.1 }) (vptr b' o' ∷ []))
    ⊛ ‵ (flent κ' (Lent (mem R) b' o' γ)))))
    (lends_ref 𝓛 R (named 1) κ' s.1 b' o') $ await ! tt $ pick ! (λ γ'. split ! $ move ! (3 ∷ []) $
    -- [the first seat; the second reference; what its lender keeps; its token; the locals]
    lft_new ! tt (λ α. let κ : List ℕ = α ∷ [] in move ! (1 ∷ []) $
    use1 𝓛 (later (some (λ (γ : GName).
    ‵ ((MutRef (named 0) κ R).own_val (record { ref_ptr = (b, o); ghost_name = γ; now = s.0 }) (vptr b o ∷ []))
    ⊛ ‵ (flent κ (Lent (mem R) b o γ)))))
    (lends_ref 𝓛 R (named 0) κ s.0 b o) $ await ! tt $ pick ! (λ γ. split ! $
    -- [the first reference; what its lender keeps; its token; the second reference; what its lender keeps; its token; the locals]
    let r : MutBor R.Denot = record { ref_ptr = (b, o); ghost_name = γ; now = s.0 } in
    let r' : MutBor R.Denot = record { ref_ptr = (b', o'); ghost_name = γ'; now = s.1 } in
    let z : G.Ghost = (((κ, (κ', tt)), (full_share, (full_share, tt)), tt, (r, (r', tt)), (vptr b o ∷ [], (vptr b' o' ∷ [], tt))), tt) in
    nothing ! $ move ! (4 ∷ 0 ∷ []) $ join ! $ move ! (1 ∷ 0 ∷ []) $ join ! $
    -- [both references; what the first lender keeps; its token; what the second lender keeps; its token; the locals]
    nothing ! $ move ! (5 ∷ 0 ∷ []) $ join ! $ move ! (3 ∷ 0 ∷ []) $ join ! $ join ! $ nothing ! $ move ! (1 ∷ 0 ∷ []) $ use2 𝓛 (raw (G.pre z)) (id⊢ 𝓤 _) $
    calls_at ! (framed 𝓤 𝓛.H 𝓜 𝓣) G (met 𝓤 𝓛 𝓜 𝓡 (code.calls-wq_seats::word::hand_out_word 𝓡.env wired)) z
    (and_then ! (get ! refl) (and_then ! (get ! refl) (no_more !))) (λ v.
    use1 𝓛 (later (some (λ (n : ℕ). ((‵ (flft κ full_share) ⊛ (‵ (flft κ' full_share) ⊛ ‵ ftrue)) ⊛ ‵ (u64.own_val n (v ∷ []))) ⊛
    some (λ (ws : Lasts g.ended z.0.0 z.0.3). ‵ (lasts g.ended z.0.0 z.0.3 ws) ⊛ raw (fact 𝓤 (SaidHandOut n s.0 s.1 ws.0 ws.1.0)))))) (id⊢ 𝓤 _) $
    await ! tt $ pick ! (λ n. split ! $ split ! $ split ! $ lft_end ! tt $ move ! (1 ∷ []) $ split ! $ lft_end ! tt $ move ! (3 ∷ []) $
    -- [the result; the second lifetime is over; true; the first is over; the rest; what the lenders keep]
    peeks ! u64 (Is u64) (shows 𝓛 u64) n (v ∷ []) (λ is. lands_as ! refl refl ((uint_Lawful 𝓛 w64).typed n _ is).0 $
    move ! (4 ∷ []) $ pick ! (λ ws. split ! $ move ! (1 ∷ []) $ heard ! (SaidHandOut n s.0 s.1 ws.0 ws.1.0) (λ said. nothing ! $ move ! (1 ∷ 0 ∷ []) $
    fsplit ! $ fsplit ! $ move ! (2 ∷ []) $ fsplit ! $ fsplit ! $
    -- [the second's last value; its rest; the others'; the first's last value; its rest; true; the result; the second is over; true;
    -- the first is over; what the first lender keeps; what the second keeps]
    move ! (9 ∷ 10 ∷ 3 ∷ []) $ use3 𝓛 (later (‵ (lies_at R full_share (block_ptr b o) ws.0))) (ref_back 𝓛 R κ γ ws.0 b o) $ await ! tt $
    -- [the first seat; the second's last value; its rest; the others'; the first's rest; true; the result; the second is over; true;
    -- what the second lender keeps]
    move ! (7 ∷ 9 ∷ 1 ∷ []) $ use3 𝓛 (later (‵ (lies_at R full_share (block_ptr b' o') ws.1.0))) (ref_back 𝓛 R κ' γ' ws.1.0 b' o') $ await ! tt $
    -- [the second seat; the first seat; the second's rest; the others'; the first's rest; true; the result; true]
    let Both : R.Denot → R.Denot → Fml = λ t t'. fsep (lies_at R full_share (block_ptr b o) t) (lies_at R full_share (block_ptr b' o') t') in
    move ! (1 ∷ 0 ∷ []) $ fjoin ! $ fpack ! (SaidHandOut n s.0 s.1 ws.0 ws.1.0) (λ _. Both ws.0 ws.1.0) said $
    fpack ! R.Denot (λ t'. fex (SaidHandOut n s.0 s.1 ws.0 t') (λ _. Both ws.0 t')) ws.1.0 $
    fpack ! R.Denot (λ t. fex R.Denot (λ t'. fex (SaidHandOut n s.0 s.1 t t') (λ _. Both t t'))) ws.0 $
    returns ! (look_at ! 0 refl) $ free_all ! refl $ keep ! (5 ∷ 0 ∷ []) $
    suffices ! _ (ends_at 𝓛 f.ended stayed c (Y (block_ptr b o) (block_ptr b' o')) v n (tt, (tt, tt)) (tt, (tt, tt))) $
    nothing ! $ nothing ! $ join ! $ nothing ! $ join ! $ nothing ! $ group ! 3 $ done !)))))))))))))
