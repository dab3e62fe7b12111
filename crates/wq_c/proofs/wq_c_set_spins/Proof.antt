-- `wq_c_set_spins`: the seat is lent to the call, and lies there again after it. `checks/walks.py` writes this file.
use Rattle.wq_c.proofs.Steps.{◌≡◌, ℕ, List, [], ◌∷◌, refl, w32, w64, MutBor, proved, full_share, id⊢, GName, fat, fex, flft, fres, flent}
use Rattle.wq_c.proofs.Steps.{fdead, ftrue, named, Val, vint, vptr, fact, tables, ‵, raw, ◌⊛◌, some, later, prop, ◌$◌, ◌∵◌, !, qed, done}
use Rattle.wq_c.proofs.Steps.{move, keep, drop, use1, use2, use3, split, join, fsplit, fjoin, fpack, pick, await, regoal, suffices, group}
use Rattle.wq_c.proofs.Steps.{enter, of_opd, addr, stop, no_more, and_then, returns, alloc_all, pass_all, free_all, look_at, get, through}
use Rattle.wq_c.proofs.Steps.{sets, lands_as, u32, u64, yes, shows, Is, uint_Makes, uint_Lawful, uint_vals, uint_Tells, Ptr, RawPtr}
use Rattle.wq_c.proofs.Steps.{block_ptr, ptr_val, lies_at, in_a_block, rawptr_vals, rawptr_Tells, MutRef, mut_vals, plain, nothing, owned}
use Rattle.wq_c.proofs.Steps.{peeks, heard, calls_at, Lasts, lasts, on_entry, triple_of, Stays, walk_of, stay_dropped, Goes-dropped, ends_at}
use Rattle.wq_c.proofs.Steps.{framed, lft_new, lft_end, LentRef, lends_ref, ref_back, mem, Lent}
use prog.Wp.{WpFn}
use Rattle.wq_c.specs.contracts.wq_c_set_spins as f
use Rattle.wq_c.proofs.wq_c_set_spins.Statement.{statement}
use Rattle.wq_c.proofs.wq_c_set_spins.Code as code
use Rattle.wq_seats.specs.contracts.word.set_spins_word as g
use Rattle.wq_seats.proofs.word.set_spins_word.Met.{met}
use Rattle.wq_seats.specs.contracts.seat.Seat.{the_row as R}
use Rattle.wq_seats.specs.Words.{SaidSetSpins}

abbrev stayed : Stays f.ended.signature.params f.ended.kept
stayed = (stay_dropped _ yes, (stay_dropped _ yes, tt))

pub wq_c_set_spins_spec : {M : Type 1} → statement M
wq_c_set_spins_spec 𝓤 𝓛 𝓜 𝓡 wired =
    let c = f.clauses 𝓛 𝓜.mem 𝓡.returns in let W = walk_of 𝓛 f.ended stayed c in let 𝓣 = tables 𝓤 𝓛.H 𝓜 𝓡 𝓡.env in
    let G = triple_of 𝓛 g.signature (g.spec 𝓛 𝓜.mem 𝓡.returns) in
    proved 𝓛 f.ended stayed c 𝓜 𝓡 (
      Goes-dropped 𝓛 0 (plain (λ _. RawPtr)) yes (λ κs x w. refl),
      (Goes-dropped 𝓛 0 (plain (λ _. u32)) yes (λ κs x w. refl), tt),
    )
    f.Key.name code.function (code.unfolded 𝓤 𝓛.H 𝓜 𝓡 wired)
    (λ κs. (rawptr_vals, (uint_vals w32, tt)))
    (λ κs. (rawptr_Tells, (uint_Tells w32, tt))) (λ κs qs bounds a s are.
    let x0 = a.1.0 in let f0 = are.1.0.1 in
    let Y : Ptr → W.Ghost = λ p. (
      (
        κs,
        qs,
        bounds,
        (p, (x0, tt)),
        (rawptr_vals p, (vint w32 x0 ∷ [], tt)),
      ),
      s,
    ) in
    let Run : Ptr → _ = λ p. prop (WpFn 𝓤 𝓛.H 𝓣.C 𝓣.Λ code.function (ptr_val p ∷ vint w32 x0 ∷ []) (W.post (Y p))) in
    qed 𝓛 (raw (on_entry 𝓛 f.signature κs qs a (Y a.0).0.4) ∷ ‵ (lies_at R full_share a.0 s) ∷ []) ∵ drop ! $
    in_a_block ! a.0 (λ p. lies_at R full_share p s) (id⊢ 𝓤 _) (λ b o e.
    regoal ! Run e refl $
    enter ! _ _ _ _ _ $ alloc_all ! (λ l. pass_all ! refl
    ((tt, tt), ((tt, record { fits = f0 }), tt)) $
    -- [the seat; the locals]
    sets ! (of_opd ! (get ! refl)) refl (tt, tt) $ sets ! (addr ! (through ! refl (stop !))) refl (tt, tt) $
    lft_new ! tt (λ α. let κ : List ℕ = α ∷ [] in move ! (1 ∷ []) $
    use1 𝓛 (later (some (λ (γ : GName).
    ‵ ((MutRef (named 0) κ R).own_val (record { ref_ptr = (b, o); ghost_name = γ; now = s }) (vptr b o ∷ []))
    ⊛ ‵ (flent κ (Lent (mem R) b o γ)))))
    (lends_ref 𝓛 R (named 0) κ s b o) $ await ! tt $ pick ! (λ γ. split ! $
    -- [the reference; what the lender keeps; the token; the locals]
    let r : MutBor R.Denot = record { ref_ptr = (b, o); ghost_name = γ; now = s } in
    let z : G.Ghost = (
      (
        (κ, tt),
        (full_share, tt),
        tt,
        (r, (x0, tt)),
        (vptr b o ∷ [], (vint w32 x0 ∷ [], tt)),
      ),
      tt,
    ) in
    nothing ! $
    owned ! u32 _ (uint_Makes 𝓛 w32) x0 _ (refl, f0) $ join ! $
    move ! (1 ∷ 0 ∷ []) $ join ! $ nothing ! $ move ! (3 ∷ 0 ∷ []) $ join ! $ join ! $ nothing ! $
    move ! (1 ∷ 0 ∷ []) $ use2 𝓛 (raw (G.pre z)) (id⊢ 𝓤 _) $
    calls_at ! (framed 𝓤 𝓛.H 𝓜 𝓣) G (met 𝓤 𝓛 𝓜 𝓡 (code.calls-wq_seats::word::set_spins_word 𝓡.env wired)) z
    (and_then ! (get ! refl) (and_then ! (get ! refl) (no_more !))) (λ v.
    use1 𝓛 (later (some (λ (n : ℕ). ((‵ (flft κ full_share) ⊛ ‵ ftrue) ⊛ ‵ (u64.own_val n (v ∷ []))) ⊛
    some (λ (ws : Lasts g.ended z.0.0 z.0.3). ‵ (lasts g.ended z.0.0 z.0.3 ws) ⊛ raw (fact 𝓤 (SaidSetSpins n s ws.0)))))) (id⊢ 𝓤 _) $
    await ! tt $ pick ! (λ n. split ! $ split ! $ split ! $ lft_end ! tt $ move ! (2 ∷ []) $
    peeks ! u64 (Is u64) (shows 𝓛 u64) n (v ∷ []) (λ is. lands_as ! refl refl ((uint_Lawful 𝓛 w64).typed n _ is).0 $
    move ! (3 ∷ []) $ pick ! (λ ws. split ! $ move ! (1 ∷ []) $ heard ! (SaidSetSpins n s ws.0) (λ said. nothing ! $
    move ! (1 ∷ 0 ∷ []) $ fsplit ! $ fsplit ! $
    -- [the last value; what is left of the reference; the others'; true; the result; the lifetime is over; true; what the lender keeps]
    move ! (5 ∷ 7 ∷ 0 ∷ []) $ use3 𝓛 (later (‵ (lies_at R full_share (block_ptr b o) ws.0))) (ref_back 𝓛 R κ γ ws.0 b o) $ await ! tt $
    fpack ! (SaidSetSpins n s ws.0) (λ _. lies_at R full_share (block_ptr b o) ws.0) said $
    fpack ! R.Denot (λ t. fex (SaidSetSpins n s t) (λ _. lies_at R full_share (block_ptr b o) t)) ws.0 $
    returns ! (look_at ! 0 refl) $ free_all ! refl $ keep ! (4 ∷ 0 ∷ []) $
    suffices ! _ (ends_at 𝓛 f.ended stayed c (Y (block_ptr b o)) v n (tt, (tt, tt))
    (tt, (tt, tt))) $
    nothing ! $ nothing ! $ join ! $ nothing ! $ join ! $
    nothing ! $ group ! 3 $ done !))))))))))
