-- `wq_c_init`: a vacant seat is made, and written into the room.
use Rattle.wq_c.proofs.Steps.{◌≡◌, ℕ, List, [], ◌∷◌, refl, w32, w64, MutBor, proved, full_share, id⊢, GName, fat, fex, flft, fres, flent}
use Rattle.wq_c.proofs.Steps.{fdead, ftrue, named, Val, vint, vptr, fact, tables, ‵, raw, ◌⊛◌, some, later, prop, ◌$◌, ◌∵◌, !, qed, done}
use Rattle.wq_c.proofs.Steps.{move, keep, drop, use1, use2, use3, split, join, fsplit, fjoin, fpack, pick, await, regoal, suffices, group}
use Rattle.wq_c.proofs.Steps.{enter, of_opd, addr, stop, no_more, and_then, returns, alloc_all, pass_all, free_all, look_at, get, through}
use Rattle.wq_c.proofs.Steps.{sets, lands_as, u32, u64, yes, shows, Is, uint_Makes, uint_Lawful, uint_vals, uint_Tells, Ptr, RawPtr}
use Rattle.wq_c.proofs.Steps.{block_ptr, ptr_val, lies_at, in_a_block, rawptr_vals, rawptr_Tells, MutRef, mut_vals, plain, nothing, owned}
use Rattle.wq_c.proofs.Steps.{peeks, heard, calls_at, Lasts, lasts, on_entry, triple_of, Stays, walk_of, stay_dropped, Goes-dropped, ends_at}
use Rattle.wq_c.proofs.Steps.{framed, lft_new, lft_end, LentRef, lends_ref, ref_back, mem, Lent}
use prog.Wp.{WpFn}
use mir.Val.{vunit}
use types.Kit.{feq_i, rewrite}
use types.Run.{init, unit_lit, assigns}
use denote.Memory.{part_at}
use denote.RawPtr.{room_at}
use borrow.Table.OneValue.{part_in}
use Rattle.wq_c.specs.contracts.wq_c_init as f
use Rattle.wq_c.proofs.wq_c_init.Statement.{statement}
use Rattle.wq_c.proofs.wq_c_init.Code as code
use Rattle.wq_seats.specs.contracts.seat.vacant as g
use Rattle.wq_seats.proofs.seat.vacant.Met.{met}
use Rattle.wq_seats.specs.contracts.seat.Seat.{the_row as R}
use Rattle.wq_seats.proofs.seat.Seat.TheLaws.{the_row_laws}
use Rattle.wq_seats.specs.declared.seat.Seat.TheVariants.{Vacant}

abbrev stayed : Stays f.ended.signature.params f.ended.kept
stayed = (stay_dropped _ yes, tt)

pub wq_c_init_spec : {M : Type 1} → statement M
wq_c_init_spec 𝓤 𝓛 𝓜 𝓡 wired =
    let c = f.clauses 𝓛 𝓜.mem 𝓡.returns in let W = walk_of 𝓛 f.ended stayed c in let 𝓣 = tables 𝓤 𝓛.H 𝓜 𝓡 𝓡.env in
    let G = triple_of 𝓛 g.signature (g.spec 𝓛 𝓜.mem 𝓡.returns) in
    proved 𝓛 f.ended stayed c 𝓜 𝓡 (Goes-dropped 𝓛 0 (plain (λ _. RawPtr)) yes (λ κs x w. refl), tt)
    f.Key.name code.function (code.unfolded 𝓤 𝓛.H 𝓜 𝓡 wired)
    (λ κs. (rawptr_vals, tt)) (λ κs. (rawptr_Tells, tt)) (λ κs qs bounds a s are.
    let Y : Ptr → W.Ghost = λ p. ((κs, qs, bounds, (p, tt), (rawptr_vals p, tt)), s) in
    let Run : Ptr → _ = λ p. prop (WpFn 𝓤 𝓛.H 𝓣.C 𝓣.Λ code.function (ptr_val p ∷ []) (W.post (Y p))) in
    let z : G.Ghost = ((tt, tt, tt, tt, tt), tt) in
    qed 𝓛 (raw (on_entry 𝓛 f.signature κs qs a (Y a.0).0.4) ∷ ‵ (room_at R a.0) ∷ []) ∵ drop ! $
    in_a_block ! a.0 (λ p. room_at R p) (id⊢ 𝓤 _) (λ b o e.
    regoal ! Run e refl $
    enter ! _ _ _ _ _ $ alloc_all ! (λ l. pass_all ! refl ((tt, tt), tt) $
    -- [the room; the locals]
    sets ! (of_opd ! (get ! refl)) refl (tt, tt) $
    nothing ! $ nothing ! $ join ! $ nothing ! $ move ! (1 ∷ 0 ∷ []) $ use2 𝓛 (raw (G.pre z)) (id⊢ 𝓤 _) $
    calls_at ! (framed 𝓤 𝓛.H 𝓜 𝓣) G (met 𝓤 𝓛 𝓜 𝓡 (code.calls-wq_seats::seat::vacant 𝓡.env wired)) z (no_more !) (λ v.
    use1 𝓛 (later (some (λ (x : R.Denot). (‵ ftrue ⊛ ‵ (R.own_val x (v ∷ []))) ⊛
    some (λ (ws : Lasts g.ended z.0.0 z.0.3). ‵ (lasts g.ended z.0.0 z.0.3 ws) ⊛ raw (fact 𝓤 (x ≡ Vacant)))))) (id⊢ 𝓤 _) $
    await ! tt $ pick ! (λ x. split ! $ split ! $ drop ! $
    peeks ! R (Is R) (shows 𝓛 R) x (v ∷ []) (λ is. let good = ((the_row_laws.lawful 𝓛).typed x _ is).0 in
    lands_as ! refl refl good $ move ! (1 ∷ []) $ pick ! (λ ws. split ! $ drop ! $ heard ! (x ≡ Vacant) (λ is_vacant.
    -- [what the seat owns; the room; the locals]
    assigns ! (of_opd ! (get ! refl)) (through ! refl (stop !)) (init ! 1 refl good) $
    sets ! (of_opd ! (unit_lit !)) refl (tt, tt) $
    move ! (1 ∷ 0 ∷ []) $ use2 𝓛 (‵ (part_at R full_share x b o)) (part_in 𝓛 R refl full_share x b o v) $
    rewrite ! 0 (λ (t : R.Denot). ‵ (lies_at R full_share (block_ptr b o) t)) is_vacant refl $
    returns ! (look_at ! 0 refl) $ free_all ! refl $
    suffices ! _ (ends_at 𝓛 f.ended stayed c (Y (block_ptr b o)) vunit tt (tt, tt) (tt, tt)) $
    feq_i ! _ (vunit ∷ []) _ refl $ nothing ! $ nothing ! $ join ! $ nothing ! $ group ! 3 $ done !))))))))
