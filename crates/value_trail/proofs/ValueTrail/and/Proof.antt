-- `and` makes a struct without bytes, with the list that its clause names.
use Rattle.std.proofs.Common.{[], ◌∷◌, ◌++◌, refl, w32}
use Rattle.std.proofs.raw_atomic.Walks.{proved}
use mir.Syntax.{Args, a_type, named}
use mir.Val.{vstruct, vcons, vnil}
use mir.MapTy.{inst_fn}
use contract.Running.{tables}
use types.Kit.{‵, raw, ◌⊛◌, ◌$◌, ◌∵◌, !, qed, move, keep, drop, split, fjoin, suffices, done}
use types.Run.{no_more, and_then, returns, enter}
use types.Part.{agg}
use types.ByLocal.{alloc_all, pass_all, free_all, look_at, get, sets}
use denote.RattleType.{RattleType, owns}
use denote.Builtin.{u32, RefOf}
use denote.Exit.{yes}
use denote.Param.{param, layouts}
use denote.Plain.{uint_vals, uint_Tells}
use denote.Ref.{shr_vals, shr_Tells}
use denote.Shadow.{pure_i}
use denote.Signature.{types_at, plain}
use denote.Steps.{nothing}
use denote.Triple.Entry.{alive}
use denote.Triple.Walked.{says, Stays, walk_of, stay_dropped, Goes-dropped, ends_at}
use Rattle.value_trail.specs.contracts.ValueTrail as made
use Rattle.value_trail.specs.contracts.ValueTrail.and as f
use Rattle.value_trail.proofs.ValueTrail.and.Statement.{statement}
use Rattle.value_trail.proofs.ValueTrail.and.Code as code

module _ (V : RattleType) where
  abbrev of_value : Args
  of_value = layouts (a_type ∷ []) (V, tt)

  abbrev stayed : Stays (f.ended V).signature.params (f.ended V).kept
  stayed = (
    stay_dropped (RefOf (0 ∷ []) tt (plain (λ _. made.the_row (param 0 V))) (λ _. tt)) yes,
    (stay_dropped (plain (λ _. u32)) yes, (stay_dropped (RefOf (1 ∷ []) tt (plain (λ _. param 0 V)) (λ _. tt)) yes, tt)),
  )

pub and_spec : {M : Type 1} → statement M
and_spec 𝓤 𝓛 𝓜 𝓡 wired V LV =
    let s = f.ended V in let c = f.clauses V 𝓛 𝓜.mem 𝓡.returns in let W = walk_of 𝓛 s (stayed V) c in let 𝓣 = tables 𝓤 𝓛.H 𝓜 𝓡 𝓡.env in
    proved 𝓛 s (stayed V) c 𝓜 𝓡 (
      Goes-dropped 𝓛 3 (RefOf (0 ∷ []) tt (plain (λ _. made.the_row (param 0 V))) (λ _. tt)) yes (λ κs x w. refl),
      (
        Goes-dropped 𝓛 3 (plain (λ _. u32)) yes (λ κs x w. refl),
        (Goes-dropped 𝓛 3 (RefOf (1 ∷ []) tt (plain (λ _. param 0 V)) (λ _. tt)) yes (λ κs x w. refl), tt),
      ),
    )
    (f.Key.name (of_value V)) (inst_fn (of_value V) code.function) (code.unfolded 𝓤 𝓛.H 𝓜 𝓡 wired (V, tt))
    (λ κs. (shr_vals, (uint_vals w32, (shr_vals, tt))))
    (λ κs. (shr_Tells (named 0) κs.0 (made.the_row (param 0 V)), (uint_Tells w32, (shr_Tells (named 1) κs.1.0 (param 0 V), tt))))
    (λ κs qs bounds a g are.
    let y : W.Ghost = ((κs, qs, bounds, a, (shr_vals a.0, (uint_vals w32 a.1.0, (shr_vals a.1.1.0, tt)))), g) in
    let r : (made.the_row (param 0 V)).Denot = record { of = record {}; items = a.0.now.items ++ (a.1.0, a.1.1.0.now) ∷ [] } in
    qed 𝓛 ((raw (alive 𝓛 s.signature κs qs) ⊛ ‵ (owns (types_at s.signature.params κs) a y.0.4)) ∷ raw ((c κs a).requires g) ∷ []) ∵
    keep ! (0 ∷ []) $ split ! $ move ! (1 ∷ []) $ drop ! $
    enter ! _ _ _ _ _ $ alloc_all ! (λ l. pass_all ! refl ((tt, tt), ((tt, record { fits = are.1.0.1 }), ((tt, tt), tt))) $
    sets ! (agg ! (no_more !)) refl (tt, tt) $
    sets ! (agg ! (and_then ! (get ! refl) (no_more !))) refl (tt, (tt, tt)) $
    returns ! (look_at ! 0 refl) $ free_all ! refl $
    suffices ! _ (ends_at 𝓛 s (stayed V) c y (vstruct (vcons (vstruct vnil) vnil)) r (tt, (tt, (tt, tt))) (tt, (tt, (tt, tt)))) $
    says ! refl $ pure_i ! ((made.the_row (param 0 V)).own_val r (vstruct (vcons (vstruct vnil) vnil) ∷ [])) ((λ vss. (tt, (((λ vss. (tt, tt))), tt))), tt)
    (((vstruct vnil ∷ [], tt), (refl, ((tt, (refl, tt)), tt))), tt) $
    nothing ! $ nothing ! $ fjoin ! $ nothing ! $ fjoin ! $ nothing ! $ fjoin ! $ move ! (2 ∷ 0 ∷ 1 ∷ []) $ done !))
