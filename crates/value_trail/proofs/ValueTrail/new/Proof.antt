-- `new` makes a struct without bytes, with the list that its clause names.
use Rattle.std.proofs.Common.{[], ◌∷◌, refl}
use seplogic.Ra.Ura.{Ura}
use mir.Syntax.{Fn, Args, a_type}
use mir.Val.{vstruct, vcons, vnil}
use mir.MapTy.{inst_fn}
use base.Logic.{SProp, ent}
use prog.Memory.{Memory}
use prog.Routine.{Routine}
use prog.Wp.{Calls, Loops, WpFn, Tables}
use contract.Monad.{Fun}
use contract.Running.{tables, tables_of}
use sound.WpLaws.{WpFn-mono}
use types.Logic.{Logic}
use types.Kit.{‵, raw, ◌⊛◌, ◌$◌, ◌∵◌, !, qed, move, keep, split, suffices, done}
use types.Part.{agg}
use types.Run.{enter, returns, and_then, no_more}
use types.ByLocal.{alloc_all, pass_all, free_all, look_at, get, sets}
use denote.RattleType.{RattleType, owns}
use denote.Param.{param, layouts}
use denote.Signature.{types_at}
use denote.Shadow.{pure_i}
use denote.Triple.Clauses.{Clauses, Ended, closing}
use denote.Triple.Entry.{alive}
use denote.Triple.Spec.{Meets, triple_of}
use denote.Triple.Table.{entered}
use denote.Triple.Walked.{says, Stays, walk_of, ends_at, walk_Meets}
use Rattle.value_trail.specs.contracts.ValueTrail as made
use Rattle.value_trail.specs.contracts.ValueTrail.new as f
use Rattle.value_trail.specs.contracts.ValueTrail.new.Key.{name as key}
use Rattle.value_trail.proofs.ValueTrail.new.Statement as stated
use Rattle.value_trail.proofs.ValueTrail.new.Code as code

module _ (V : RattleType) where
  abbrev of_value : Args
  of_value = layouts (a_type ∷ []) (V, tt)

  abbrev function : Fn
  function = inst_fn of_value code.function

  abbrev ended : Ended
  ended = f.ended V

  abbrev stayed : Stays ended.signature.params ended.kept
  stayed = tt

  abbrev empty : (made.the_row (param 0 V)).Denot
  empty = record { of = record {}; items = [] }

  module _ {M : Type 1} {𝓤 : Ura M} (𝓛 : Logic 𝓤) (mem : Memory → SProp 𝓤) (run : Routine → Fun 𝓤) where
    open 𝓛 use {H}

    abbrev clauses : Clauses 𝓤 ended
    clauses = f.clauses V 𝓛 mem run

    walks : (C : Calls 𝓤 H) (Λ : Loops 𝓤 H) (z : (walk_of 𝓛 ended stayed clauses).Ghost)
        → ent 𝓤 ((walk_of 𝓛 ended stayed clauses).pre z)
        (WpFn 𝓤 H C Λ function ((walk_of 𝓛 ended stayed clauses).args z) ((walk_of 𝓛 ended stayed clauses).post z))
    walks C Λ z =
        qed 𝓛 ((raw (alive 𝓛 ended.signature z.0.0 z.0.1) ⊛ ‵ (owns (types_at ended.signature.params z.0.0) z.0.3 z.0.4))
        ∷ raw ((clauses z.0.0 z.0.3).requires z.1) ∷ []) ∵
        keep ! (0 ∷ []) $ split ! $ keep ! (0 ∷ []) $
        enter ! C Λ function [] _ $ alloc_all ! (λ l. pass_all ! refl tt $
        sets ! (agg ! (no_more !)) refl (tt, tt) $
        sets ! (agg ! (and_then ! (get ! refl) (no_more !))) refl (tt, (tt, tt)) $
        returns ! (look_at ! 0 refl) $ free_all ! refl $
        suffices ! _ (ends_at 𝓛 ended stayed clauses z (vstruct (vcons (vstruct vnil) vnil)) empty tt tt) $ says ! refl $
        pure_i ! ((made.the_row (param 0 V)).own_val empty (vstruct (vcons (vstruct vnil) vnil) ∷ [])) ((λ vss. (tt, (((λ vss. (tt, tt))), tt))), tt)
        (((vstruct vnil ∷ [], tt), (refl, ((tt, (refl, tt)), tt))), tt) $
        move ! (1 ∷ 2 ∷ 0 ∷ []) $ done !)

    meets : (𝓣 : Tables 𝓤 H) → Meets 𝓛 ended.signature (WpFn 𝓤 H 𝓣.C 𝓣.Λ function) (closing 𝓛 ended clauses)
    meets 𝓣 =
        walk_Meets 𝓛 ended stayed tt clauses
        (WpFn 𝓤 H 𝓣.C 𝓣.Λ function) (WpFn-mono 𝓤 H 𝓛.laws 𝓣 function) (walks 𝓣.C 𝓣.Λ)

pub new_spec : {M : Type 1} → stated.statement M
unfolding tables_of
new_spec 𝓤 𝓛 𝓜 𝓡 wired V LV =
    let 𝓣 : Tables 𝓤 𝓛.H = tables_of 𝓤 𝓛.H 𝓜 (tables 𝓤 𝓛.H 𝓜 𝓡 𝓡.env) in
    entered 𝓤 𝓛.H (triple_of 𝓛 (ended V).signature (closing 𝓛 (ended V) (clauses V 𝓛 𝓜.mem 𝓡.returns))) 𝓣.C 𝓣.Λ (key (of_value V)) (function V)
    (code.unfolded 𝓤 𝓛.H 𝓜 𝓡 wired (V, tt)) (meets V 𝓛 𝓜.mem 𝓡.returns 𝓣)
