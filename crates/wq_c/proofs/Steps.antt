-- What the walks cite.
pub use Rattle.std.proofs.Common.{◌≡◌, ℕ, List, [], ◌∷◌, refl, w32, w64, MutBor}
pub use Rattle.std.proofs.raw_atomic.Walks.{proved}
pub use base.Fraction.{full_share}
pub use base.Logic.{id⊢}
pub use base.Fml.{GName, ftrue, fat, fex, flft, fres, flent, fdead}
pub use mir.Syntax.{named}
pub use mir.Val.{Val, vint, vptr}
pub use contract.Monad.{fact}
pub use contract.Running.{tables}
pub use types.Kit.{‵, raw, ◌⊛◌, some, later, prop, ◌$◌, ◌∵◌, !, qed, done, move, keep, drop, use1, use2, use3, split, join, fsplit, fjoin}
pub use types.Kit.{fpack, pick, await, regoal, suffices, group}
pub use types.Run.{enter, of_opd, addr, stop, no_more, and_then, returns}
pub use types.ByLocal.{alloc_all, pass_all, free_all, look_at, get, through, sets, lands_as}
pub use types.Tokens.{lft_new, lft_end}
pub use types.SemTy.{Body as Lent}
pub use denote.Builtin.{u32, u64}
pub use denote.Exit.{yes}
pub use denote.Laws.{Is, shows}
pub use denote.Memory.{mem}
pub use denote.Plain.{uint_Makes, uint_Lawful, uint_vals, uint_Tells}
pub use denote.RawPtr.{Ptr, RawPtr, block_ptr, ptr_val, lies_at, in_a_block, rawptr_vals, rawptr_Tells}
pub use denote.Ref.{MutRef, mut_vals}
pub use denote.Lend.{LentRef, lends_ref, ref_back}
pub use denote.Signature.{plain}
pub use denote.Steps.{nothing, owned, peeks, heard}
pub use denote.Triple.Call.{calls_at}
pub use denote.Triple.Clauses.{Lasts, lasts}
pub use denote.Triple.Entry.{on_entry}
pub use denote.Triple.Spec.{triple_of}
pub use denote.Triple.Walked.{Stays, walk_of, stay_dropped, Goes-dropped, ends_at}
pub use denote.Triple.Table.{framed}
