-- The names that proofs of ghost data cite, which walk the code, passed on from one place. Declares nothing.
pub use mathlib.Core.Path.{refl}
pub use mathlib.Core.List.{[], ◌∷◌}
pub use seplogic.Ra.Ura.{Ura}
pub use mir.Val.{vstruct, vnil, Val, vptr}
pub use base.Logic.{SProp, ent, emp, via, fst∗}
pub use prog.Memory.{Memory}
pub use prog.Routine.{Routine}
pub use prog.Wp.{Calls, Loops, WpFn, Tables}
pub use types.Logic.{Logic}
pub use contract.Monad.{Fun}
pub use sound.WpLaws.{WpFn-mono}
pub use types.Kit.{‵, raw, ◌$◌, ◌∵◌, !, qed, move, suffices, done}
pub use types.Run.{no_more, returns, enter}
pub use types.Part.{agg}
pub use types.ByLocal.{alloc_all, pass_all, free_all, look_at, sets}
pub use denote.RattleType.{owns}
pub use denote.Shadow.{pure_i}
pub use denote.Triple.Entry.{on_entry, alive, Args}
pub use denote.Triple.Spec.{Meets, triple_of}
pub use denote.Triple.Table.{entered}
pub use denote.Triple.Walked.{says, Stays, walk_of, Walks, ends_at, walked, walk_Meets, stay_none_ref, Goes-none_ref}
pub use mir.Syntax.{named}
pub use base.Fml.{Fml}
pub use contract.Lifetimes.{Lfts, Shares}
pub use denote.Exit.{yes}
pub use denote.Ref.{shr_vals, shr_Tells}
pub use denote.Signature.{plain, types_at}
