-- The names that the walks of src/cells.rt share, and how the owners lie as machine values. Assumes `Logic`.
pub use Rattle.std.proofs.Common.{◌≡◌, ℕ, zero, suc, ◌+◌, ◌*◌, ◌^◌, ◌<◌, ◌≤◌, List, [], ◌∷◌, ◌++◌, length, map, take, set, get_or, replicate, Option, Some, None, refl, sym, ap, subst, ◌∙◌, arith, w8, w64, MutBor}
pub use Rattle.std.proofs.raw_atomic.Walks.{proved}
pub use lib.Dec.{lit<}
pub use base.Fraction.{full_share}
pub use base.Logic.{SProp, ent, sep, emp, never, never_e, via, id⊢}
pub use base.Fml.{Fml, Lft, GName, Share, ftrue, ffalse, fsep, fat, flft, fobs, fbor, froom}
pub use seplogic.Ra.Ura.{Ura}
pub use mir.Syntax.{named, ty_int, ty_array}
pub use mir.Val.{Val, vint, vptr, vunit, vstruct, vcons, vnil}
pub use prog.Wp.{WpFn}
pub use contract.Monad.{fact, fact_i, fact_use}
pub use contract.Running.{tables}
pub use types.Logic.{Logic, sem}
pub use types.Kit.{Item, Seq, Goal, ⋆, ‵, raw, ◌⊛◌, some, later, given, prop, at_ret, ◌$◌, ◌∵◌, !, qed, by, done, move, keep, drop, use0, use1, use2, use3, split, join, group, fsplit, fsplit3, fjoin, fjoin3, fpick, fpack, feq_i, feq_l, flt_i, flt_l, pick, learn, await, rewrite, regoal, suffices, frame}
pub use types.Part.{whole, sub, agg}
pub use types.Run.{enter, of_opd, lit, unit_lit, bin, init, stop, fld, no_more, and_then, assigns_last, first, blocks, exec, returns}
pub use types.ByLocal.{alloc_all, pass_all, free_all, look_at, get, get_in, through, sets, sets_last, env}
pub use denote.Builtin.{u8, usize, unit}
pub use denote.RattleType.{RattleType, owns}
pub use denote.Memory.{cell_at, mem, part_of, hidden_shr}
pub use denote.Plain.{uint_vals, uint_Tells, uint_in}
pub use denote.RawPtr.{Ptr, RawPtr, block_ptr, null_ptr, ptr_val, in_a_block}
pub use denote.Ref.{Bor, MutRef, ShrRef, mut_vals, mut_Tells, shr_vals, shr_Tells}
pub use denote.Signature.{Slot, plain, types_at}
pub use denote.Opens.{hide, unhide}
pub use denote.Steps.{nothing, opens, closes, heard}
pub use denote.Triple.Walked.{Stays, walk_of, says, stay_dropped, Goes-dropped, stay_ref, Goes-ref, ends_at}
pub use Rattle.std.proofs.alloc.Calls.{Goes-blank}
pub use Rattle.std.proofs.RcSteps.{word, word-Good}
pub use Rattle.phys_frames.specs.contracts.cells.Base.{the_row as Base}
pub use Rattle.phys_frames.specs.contracts.cells.Cells.{the_row as Cells}
pub use Rattle.phys_frames.specs.contracts.cells.Deed.{the_row as Deed}
pub use Rattle.std.specs.contracts.alloc.Global.{the_row as Heap}
pub use Rattle.phys_frames.proofs.cells.Base.TheLaws.{the_told as base_told}
pub use Rattle.phys_frames.proofs.cells.Cells.TheLaws.{the_told as cells_told}
pub use Rattle.phys_frames.proofs.cells.Deed.TheLaws.{the_told as deed_told}
use Rattle.std.proofs.Common.{ℕ, [], ◌∷◌}
use denote.Builtin.{RefOf, RefMutOf, u8, usize}
use denote.Signature.{Slot, plain}
use Rattle.phys_frames.specs.contracts.cells.Base.{the_row as base_row}
use Rattle.phys_frames.specs.contracts.cells.Cells.{the_row as cells_row}
use Rattle.phys_frames.specs.contracts.cells.Deed.{the_row as deed_row}
use Rattle.std.specs.contracts.alloc.Global.{the_row as heap_row}

-- the parameters: a reference to the owner, and what goes by value
abbrev pub seen_cells : Slot 1
seen_cells = RefOf (0 ∷ []) tt (plain (λ _. cells_row)) (λ _. tt)

abbrev pub a_base : {n : ℕ} → Slot n
a_base = plain (λ _. base_row)

abbrev pub a_number : {n : ℕ} → Slot n
a_number = plain (λ _. usize)

abbrev pub some_cells : {n : ℕ} → Slot n
some_cells = plain (λ _. cells_row)

abbrev pub a_deed : {n : ℕ} → Slot n
a_deed = plain (λ _. deed_row)

abbrev pub lent_cells : Slot 1
lent_cells = RefMutOf (0 ∷ []) tt (plain (λ _. cells_row)) (λ _. tt)

abbrev pub a_byte : {n : ℕ} → Slot n
a_byte = plain (λ _. u8)

abbrev pub seen_heap : Slot 1
seen_heap = RefOf (0 ∷ []) tt (plain (λ _. heap_row)) (λ _. tt)
