-- The 64 bytes begin with the bytes that were copied, and the rest are zeros.
use Rattle.std.proofs.Common.{arith}
use Rattle.std.proofs.lemmas.List.{drop-replicate}
use Rattle.ho_base.proofs.Padded.{bound_fits}
use Rattle.ho_base.proofs.bound.Bound.checked.Goals as goal

pub invariant_of-result : goal.invariant_of-result
invariant_of-result c = bound_fits _ _ _ c.copy_from_slice.ensures.after (drop-replicate _ 64 0) (omega arith)
