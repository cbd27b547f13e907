-- The 63 bytes begin with the bytes that were copied, and the rest are zeros.
use Rattle.std.proofs.Common.{sym, ◌∙◌}
use Rattle.std.proofs.lemmas.List.{drop-replicate}
use Rattle.ho_base.proofs.Padded.{name_fits}
use Rattle.ho_base.proofs.name.Name.checked.Goals as goal

pub invariant_of-result : goal.invariant_of-result
invariant_of-result c =
    name_fits _ _ _ c.copy_from_slice.ensures.after (drop-replicate _ 63 0)
    (sym c.is_name.ensures.exact ∙ c.if-not-is_name.false)
