use Rattle.std.proofs.Common.{◌*◌, List, ℕ, length, refl, sym, ap, ◌∙◌}
use Rattle.ho_base.specs.declared.limits.TheConstants.{PAGE_BYTES}
use Rattle.phys_frames.specs.Memory.{FolioValue, frames_in, with_bytes, over}
use Rattle.phys_frames.proofs.Runs.{lent-here, lent-length, lent-bytes, seen-bytes, length-heres}
use Rattle.phys_frames.proofs.folio.Folio.bytes_mut.Goals as goal

pub invariant_of-self-lent : goal.invariant_of-self-lent
invariant_of-self-lent c =
    let i = c.self.inside in let inv = c.self.invariant in let count = inv.3 ∙ sym c.bytes_of-len.ensures in
    λ w. (inv.0, inv.1, lent-here c.bytes_of-len.result i.cells.slots inv.2 count w, lent-length c.bytes_of-len.result i.cells.slots inv.2 count w ∙ c.bytes_of-len.ensures, inv.4, inv.5, inv.6)

pub returns : goal.returns
returns c =
    let i = c.self.inside in let inv = c.self.invariant in let count = inv.3 ∙ sym c.bytes_of-len.ensures in
    let value = seen-bytes c.bytes_of-len.result i.cells.slots count c.slice_mut.result.now c.slice_mut.ensures.value in (
      (refl, λ w. ap (λ (bytes : List ℕ). record { first = i.first; order = i.order; bytes = bytes; home = i.home }) (lent-bytes c.bytes_of-len.result i.cells.slots inv.2 count w) ∙ ap (λ (r : FolioValue). with_bytes r (over r.bytes w)) c.self.view_is),
      record { writes_back = tt; value = value ∙ ap (λ (r : FolioValue). r.bytes) c.self.view_is; len = ap length value ∙ length-heres i.cells.slots inv.2 ∙ inv.3 ∙ ap (λ (r : FolioValue). frames_in r.order * PAGE_BYTES) c.self.view_is },
    )
