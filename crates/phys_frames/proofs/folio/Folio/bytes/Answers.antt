use Rattle.std.proofs.Common.{sym, ap, ◌∙◌}
use Rattle.phys_frames.specs.Memory.{FolioValue}
use Rattle.phys_frames.proofs.Runs.{seen-bytes}
use Rattle.phys_frames.proofs.folio.Folio.bytes.Goals as goal

pub returns-clause-value : goal.returns-clause-value
returns-clause-value c =
    seen-bytes c.bytes_of.result c.self.inside.cells.slots (c.self.invariant.3 ∙ sym c.bytes_of.ensures) c.slice.result.now c.slice.ensures ∙ ap (λ (r : FolioValue). r.bytes) c.self.view_is
