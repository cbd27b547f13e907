use Rattle.std.proofs.Common.{length, ap, sym, ◌∙◌}
use Rattle.file_folios.proofs.FileStates.{state_long}
use Rattle.file_folios.proofs.file.FileFolios.size.Goals as goal

pub returns-clause-value : goal.returns-clause-value
returns-clause-value c = sym (state_long c.self.inside.home.value c.self.inside.order c.self.inside.size c.self.inside.slots.items c.self.invariant) ∙ ap (λ v. length v.state.bytes) c.self.view_is
