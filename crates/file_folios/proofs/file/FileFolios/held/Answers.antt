use Rattle.std.proofs.Common.{◌≡◌, ◌∙◌}
use Rattle.file_folios.proofs.HeldStates.{held_state}
use Rattle.file_folios.proofs.file.FileFolios.held.Goals as goal

pub returns-in-Ok-clause-state : goal.returns-in-Ok-clause-state
returns-in-Ok-clause-state c =
    c.with_slots.ensures.state ∙ held_state c.args.kind c.args.order c.args.size c.args.position c.in-Ok.slots.items c.args.folios.items c.in-Ok.ensures.items
