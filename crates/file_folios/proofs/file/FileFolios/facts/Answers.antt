use Rattle.std.proofs.Common.{ap}
use Rattle.file_folios.proofs.FileStates.{facts_are}
use Rattle.file_folios.proofs.file.FileFolios.facts.Goals as goal

pub returns : goal.returns
returns c = facts_are c.args.self.now.state c.self.inside.home.value c.self.inside.kind c.self.inside.order c.self.inside.size c.self.inside.position c.self.inside.opened c.self.inside.pin c.self.inside.hold
    c.self.inside.slots.items c.self.invariant (ap (λ v. v.state) c.self.view_is)
