use Rattle.std.proofs.Common.{rules}
use Rattle.kexec_boot.proofs.HeldSteps.{held_push}
use Rattle.kexec_boot.proofs.holding.add_file.Goals as goal

pub returns-clause-held : goal.returns-clause-held
returns-clause-held c =
    held_push c.args.pool.now.home c.args.files.now.items c.push.new.self.items c.args.file c.requires.held c.requires.number c.requires.home c.requires.history (search rules)
