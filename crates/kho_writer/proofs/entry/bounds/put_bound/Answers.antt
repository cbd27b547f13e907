use Rattle.std.proofs.Common.{◌+◌, ◌*◌, arith}
use Rattle.kho_writer.proofs.Steps.{puts_none}
use Rattle.kho_writer.proofs.entry.bounds.put_bound.Goals as goal

pub returns-in-None-clause-put : goal.returns-in-None-clause-put
returns-in-None-clause-put c = rw c.in-None.is (puts_none c.args.folio.now (c.args.base + 20 * c.args.before) c.requires.size (omega (arith, c.requires.room, c.requires.few)))
