use Rattle.std.proofs.Common.{arith}
use Rattle.phys_frames.proofs.Runs.{few_frames}
use Rattle.pool_core.proofs.frames.table.run_len.Goals as goal

pub returns-clause-few : goal.returns-clause-few
returns-clause-few c = omega (arith, few_frames c.args.order.0 c.requires)
