-- A round ends no kernel.
use Rattle.handover_cli.proofs.Ends.{round_left}
use Rattle.handover_cli.proofs.block_runner.run_block.Goals as goal

pub returns-in-Round : goal.returns-in-Round
returns-in-Round c = round_left c.run_round.result c.args.number c.args.kernel _ _ c.args.block.now c.in-Round.is c.as_slice.ensures c.run_round.ensures
