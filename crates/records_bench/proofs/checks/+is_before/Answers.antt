use Rattle.std.proofs.Common.{sym}
use Rattle.record_frames.proofs.FrontTests.{before_none}
use Rattle.records_bench.proofs.checks.+is_before.Goals as goal

pub returns-in-None : goal.returns-in-None
returns-in-None t c = sym (before_none c.args.one.now c.args.other.now c.in-None.ensures.cases)
