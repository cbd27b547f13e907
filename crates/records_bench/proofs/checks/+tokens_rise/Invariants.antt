use Rattle.std.proofs.Common.{length}
use Rattle.records_bench.proofs.checks.+tokens_rise.Given as goal

abbrev pub decreases-tokens_rise : goal.decreases-tokens_rise
decreases-tokens_rise l = length l.files.now
