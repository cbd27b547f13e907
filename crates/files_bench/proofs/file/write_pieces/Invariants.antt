use Rattle.std.proofs.Common.{◌≡◌}
use Rattle.files_bench.specs.Free.{IsFree}
use Rattle.files_bench.proofs.file.write_pieces.Given as goal

-- the file is still of the pool's home, and free
abbrev pub invariant-loop-number : goal.invariant-loop-number
invariant-loop-number l = (l.file.home ≡ l.pool.home) × IsFree l.order l.file.state
