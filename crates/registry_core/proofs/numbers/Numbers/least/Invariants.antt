use Rattle.std.proofs.Common.{◌≡◌}
use Rattle.registry_core.specs.UsedNumbers.{AreUsedBelow}
use Rattle.registry_core.proofs.numbers.Numbers.least.Given as goal

-- the flags stay, and each number so far is in use
abbrev pub invariant-loop-number : goal.invariant-loop-number
invariant-loop-number l = (l.self-inside.used.items ≡ l.initial.self-inside.used.items) × AreUsedBelow l.number l.self-inside.used.items
