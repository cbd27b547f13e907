use Rattle.std.proofs.Common.{◌≡◌, map, drop}
use Rattle.ho_io.specs.Memory.{held_by, named}
use Rattle.ho_io.proofs.mem_host.find_held.Given as goal

abbrev pub invariant-loop-pair : goal.invariant-loop-pair
invariant-loop-pair l = held_by l.name (map named l.holds) ≡ held_by l.name (map named (drop l.pair-index l.holds))
