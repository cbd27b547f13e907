use Rattle.std.proofs.Common.{◌≡◌, ◌-◌, length, drop}
use Rattle.ho_events.specs.ByName.{among}
use Rattle.ho_events.proofs.by_name.find.Given as goal

-- nothing so far has the name
abbrev pub invariant-loop-i : goal.invariant-loop-i
invariant-loop-i g l = among l.name l.entries ≡ among l.name (drop l.i l.entries)

abbrev pub decreases-loop-i : goal.decreases-loop-i
decreases-loop-i g l = length l.entries - l.i
