use Rattle.std.proofs.Common.{◌≡◌, ◌+◌, ◌-◌, ◌≤◌, length, drop}
use Rattle.session_core.specs.SessionShown.{smaller}
use Rattle.session_core.proofs.session.place_of.Given as goal

-- the files so far have smaller tokens
abbrev pub invariant-loop-i : goal.invariant-loop-i
invariant-loop-i l = (l.i ≤ length l.files) × (smaller l.token.0 l.files ≡ l.i + smaller l.token.0 (drop l.i l.files))

abbrev pub decreases-loop-i : goal.decreases-loop-i
decreases-loop-i l = length l.files - l.i
