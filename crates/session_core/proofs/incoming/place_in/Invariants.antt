use Rattle.std.proofs.Common.{◌≡◌, ◌+◌, ◌-◌, ◌≤◌, length, drop}
use Rattle.session_core.specs.SessionShown.{before}
use Rattle.session_core.proofs.incoming.place_in.Given as goal

-- the files so far have other tokens
abbrev pub invariant-loop-i : goal.invariant-loop-i
invariant-loop-i l = (l.i ≤ length l.files) × (before l.token.0 l.files ≡ l.i + before l.token.0 (drop l.i l.files))

abbrev pub decreases-loop-i : goal.decreases-loop-i
decreases-loop-i l = length l.files - l.i
