use Rattle.std.proofs.Common.{map, take}
use Rattle.ho_world.specs.World.{World}
use Rattle.session_core.specs.SessionShown.{reference}
use Rattle.kernel_carried.specs.Gathered.{Agrees, AreFilesOf}
use Rattle.kernel_carried.proofs.gathering.carried_files.Given as goal

-- the files so far are those that are listed so far
abbrev pub invariant-loop-entry : goal.invariant-loop-entry
invariant-loop-entry l = (w : World) → Agrees w l.kernel.objects → AreFilesOf l.kernel.objects w (map reference (take l.entry-index l.listed)) l.files.items
