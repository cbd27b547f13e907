use Rattle.ho_world.specs.World.{World}
use Rattle.kernel_carried.specs.Gathered.{Agrees, ListFiles}
use Rattle.kernel_carried.proofs.files.list_files.Given as goal

-- the slots so far list files
abbrev pub invariant-loop-slot : goal.invariant-loop-slot
invariant-loop-slot l = (w : World) → Agrees w l.kernel.objects → ListFiles w l.slot
