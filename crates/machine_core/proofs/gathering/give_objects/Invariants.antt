use Rattle.std.proofs.Common.{vec_len}
use Rattle.std.specs.List.{All}
use Rattle.machine_core.specs.Kernels.{IsLeft}
use Rattle.machine_core.proofs.Gathered.{Held}
use Rattle.machine_core.proofs.MoreHome.{Came}
use Rattle.machine_core.proofs.gathering.give_objects.Given as goal

-- what is left is of the frames' home, and what is gone has its pages at home
abbrev pub invariant-loop-object : goal.invariant-loop-object
invariant-loop-object l = Came Held l.initial.objects.items l.objects.items l.initial.frames l.frames × All (IsLeft l.initial.frames.home) l.objects.items

abbrev pub decreases-loop-object : goal.decreases-loop-object
decreases-loop-object l = vec_len l.objects
