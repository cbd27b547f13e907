use Rattle.std.proofs.Common.{ℕ, ◌<◌}
use Rattle.ho_base.specs.Objects.{file_no}
use Rattle.machine_core.specs.Worlds.{states_in}
use Rattle.kernel_carried.specs.Gathered.{IsMemfdIn}
use Rattle.kernel_carried.proofs.files.are_memfds.Given as goal

-- the files so far are memfds
abbrev pub invariant-loop-file : goal.invariant-loop-file
invariant-loop-file l = (n : ℕ) → n < l.file → IsMemfdIn (states_in l.kernel.objects (file_no n))
