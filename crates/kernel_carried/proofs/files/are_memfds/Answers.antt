use Rattle.ho_base.specs.Objects.{file_no}
use Rattle.machine_core.specs.Worlds.{states_in}
use Rattle.kernel_carried.specs.Gathered.{IsMemfdIn}
use Rattle.kernel_carried.proofs.Survey.{one_below, memfd_in}
use Rattle.kernel_carried.proofs.files.are_memfds.Goals as goal

pub loop-file-preserved : goal.loop-file-preserved
loop-file-preserved c =
    one_below (λ n. IsMemfdIn (states_in c.args.kernel.now.objects (file_no n))) c.loop-file.file c.loop-file.invariant
    (memfd_in c.args.kernel.now.objects c.loop-file.file _ c.file.ensures.at c.facts-facts.ensures.memfd)
