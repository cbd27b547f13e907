-- Each owned frame of a kernel whose world is sound stands in a run of a file, so all frames come home.
use Rattle.std.proofs.Common.{inr}
use Rattle.freeze_path.proofs.SoundKernel.{owns_runs}
use Rattle.handover_cli.proofs.rebooting.end_sound.Goals as goal

pub end-requires : goal.end-requires
end-requires c = c.gather.ensures.gathered (λ s p is within owned. inr (owns_runs c.args.kernel c.requires c.has_no_devices.ensures.memfds s p is owned))
