use Rattle.std.proofs.Common.{◌≡◌, ◌≤◌}
use Rattle.std.specs.Prelude.{option_map}
use Rattle.ho_world.specs.World.{World}
use Rattle.kexec_laws.specs.Kexecs.{kexec_number}
use Rattle.handover_cli.specs.Images.{seen}
use Rattle.handover_cli.specs.Stops.{BeginsBlocks}
use Rattle.handover_cli.proofs.Written.{Stands}
use Rattle.handover_cli.proofs.block_runner.run_blocks.Given as goal

-- the blocks so far are done and written with their images, the kernel is as their entries say, and the next kexec has
-- the next number
abbrev pub invariant-loop-block : goal.invariant-loop-block
invariant-loop-block g l = record {
  stands : (start : World) → BeginsBlocks start l.blocks l.fn.kernel → Stands start l.blocks l.block-index l.kernel (option_map (λ file. file.now) l.fn.images)
      (seen (g.H.Host.out l.fn.host) (g.H.Host.made l.fn.host) (g.H.Host.asked l.fn.host)) (seen (g.H.Host.out l.host) (g.H.Host.made l.host) (g.H.Host.asked l.host));
  number : l.number ≡ kexec_number l.blocks l.block-index;
  counts : g.H.Host.write_faults l.fn.host ≤ g.H.Host.write_faults l.host;
  sinks : g.H.Host.sinks_out l.host ≡ g.H.Host.sinks_out l.fn.host;
}
