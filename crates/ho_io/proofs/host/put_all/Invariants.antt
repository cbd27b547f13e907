use Rattle.std.proofs.Common.{length, ◌-◌, ◌≡◌, ◌≤◌, take}
use Rattle.ho_io.specs.Told.{behind}
use Rattle.ho_io.proofs.host.put_all.Given as goal

abbrev pub invariant-loop-done : goal.invariant-loop-done
invariant-loop-done g l = record {
  within : l.done ≤ length l.bytes;
  out : g.H.Host.out l.host ≡ behind (g.H.Host.out l.fn.host) (take l.done l.bytes);
  counts : g.H.Host.write_faults l.fn.host ≤ g.H.Host.write_faults l.host;
  holds : g.H.Host.holds l.host ≡ g.H.Host.holds l.fn.host;
  made : g.H.Host.made l.host ≡ g.H.Host.made l.fn.host;
  asked : g.H.Host.asked l.host ≡ g.H.Host.asked l.fn.host;
  sinks : g.H.Host.sinks_out l.host ≡ g.H.Host.sinks_out l.fn.host;
  reads : g.H.Host.read_faults l.host ≡ g.H.Host.read_faults l.fn.host;
}

abbrev pub decreases-loop-done : goal.decreases-loop-done
decreases-loop-done g l = length l.bytes - l.done
