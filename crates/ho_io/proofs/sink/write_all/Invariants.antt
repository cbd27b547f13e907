use Rattle.std.proofs.Common.{length, ◌-◌, ◌≡◌, ◌≤◌, take}
use Rattle.ho_io.specs.Told.{behind}
use Rattle.ho_io.proofs.sink.write_all.Given as goal

abbrev pub invariant-loop-done : goal.invariant-loop-done
invariant-loop-done g l = record {
  within : l.done ≤ length l.bytes;
  written : g.S.Sink.written l.sink ≡ behind (g.S.Sink.written l.fn.sink) (take l.done l.bytes);
  named : g.S.Sink.name l.sink ≡ g.S.Sink.name l.fn.sink;
  counts : g.S.Sink.faults l.fn.sink ≤ g.S.Sink.faults l.sink;
}

abbrev pub decreases-loop-done : goal.decreases-loop-done
decreases-loop-done g l = length l.bytes - l.done
