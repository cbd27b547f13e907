-- The bytes of the frames so far were written.
use Rattle.std.proofs.Common.{◌≡◌, ◌≤◌, ◌-◌, length, take}
use Rattle.std.specs.List.{flat_map}
use Rattle.ho_io.specs.Told.{behind}
use Rattle.image_file.specs.Image.{page_bytes}
use Rattle.image_file.proofs.writer.write_frames.Given as goal

abbrev pub invariant-loop-done : goal.invariant-loop-done
invariant-loop-done g l = record {
  within : l.done ≤ length l.frames.pages;
  written : g.S.Sink.written l.sink ≡ behind (g.S.Sink.written l.fn.sink) (flat_map page_bytes (take l.done l.frames.pages));
  named : g.S.Sink.name l.sink ≡ g.S.Sink.name l.fn.sink;
  counts : g.S.Sink.faults l.fn.sink ≤ g.S.Sink.faults l.sink;
}

abbrev pub decreases-loop-done : goal.decreases-loop-done
decreases-loop-done g l = length l.frames.pages - l.done
