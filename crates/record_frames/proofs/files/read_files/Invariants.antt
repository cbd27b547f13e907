use Rattle.std.proofs.Common.{◌≡◌}
use Rattle.record_frames.specs.Reading.{file_at}
use Rattle.record_frames.specs.Slots.{file_view}
use Rattle.record_frames.specs.Files.{file_record}
use Rattle.record_frames.specs.Sheeted.{ram_of}
use Rattle.record_frames.proofs.EachItem.{AreRead}
use Rattle.record_frames.proofs.files.read_files.Given as goal

abbrev pub invariant-loop-slot : goal.invariant-loop-slot
invariant-loop-slot l = record {
  read : AreRead (file_at (ram_of l.frames)) l.fn.seen.numbers file_view file_record l.slots l.slot-index l.files.items l.seen.numbers;
  count : l.seen.count ≡ l.fn.seen.count;
}
