use Rattle.std.proofs.Common.{◌≡◌, ◌++◌, take, length, map, replicate}
use Rattle.std.specs.List.{flat_map}
use Rattle.record_frames.specs.Sheets.{number, file_slot, file_slot_bytes}
use Rattle.record_frames.specs.Writing.{holding, file_records, frames_of, lists_of_files}
use Rattle.record_frames.proofs.writing.file_frames.write_file_frame.Given as goal

abbrev pub invariant-loop-i : goal.invariant-loop-i
invariant-loop-i l = record {
  front : l.folio ≡ holding l.fn.folio (((number 0 ++ number (length l.files)) ++ replicate 112 0) ++ flat_map file_slot_bytes (map file_slot (file_records (frames_of l.lists) (take l.i l.files))));
  lists : l.list ≡ lists_of_files (take l.i l.files);
}
