use Rattle.std.proofs.Common.{◌≡◌, take}
use Rattle.std.specs.List.{flat_map}
use Rattle.record_frames.specs.Sheets.{list_pages}
use Rattle.record_frames.specs.Writing.{frames_of, file_records, lists_of_files, with_pages}
use Rattle.record_frames.proofs.writing.list_frames.write_lists_of_files.Given as goal

abbrev pub invariant-loop-i : goal.invariant-loop-i
invariant-loop-i l = record {
  pages : l.folios ≡ with_pages l.fn.folios (flat_map list_pages (file_records (frames_of l.fn.folios) (take l.i l.files)));
  lists : l.list ≡ lists_of_files (take l.i l.files);
}
