use Rattle.std.proofs.Common.{◌≡◌, ◌≤◌, take, length}
use Rattle.std.specs.List.{flat_map}
use Rattle.record_frames.specs.Sheets.{list_pages}
use Rattle.record_frames.specs.Writing.{frames_of, file_records, files_in, lists_of_files, with_pages}
use Rattle.record_frames.proofs.writing.session_frames.write_list_frames.Given as goal

abbrev pub invariant-loop-i : goal.invariant-loop-i
invariant-loop-i l = record {
  pages : l.lists ≡ with_pages l.fn.lists (flat_map list_pages (file_records (frames_of l.fn.lists) (files_in (take l.i l.sessions))));
  lists : l.list ≡ lists_of_files (files_in (take l.i l.sessions));
  end : l.end ≡ length l.fn.lists;
  within : l.list ≤ l.end;
}
