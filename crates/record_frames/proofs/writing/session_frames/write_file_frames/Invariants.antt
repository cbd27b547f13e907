use Rattle.std.proofs.Common.{◌≡◌, ◌≤◌, take, length}
use Rattle.record_frames.specs.Writing.{frames_of, file_pages, session_records, files_of_sessions, lists_of_sessions, with_pages}
use Rattle.record_frames.proofs.writing.session_frames.write_file_frames.Given as goal

abbrev pub invariant-loop-i : goal.invariant-loop-i
invariant-loop-i l = record {
  pages : l.files ≡ with_pages l.fn.files (file_pages (session_records (frames_of l.fn.files) (frames_of l.lists) (take l.i l.sessions)));
  frames : l.at ≡ files_of_sessions (take l.i l.sessions);
  listed : l.list ≡ lists_of_sessions (take l.i l.sessions);
  few : l.at ≤ length l.files;
  within : l.list ≤ length l.lists;
}
