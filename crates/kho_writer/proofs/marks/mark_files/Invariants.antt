use Rattle.std.proofs.Common.{◌≡◌, IsTrue, drop}
use Rattle.std.specs.List.{list_all}
use Rattle.kho_laws.specs.Sessions.{is_carried_file}
use Rattle.kho_writer.specs.Marking.{with_files}
use Rattle.kho_writer.proofs.marks.mark_files.Given as goal

-- with the files that are left, the set is the one that is wanted, and these can be carried too
abbrev pub invariant-loop-file : goal.invariant-loop-file
invariant-loop-file l = record {
  frames : l.tracker.frames ≡ l.fn.tracker.frames;
  marked : with_files l.tracker.runs (drop l.file-index l.files) ≡ with_files l.fn.tracker.runs l.files;
  left : IsTrue (list_all (is_carried_file l.fn.tracker.frames) (drop l.file-index l.files));
}
