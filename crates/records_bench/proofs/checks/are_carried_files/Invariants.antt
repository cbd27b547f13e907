use Rattle.std.proofs.Common.{IsTrue, take}
use Rattle.std.specs.List.{list_all}
use Rattle.kho_laws.specs.Sessions.{is_carried_file}
use Rattle.records_bench.specs.FileTests.{is_memfd}
use Rattle.records_bench.proofs.checks.are_carried_files.Given as goal

-- the files so far are memfds that can be carried
abbrev pub invariant-loop-file : goal.invariant-loop-file
invariant-loop-file l = record {
  can : IsTrue (list_all (is_carried_file l.frames) (take l.file-index l.files));
  memfds : IsTrue (list_all is_memfd (take l.file-index l.files));
}
