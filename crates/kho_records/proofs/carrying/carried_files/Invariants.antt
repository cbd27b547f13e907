use Rattle.std.proofs.Common.{[], map}
use Rattle.record_frames.specs.Ram.{Ram}
use Rattle.record_frames.specs.State.{file_in}
use Rattle.kho_records.proofs.Adding.{Added}
use Rattle.kho_records.proofs.Shown.{one_file}
use Rattle.kho_records.proofs.carrying.carried_files.Given as goal

abbrev pub invariant-loop-file : goal.invariant-loop-file
invariant-loop-file l = (ram : Ram) → Added (one_file ram) [] l.files l.file-index (map (file_in ram) l.carried.items)
