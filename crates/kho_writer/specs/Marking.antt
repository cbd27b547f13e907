-- Runs that are marked one after another, as the program marks those of files.
use Rattle.std.specs.Prelude.{ℕ, List, [], ◌∷◌}
use Rattle.std.specs.FinSet as set
use Rattle.ho_base.specs.declared.numbers.Pfn.{Pfn}
use Rattle.folio_bitmaps.specs.Runs.{Runs}
use Rattle.record_frames.specs.declared.carried.CarriedFile.{CarriedFile}
use Rattle.record_frames.specs.declared.carried.CarriedSession.{CarriedSession}

-- a set with the runs of an order that begin at these frames
unfoldable pub with_runs : ℕ → Runs → List Pfn → Runs
with_runs order runs [] = runs
with_runs order runs (p ∷ ps) = with_runs order (set.insert runs (record { first = p.0; order = order })) ps

-- a set with the runs of these files
unfoldable pub with_files : Runs → List CarriedFile → Runs
with_files runs [] = runs
with_files runs (f ∷ fs) = with_files (with_runs f.order.0 runs f.runs) fs

-- a set with the runs of the files of these sessions
unfoldable pub with_sessions : Runs → List CarriedSession → Runs
with_sessions runs [] = runs
with_sessions runs (s ∷ ss) = with_sessions (with_files runs s.files) ss
