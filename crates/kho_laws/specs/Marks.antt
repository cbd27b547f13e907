-- The set of runs that is marked, from the runs that were marked before the frames of the records.
use Rattle.std.specs.Prelude.{◌≡◌, ℕ, List, ◌++◌, map}
use Rattle.std.specs.FinSet as set
use Rattle.std.specs.List.{flat_map}
use Rattle.ho_base.specs.declared.numbers.Pfn.{Pfn}
use Rattle.folio_bitmaps.specs.Runs.{Run, Runs}
use Rattle.folio_bitmaps.specs.Written.{with_frames}
use Rattle.record_frames.specs.Kept.{devices, bound_frames}
use Rattle.record_frames.specs.Owners.{single, given}
use Rattle.record_frames.specs.State.{bound_among}
use Rattle.record_frames.specs.Writing.{files_in}
use Rattle.record_frames.specs.declared.carried.Carried.{Carried}
use Rattle.kho_laws.specs.Owners.{is_one_of}
use Rattle.kho_laws.specs.Carrying.{runs_of_file, to_mark}

-- the runs of what is carried itself: the frame of each bound record, and the files' runs
abbrev pub own_runs : Carried → List Run
own_runs c = map single (given (bound_frames (map (bound_among c.bounds) devices))) ++ flat_map runs_of_file (files_in c.sessions)

abbrev pub numbered : List ℕ → List Pfn
numbered ats = map (λ p. record { 0 = p }) ats

-- Where just the runs of what is carried were marked, and then each of these frames is, just the runs are marked that have to be.
abbrev pub MarkedAfter : Type 0
MarkedAfter =
    (c : Carried) (ats : List ℕ) (runs : Runs) → ((r : Run) → set.contains runs r ≡ is_one_of (own_runs c) r)
    → (r : Run) → set.contains (with_frames runs (numbered ats)) r ≡ is_one_of (to_mark c ats) r
