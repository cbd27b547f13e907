-- Runs that have to be marked, and bound records, as the program gathers them.
use Rattle.std.specs.Prelude.{ℕ, List, [], ◌∷◌, Option, Some, None}
use Rattle.ho_base.specs.declared.numbers.Kind.{Kind}
use Rattle.folio_bitmaps.specs.Runs.{Run}
use Rattle.record_frames.specs.declared.carried.CarriedBound.{CarriedBound}

-- the run of an order that begins at a frame
abbrev pub run_from : ℕ → ℕ → Run
run_from order p = record { first = p; order = order }

-- the frame of a bound record, if there is one
abbrev pub frame_of : Option CarriedBound → List ℕ
frame_of None = []
frame_of (Some b) = b.frame.0 ∷ []

-- a bound record under its kind, if there is one
abbrev pub of_kind : Kind → Option CarriedBound → List CarriedBound
of_kind kind None = []
of_kind kind (Some b) = record { kind = kind; frame = b.frame; bound = b.bound } ∷ []
