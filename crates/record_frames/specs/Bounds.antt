-- Bound records as the program reads them.
use Rattle.std.specs.Prelude.{Option, Some, None}
use Rattle.ho_events.specs.Handler.{BoundState}
use Rattle.record_frames.specs.declared.carried.CarriedBound.{CarriedBound}

abbrev pub bound_view : Option CarriedBound → Option BoundState
bound_view None = None
bound_view (Some b) = Some (record { bytes = b.bound; frame = b.frame.0 })
