-- The frames of bound records.
use Rattle.std.specs.Prelude.{ℕ, Option, Some, None}
use Rattle.ho_events.specs.Handler.{BoundState}

-- the frame of a bound record that there may be
abbrev pub frame_in : Option BoundState → Option ℕ
frame_in None = None
frame_in (Some b) = Some b.frame
