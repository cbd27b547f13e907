-- What holds of the frames that one kernel leaves to the next.
use Rattle.std.proofs.Math.Bool.{Bool-set}
use Rattle.phys_frames.specs.Memory.{Memory, AllHome}

-- there is one proof at most that all frames are home
pub all_home_prop : (m : Memory) → IsProp (AllHome m)
all_home_prop m = hlevel Bool-set
