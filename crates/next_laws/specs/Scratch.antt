-- What is written into scratch areas changes nothing that is carried.
use Rattle.std.specs.Prelude.{◌≡◌, ℕ, ◌<◌, false}
use Rattle.ho_base.specs.ShapeRule.{Layout, in_scratch}
use Rattle.ho_world.specs.Frozen.{Frozen}
use Rattle.record_frames.specs.Ram.{Ram}
use Rattle.record_frames.specs.Carries.{Carries}

-- The frames are as many as before, and each number has the bytes that it had, but for those of frames in a scratch area.
pub record StayBeside (shape : Layout) (ram new : Ram) : Type 0 where
  pub count : new.count ≡ ram.count
  pub pages : (p : ℕ) → (p < ram.count → in_scratch shape.scratch p ≡ false) → new.page p ≡ ram.page p

-- Frames that carry a state carry it too after its scratch areas were written.
abbrev pub ScratchIsFree : Type 0
ScratchIsFree = (ram new : Ram) (entry : ℕ) (f : Frozen) → StayBeside f.shape ram new → Carries ram entry f → Carries new entry f
