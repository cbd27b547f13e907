-- What frames carry begins a sound world.
use Rattle.std.specs.Prelude.{◌≡◌, ℕ, IsTrue}
use Rattle.ho_world.specs.Frozen.{Frozen, next}
use Rattle.record_frames.specs.Ram.{Ram}
use Rattle.record_frames.specs.Carries.{Carries}
use Rattle.record_frames.specs.Laws.{Holds}
use Rattle.next_laws.specs.Begins.{are_memfds}
use Rattle.balance_laws.specs.Keeps.{no_labels}
use Rattle.balance_laws.specs.Sound.{Sound}

-- A state that frames carry begins a sound world, without a label, where the frames hold pages of bytes, each file is a memfd,
-- and the shape has as many frames.
abbrev pub CarriedBeginsSound : Type 0
CarriedBeginsSound =
    (ram : Ram) (entry : ℕ) (f : Frozen) → f.shape.frames ≡ ram.count → Holds ram → IsTrue (are_memfds f) → Carries ram entry f → Sound (next f) no_labels
