-- What a kexec of a sound world carries, as the program has it: the bytes of the files stand in frames.
use Rattle.std.specs.Prelude.{◌≡◌, ℕ, ◌+◌, ◌^◌, ◌<◌, List, ◌++◌, length, IsTrue}
use Rattle.std.specs.List.{AllByRecursion}
use Rattle.ho_base.specs.NameRule.{is_name}
use Rattle.ho_base.specs.ShapeRule.{is_layout}
use Rattle.ho_events.specs.Pool.{can_take}
use Rattle.ho_world.specs.Frozen.{frozen}
use Rattle.ho_world.specs.Sequences.{Labels}
use Rattle.ho_world.specs.World.{World, pool_at}
use Rattle.record_frames.specs.Ram.{Ram}
use Rattle.record_frames.specs.State.{file_in, state_in}
use Rattle.record_frames.specs.Writing.{files_in, files_of_sessions, lists_of_files}
use Rattle.record_frames.specs.declared.carried.Carried.{Carried}
use Rattle.record_frames.specs.declared.carried.CarriedFile.{CarriedFile}
use Rattle.record_frames.specs.declared.carried.CarriedSession.{CarriedSession}
use Rattle.kho_laws.specs.Carrying.{can_be_carried, CanHold}
use Rattle.balance_laws.specs.Sound.{Sound}

-- What the types of what is carried give: the shape is one of a machine, each session has a name, and each token has 8
-- bytes. And each file has as many bytes in the frames as it says.
pub record IsOfFrames (ram : Ram) (c : Carried) : Type 0 where
  pub shape : IsTrue (is_layout c.shape.frames c.shape.scratch)
  pub names : AllByRecursion (λ (s : CarriedSession). IsTrue (is_name s.name)) c.sessions
  pub tokens : AllByRecursion (λ (f : CarriedFile). f.token.0 < 2 ^ 64) (files_in c.sessions)
  pub sizes : AllByRecursion (λ (f : CarriedFile). length (file_in ram f).bytes ≡ f.size) (files_in c.sessions)

-- what a kexec of a sound world freezes can be carried in frames
abbrev pub CarriedIsFit : Type 0
CarriedIsFit = (labels : ℕ → Labels) (w : World) (ram : Ram) (c : Carried) → Sound w labels → state_in ram c ≡ frozen w → IsOfFrames ram c → IsTrue (can_be_carried c)

-- Different single frames that are free in the pool of a sound world can hold what is written for what it freezes, where
-- those of the entry and the records are as many as they need.
abbrev pub CarriedHasRoom : Type 0
CarriedHasRoom =
    (labels : ℕ → Labels) (w : World) (ram : Ram) (c : Carried) (ats chunks : List ℕ) → Sound w labels → state_in ram c ≡ frozen w → IsTrue (is_layout c.shape.frames c.shape.scratch)
    → length ats ≡ 2 + files_of_sessions c.sessions + lists_of_files (files_in c.sessions) → IsTrue (can_take (pool_at w) 0 (length (ats ++ chunks)) (ats ++ chunks))
    → CanHold c ats chunks
