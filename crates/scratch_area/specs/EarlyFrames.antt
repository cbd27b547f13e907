-- The frames of scratch area 0, handed out one after another.
use Rattle.std.specs.Prelude.{ℕ, ◌≤◌, List, [], ◌∷◌}
use Rattle.std.specs.List.{range_with_len}
use Rattle.ho_base.specs.declared.limits.TheConstants.{MAX_FRAMES}
use Rattle.ho_base.specs.declared.shape.Area.{Area}
use Rattle.ho_base.specs.ShapeRule.{Layout, area_end}

-- an area, and how many of its frames were handed out: the first so many of it
pub record EarlyFrames : Type 0 where
  pub area : Area
  pub taken : ℕ

-- the first scratch area
abbrev pub area_0 : List Area → Area
area_0 [] = record { first = record { 0 = 0 }; count = 0 }
area_0 (area ∷ areas) = area

-- no frame of the first scratch area was handed out yet
abbrev pub none_taken : Layout → EarlyFrames
none_taken shape = record { area = area_0 shape.scratch; taken = 0 }

-- the frames that were handed out, in the order in which they were: the numbers rise one by one from the area's first
abbrev pub handed_out : EarlyFrames → List ℕ
handed_out early = range_with_len early.area.first.0 early.taken

-- no more were handed out than the area has, and the area ends within the frames of a machine
pub record IsEarly (early : EarlyFrames) : Type 0 where
  pub enough : early.taken ≤ early.area.count
  pub within : area_end early.area ≤ MAX_FRAMES
