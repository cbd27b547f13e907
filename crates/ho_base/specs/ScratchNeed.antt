-- How much of the first scratch area a boot uses.
use Rattle.std.specs.Prelude.{ℕ}
use Rattle.ho_base.specs.declared.numbers.Blob.{Blob}
use Rattle.ho_base.specs.ShapeRule.{Layout}

-- how many frames of scratch area 0 a boot of this program uses on a machine of this shape: those that it is loaded into
abbrev pub scratch_need : Layout → Blob → ℕ
scratch_need shape blob = blob.frames
