-- Frames after a program was loaded into scratch area 0.
use Rattle.std.specs.Prelude.{ℕ, ◌+◌, ◌-◌, Bool, ◌&&◌, nat_lt, nat_le, if◌then◌else◌}
use Rattle.ho_base.specs.ShapeRule.{Layout}
use Rattle.ho_base.specs.declared.numbers.Blob.{Blob}
use Rattle.record_frames.specs.Ram.{Ram}
use Rattle.scratch_area.specs.BlobPages.{blob_page}
use Rattle.scratch_area.specs.EarlyFrames.{area_0}

-- the first frame of scratch area 0
abbrev pub blob_at : Layout → ℕ
blob_at shape = (area_0 shape.scratch).first.0

-- a frame is one of those that the program is loaded into: as many as it has, from the first frame of scratch area 0 on
abbrev pub is_blob_frame : Layout → Blob → ℕ → Bool
is_blob_frame shape blob p = nat_le (blob_at shape) p && nat_lt p (blob_at shape + blob.frames)

-- the frames with the program in these, and all others as they were
abbrev pub with_blob : Layout → Blob → Ram → Ram
with_blob shape blob ram = record {
  count = ram.count;
  page = λ p. if is_blob_frame shape blob p then blob_page blob.version (p - blob_at shape) else ram.page p;
}
