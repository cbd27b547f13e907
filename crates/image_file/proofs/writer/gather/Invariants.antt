-- The bytes of the frames so far stand at the front.
use Rattle.std.proofs.Common.{◌≡◌, ◌*◌, take, drop}
use Rattle.std.specs.List.{flat_map}
use Rattle.ho_base.specs.declared.limits.TheConstants.{PAGE_BYTES}
use Rattle.image_file.specs.Image.{page_bytes}
use Rattle.image_file.proofs.writer.gather.Given as goal

abbrev pub invariant-loop-i : goal.invariant-loop-i
invariant-loop-i l = take (l.i * PAGE_BYTES) l.block ≡ flat_map page_bytes (take l.i (drop l.first l.frames.pages))
