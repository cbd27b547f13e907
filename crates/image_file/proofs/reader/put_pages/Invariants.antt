-- The frames so far have their bytes, and the others are as they were.
use Rattle.std.proofs.Common.{◌≡◌, map, Some}
use Rattle.ho_base.specs.declared.limits.TheConstants.{PAGE_BYTES}
use Rattle.phys_frames.specs.Pages.{chunks, with_run}
use Rattle.image_file.proofs.reader.put_pages.Given as goal

abbrev pub invariant-loop-i : goal.invariant-loop-i
invariant-loop-i l = l.frames.pages ≡ with_run l.fn.frames.pages l.first l.i (map Some (chunks PAGE_BYTES l.i l.bytes))
