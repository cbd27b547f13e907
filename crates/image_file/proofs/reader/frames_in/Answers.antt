use Rattle.std.proofs.Common.{◌≡◌, ◌-◌, length, take, drop, List, Option, ℕ, Some, ap, ◌∙◌}
use Rattle.std.proofs.lemmas.List.{length-replicate, take_rest}
use Rattle.ho_base.specs.declared.limits.TheConstants.{PAGE_BYTES}
use Rattle.phys_frames.specs.Memory.{zero_page}
use Rattle.image_file.specs.Image.{count_of, frames_of}
use Rattle.image_file.proofs.Pages.{frames_read}
use Rattle.image_file.proofs.reader.frames_in.Goals as goal

pub returns-in-Ok : goal.returns-in-Ok
unfolding frames_of
returns-in-Ok c =
    let bytes = c.args.bytes.now in
    let count = c.count_in-count.result in
    let size : length c.in-Ok.frames.pages ≡ count = ap length c.in-Ok.ensures.pages ∙ length-replicate {A = Option (List ℕ)} count (Some zero_page) in
    frames_read PAGE_BYTES (count_of bytes) count bytes (take (length bytes - 32) (drop 32 bytes)) c.in-Ok.frames.pages c.put_pages.new.frames.pages
    c.count_in-count.ensures size (take_rest bytes 32) c.put_pages.ensures
