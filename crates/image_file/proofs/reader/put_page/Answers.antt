use Rattle.std.proofs.Common.{List, ℕ, Option, ap, sym, ◌∙◌}
use Rattle.phys_frames.specs.Memory.{Memory, zero_page}
use Rattle.image_file.proofs.Loading.{is_zero_page, kept_as}
use Rattle.image_file.proofs.reader.put_page.Goals as goal

pub returns-else-not-is_zero : goal.returns-else-not-is_zero
returns-else-not-is_zero c =
    let same = is_zero_page c.args.bytes.now c.requires.size (sym c.is_zero.ensures ∙ c.if-not-is_zero.false) in
    let frames : Memory = c.args.frames.now in
    ap (λ (l : List (Option (List ℕ))). record frames { pages = l }) (kept_as frames.pages c.args.p.0 zero_page c.args.bytes.now c.requires.blank same)
