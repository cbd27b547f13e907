use Rattle.std.proofs.Common.{◌≡◌, ◌*◌, length, ℕ, subst, ◌∙◌}
use Rattle.ho_base.specs.declared.limits.TheConstants.{PAGE_BYTES}
use Rattle.image_file.specs.Loaded.{IsMiscount}
use Rattle.image_file.proofs.Fronts.{all_loaded, ill_loaded}
use Rattle.image_file.proofs.loader.load_image.Goals as goal

pub returns-in-Ok-load_frames-clause-loaded : goal.returns-in-Ok-load_frames-clause-loaded
returns-in-Ok-load_frames-clause-loaded g c =
    let of = c.in-Ok-load_frames.ensures in
    all_loaded _ _ c.load_header.new.head c.load_header.auto.head c.in-Ok.ensures.is c.in-Ok.ensures.taken c.in-Ok-load_frames.frames.pages c.entry_in-entry.result of.pages (of.count ∙ c.count_in.ensures) c.entry_in-entry.ensures of.all

pub returns-in-Err-load_frames-clause-refused : goal.returns-in-Err-load_frames-clause-refused
returns-in-Err-load_frames-clause-refused g c =
    let e = c.in-Err-load_frames.error in
    ill_loaded _ _ c.load_header.new.head e c.load_header.auto.head c.in-Ok.ensures.is c.in-Ok.ensures.taken
    (subst (λ (n : ℕ). IsMiscount (g.S.Source.left c.load_header.new.src) (n * PAGE_BYTES) e) c.count_in.ensures c.in-Err-load_frames.ensures.refused)
