use Rattle.std.proofs.Common.{◌≡◌, length, sym, ◌∙◌}
use Rattle.image_file.proofs.Fronts.{bad_loaded}
use Rattle.image_file.proofs.loader.load_header.Goals as goal

pub returns-else-has_header-clause-refused : goal.returns-else-has_header-clause-refused
returns-else-has_header-clause-refused g c =
    let size : length c.read_full.new.buf ≡ 32 = c.read_full.auto.buf ∙ c.requires in
    bad_loaded _ _ c.read_full.new.buf c.in-Ok.count size c.in-Ok.ensures.bound c.in-Ok.ensures.taken c.in-Ok.ensures.end (sym c.if-has_header.ensures.exact)
