use Rattle.kexec_boot.proofs.LoadedPages.{start_of, ram_is, still_home, beside}
use Rattle.kexec_boot.proofs.loading.load.Goals as goal

pub returns-clause-home : goal.returns-clause-home
returns-clause-home c =
    still_home c.args.shape.now c.args.blob c.args.frames.now c.load_blob.new.frames c.in-Some.at (start_of c.args.shape.now c.new-early.result c.in-Some.at c.new-early.ensures c.in-Some.ensures.first)
    c.load_blob.ensures.loaded c.load_blob.ensures.others c.load_blob.ensures.count c.requires.home

pub returns-clause-loaded : goal.returns-clause-loaded
returns-clause-loaded c =
    ram_is c.args.shape.now c.args.blob c.args.frames.now c.load_blob.new.frames c.in-Some.at (start_of c.args.shape.now c.new-early.result c.in-Some.at c.new-early.ensures c.in-Some.ensures.first)
    c.load_blob.ensures.loaded c.load_blob.ensures.others c.load_blob.ensures.count

pub returns-clause-beside : goal.returns-clause-beside
returns-clause-beside c =
    beside c.args.shape.now c.args.blob c.args.frames.now c.load_blob.new.frames c.in-Some.at (start_of c.args.shape.now c.new-early.result c.in-Some.at c.new-early.ensures c.in-Some.ensures.first)
    c.load_blob.ensures.loaded c.load_blob.ensures.others c.load_blob.ensures.count c.requires.count c.scratch-areas.ensures.legal c.requires.fits
