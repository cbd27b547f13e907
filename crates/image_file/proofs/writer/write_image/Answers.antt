use Rattle.image_file.proofs.Wrote.{image_front, image_all, image_back, on_ok, on_err, of_err}
use Rattle.image_file.proofs.writer.write_image.Goals as goal

pub returns-in_err-write_all-clause-part : goal.returns-in_err-write_all-clause-part
returns-in_err-write_all-clause-part g c =
    of_err c.from_residual.result
    (image_front _ _ c.args.handoff.now.frames.pages c.count.result c.args.handoff.now.entry.0 c.header_of-header.result c.header_of-header.ensures c.count.ensures.value c.in_err-write_all.ensures.part)

pub returns-clause-all : goal.returns-clause-all
returns-clause-all g c =
    on_ok c.write_frames.result
    (image_all _ _ c.args.handoff.now.frames.pages c.count.result c.args.handoff.now.entry.0 c.header_of-header.result c.header_of-header.ensures c.count.ensures.value _ c.in_ok-write_all.ensures.all)
    c.write_frames.ensures.all

pub returns-clause-part : goal.returns-clause-part
returns-clause-part g c =
    on_err c.write_frames.result
    (image_back _ _ c.args.handoff.now.frames.pages c.count.result c.args.handoff.now.entry.0 c.header_of-header.result c.header_of-header.ensures c.count.ensures.value _ c.in_ok-write_all.ensures.all)
    c.write_frames.ensures.part
