use Rattle.std.proofs.Common.{[], rules}
use Rattle.record_frames.proofs.WrittenBytes.{begun_size, begun, holds_page}
use Rattle.record_frames.proofs.writing.frame.begin_frame.Goals as goal

pub put_numbers-requires-clause-size : goal.put_numbers-requires-clause-size
put_numbers-requires-clause-size c =
    holds_page c.args.folio.now c.zero.new.self [] (search rules)
    (begun_size c.args.folio.now c.zero.new.self c.bytes-page.result.now c.bytes-page.ensures.value c.bytes-page.ensures.len c.requires c.zero.ensures)

pub returns : goal.returns
returns c =
    begun c.args.folio.now c.zero.new.self c.put_numbers.new.folio c.args.next c.args.count
    (begun_size c.args.folio.now c.zero.new.self c.bytes-page.result.now c.bytes-page.ensures.value c.bytes-page.ensures.len c.requires c.zero.ensures) c.put_numbers.ensures
