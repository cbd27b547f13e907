use Rattle.std.proofs.Common.{replicate, length, take, arith}
use Rattle.fdt_blob.specs.Tokens.{padding}
use Rattle.record_frames.proofs.WrittenBytes.{zeros_taken}
use Rattle.kho_writer.proofs.Steps.{then_puts, puts_same}
use Rattle.kho_writer.proofs.entry.put.put_padded.Goals as goal

pub returns-clause-put : goal.returns-clause-put
returns-clause-put c =
    let n = padding (length c.args.bytes.now) in
    then_puts c.args.folio.now c.put-end.new.folio c.put.new.folio c.args.at c.put-end.result c.put.result c.args.bytes.now (replicate n 0) c.requires.size c.put-end.ensures.put
    (puts_same c.put-end.new.folio c.put.new.folio c.put-end.result c.put.result (take n (replicate 3 0)) (replicate n 0) c.put.ensures.put (zeros_taken n 3 (omega arith)))
