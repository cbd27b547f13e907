use Rattle.std.proofs.Common.{sym, arith}
use Rattle.image_file.proofs.Faults.{is_bad, is_short, is_extra, is_image}
use Rattle.image_file.proofs.reader.fault_in.Goals as goal

pub returns-then-not-has_header-clause-exact : goal.returns-then-not-has_header-clause-exact
returns-then-not-has_header-clause-exact c = is_bad c.args.bytes.now (sym c.if-not-has_header.ensures.exact)

pub returns-then-bytes-size-clause-exact : goal.returns-then-bytes-size-clause-exact
returns-then-bytes-size-clause-exact c = is_short c.args.bytes.now (sym c.if-not-has_header.ensures.exact) (omega arith)

pub returns-then-bytes-size-2-clause-exact : goal.returns-then-bytes-size-2-clause-exact
returns-then-bytes-size-2-clause-exact c = is_extra c.args.bytes.now (sym c.if-not-has_header.ensures.exact) (omega arith)

pub returns-else-bytes-size-2-clause-exact : goal.returns-else-bytes-size-2-clause-exact
returns-else-bytes-size-2-clause-exact c = is_image c.args.bytes.now (sym c.if-not-has_header.ensures.exact) (omega arith)
