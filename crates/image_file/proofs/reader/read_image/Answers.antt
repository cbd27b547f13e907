use Rattle.std.proofs.Common.{rules, sym}
use Rattle.image_file.proofs.BothWays.{read_again, read_home}
use Rattle.image_file.proofs.Faults.{fault_is_told}
use Rattle.image_file.proofs.reader.read_image.Goals as goal

pub returns-in-Some-clause-refused : goal.returns-in-Some-clause-refused
returns-in-Some-clause-refused c = fault_is_told c.args.bytes.now c.in-Some.fault (sym c.in-Some.ensures.exact)

pub returns-in-Ok-clause-image : goal.returns-in-Ok-clause-image
returns-in-Ok-clause-image c =
    read_again c.args.bytes.now c.in-Ok.frames.pages c.entry_in.result (search rules) (sym c.in-None.ensures.exact) c.in-Ok.ensures c.entry_in.ensures

pub returns-in-Ok-clause-home : goal.returns-in-Ok-clause-home
returns-in-Ok-clause-home c = read_home c.args.bytes.now c.in-Ok.frames.pages c.in-Ok.ensures
