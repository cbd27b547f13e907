use Rattle.std.proofs.Common.{sym, subst}
use Rattle.std.specs.Prelude.{Some}
use Rattle.file_folios.specs.HeldFiles.{held_file}
use Rattle.memfd_file.specs.Files.{IsMemfdFile}
use Rattle.memfd_file.proofs.FileSteps.{begun_keeps, begun_is}
use Rattle.memfd_file.proofs.file.FileObject.held.Goals as goal

pub invariant_of-result : goal.invariant_of-result
invariant_of-result c =
    rw (c.new.ensures.items, c.of.ensures)
    (begun_keeps c.args.home (Some c.in-Ok.file) (c.in-Ok.ensures.home, subst IsMemfdFile (sym c.in-Ok.ensures.state) (record { kind = c.requires.memfd; order = c.requires.small })))

pub returns-clause-held : goal.returns-clause-held
returns-clause-held c =
    rw (c.new.ensures.items, c.of.ensures, c.in-Ok.ensures.state) (begun_is (Some (held_file c.args.kind c.args.order.0 c.args.size c.args.position c.args.folios.items)))
