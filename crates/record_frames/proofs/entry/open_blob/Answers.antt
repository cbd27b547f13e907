use Rattle.std.proofs.Common.{◌≡◌, List, Result, Err, ap}
use Rattle.fdt_blob.specs.declared.tree.FdtPlace.{FdtPlace}
use Rattle.fdt_blob.specs.declared.reader.OpenError.{OpenError}
use Rattle.fdt_blob.specs.declared.reader.OpenError.TheVariants.{BadFdt}
use Rattle.fdt_blob.specs.Tokens.{Item}
use Rattle.record_frames.proofs.EntrySteps.{place_broken}
use Rattle.record_frames.proofs.entry.open_blob.Goals as goal

abbrev refused : OpenError → Result (List Item) OpenError
refused error = Err error

pub returns-in-BadFdt : goal.returns-in-BadFdt
returns-in-BadFdt c =
    let Told : FdtPlace → Type 0 = λ p. refused c.in-Err.error ≡ refused (BadFdt p) in
    place_broken c.args.bytes.now Told c.in-Err.ensures.header.0 c.in-Err.ensures.reservations.0 c.in-Err.ensures.structure c.in-BadFdt.place (ap refused c.in-BadFdt.is)
