-- A blob that wasn't opened breaks the rules at the place that was told.
use Rattle.std.proofs.Common.{◌≡◌, ℕ, List}
use Rattle.std.specs.Prelude.{Result, Err, ◌↔◌}
use Rattle.fdt_blob.specs.Blob.{BreaksAt}
use Rattle.fdt_blob.specs.declared.reader.OpenError.{OpenError}
use Rattle.fdt_blob.specs.declared.reader.OpenError.TheVariants.{BadFdt, Memory}
use Rattle.fdt_blob.specs.declared.tree.FdtPlace.{FdtPlace}
use Rattle.fdt_blob.specs.declared.tree.FdtPlace.TheVariants.{Header, Reservations, Structure}
use Rattle.fdt_tool.specs.Looks.{IsBad}
use Rattle.fdt_tool.proofs.look.show.Goals as goal

breaks : {T : Type 0} (r : Result T OpenError) (error : OpenError) (blob : List ℕ) → r ≡ Err error
    → ((r ≡ Err (BadFdt Header)) ↔ BreaksAt blob Header) → ((r ≡ Err (BadFdt Reservations)) ↔ BreaksAt blob Reservations)
    → (r ≡ Err (BadFdt Structure) → BreaksAt blob Structure) → IsBad error → (place : FdtPlace) × BreaksAt blob place
breaks r (BadFdt Header) blob e header reservations structure bad = (Header, header.0 e)
breaks r (BadFdt Reservations) blob e header reservations structure bad = (Reservations, reservations.0 e)
breaks r (BadFdt Structure) blob e header reservations structure bad = (Structure, structure e)
breaks r Memory blob e header reservations structure bad = absurd bad

pub returns-in-Err-clause-refused : goal.returns-in-Err-clause-refused
returns-in-Err-clause-refused g c = λ h.
    breaks _ _ _ c.in-Err.is c.open.ensures.header c.open.ensures.reservations c.open.ensures.structure (c.show_refused.ensures.refused h)
