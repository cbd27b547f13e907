-- A reference to a deed holds nothing. Assumes `Logic`.
use denote.RawPtr.{RawPtr}
use denote.Param.Shared.{copy_shared}
use denote.SharingLaws.{nothing_shr_laws}
use denote.Struct.Laws.{field_copy}
use denote.Struct.Lending.{of_Lends, Lends-nothing}
use Rattle.std.specs.contracts.marker.PhantomData as marker
use Rattle.phys_frames.specs.contracts.cells.Deed as deed
use Rattle.phys_frames.proofs.cells.Deed.TheLaw.Statement.{statement}

pub shares : statement
shares =
    of_Lends deed.struct (deed.the_codes (marker.the_row RawPtr).coded) deed.the_heap deed.the_lent (λ d p. nothing_shr_laws)
    (copy_shared (marker.the_field RawPtr) (field_copy (marker.the_type RawPtr) tt), tt) (λ M 𝓤 𝓛 d p. Lends-nothing 𝓛 (deed.the_heap d) deed.the_row.lives)
