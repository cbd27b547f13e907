-- A reference to the owner of places reaches the bytes that are there. Assumes `Logic`.
use Rattle.std.proofs.Common.{[]}
use base.Fml.{Incl-trans}
use contract.BorrowLft.{meet_⊑_left}
use denote.RawPtr.{RawPtr}
use denote.Param.Shared.{copy_shared}
use denote.Struct.Laws.{field_copy}
use denote.Struct.Lending.{of_Lends}
use Rattle.std.specs.contracts.marker.PhantomData as marker
use Rattle.phys_frames.specs.contracts.cells.Cells as cells
use Rattle.phys_frames.proofs.cells.Cells.TheLaw.Statement.{statement}
use Rattle.phys_frames.proofs.Sharing.{at_region, lends_region}

pub shares : statement
shares =
    of_Lends cells.struct (cells.the_codes (marker.the_row RawPtr).coded) cells.the_heap cells.the_lent (λ d p. at_region d.at d.slots)
    (copy_shared (marker.the_field RawPtr) (field_copy (marker.the_type RawPtr) tt), tt) (λ M 𝓤 𝓛 d p. lends_region 𝓛 cells.the_row.lives (Incl-trans (meet_⊑_left [] _) (λ n h. h)) d.at d.slots)
