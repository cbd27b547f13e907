-- What is left behind when bytes that were lent out are written.
use Rattle.std.specs.Prelude.{ℕ, List}
use Rattle.std.specs.Borrow.{Lends, MutBor, Fml, Array, u8}
use Rattle.phys_frames.specs.Memory.{FolioValue, Memory, with_bytes, with_page, over}
use Rattle.ho_base.specs.declared.numbers.Pfn.{Pfn}
use Rattle.phys_frames.specs.contracts.folio.Folio as folio
use Rattle.phys_frames.specs.contracts.frames.Frames as frames

-- the folio ends with the bytes that are left behind r in place of its own, and is the same otherwise
abbrev pub LendsFolio : MutBor FolioValue → MutBor (List ℕ) → Fml
LendsFolio f r = Lends folio.the_row (Array u8 0) f r (λ w. with_bytes f.now (over f.now.bytes w))

-- the frames end with the bytes that are left behind r in place of those of frame p, and are the same otherwise
abbrev pub LendsFrame : MutBor Memory → Pfn → MutBor (List ℕ) → Fml
LendsFrame m p r = Lends frames.the_row (Array u8 0) m r (λ w. with_page m.now p (over r.now w))
