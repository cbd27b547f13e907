-- The folios of a pool's runs.
use Rattle.std.specs.Prelude.{ℕ, ◌*◌, ◌^◌, List, replicate}
use Rattle.ho_base.specs.declared.limits.TheConstants.{PAGE_BYTES}
use Rattle.ho_base.specs.declared.numbers.Pfn.{Pfn}
use Rattle.ho_base.specs.declared.numbers.Order.{Order}
use Rattle.phys_frames.specs.Homes.{HomeId}
use Rattle.phys_frames.specs.Memory.{FolioValue}

-- so many frames of zeros
unfoldable pub zero_pages : ℕ → List ℕ
zero_pages count = replicate (count * PAGE_BYTES) 0

-- the folio of a run that holds zeros
unfoldable pub zeroed_run : HomeId → Order → Pfn → FolioValue
zeroed_run home order p = record { first = p; order = order; bytes = zero_pages (2 ^ order.0); home = home }
