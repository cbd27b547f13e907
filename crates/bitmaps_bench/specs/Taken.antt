-- Single frames that were taken one after another.
use Rattle.std.specs.Prelude.{◌≡◌, ℕ, ◌+◌, ◌<◌, List, length, slice_index_or}
use Rattle.std.specs.List.{All, AllWithin}
use Rattle.std.specs.Option.{IsSome}
use Rattle.phys_frames.specs.Memory.{Memory, FolioValue}

-- the folios have the frames from 1 on, in order, and each other frame is home
pub record AreTaken (m : Memory) (folios : List FolioValue) : Type 0 where
  pub homes : All (λ f. f.home ≡ m.home) folios
  pub single : All (λ f. f.order.0 ≡ 0) folios
  pub firsts : (i : ℕ) (d : FolioValue) → i < length folios → (slice_index_or folios i d).first.0 ≡ 1 + i
  pub first : AllWithin IsSome m.pages 0 1
  pub rest : AllWithin IsSome m.pages (1 + length folios) (length m.pages)
  pub room : length folios < length m.pages
