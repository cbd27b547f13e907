-- Single frames that were taken one after another.
use Rattle.std.specs.Prelude.{◌≡◌, ℕ, ◌+◌, ◌<◌, ◌≤◌, List, length, slice_index_or}
use Rattle.std.specs.List.{All, AllWithin}
use Rattle.std.specs.Option.{IsSome}
use Rattle.phys_frames.specs.Memory.{Memory, FolioValue}

-- the folios have the frames from a first one on, in order, and each other frame is home
pub record AreTaken (m : Memory) (first : ℕ) (folios : List FolioValue) : Type 0 where
  pub homes : All (λ f. f.home ≡ m.home) folios
  pub single : All (λ f. f.order.0 ≡ 0) folios
  pub firsts : (i : ℕ) (d : FolioValue) → i < length folios → (slice_index_or folios i d).first.0 ≡ first + i
  pub below : AllWithin IsSome m.pages 0 first
  pub rest : AllWithin IsSome m.pages (first + length folios) (length m.pages)
  pub room : first + length folios ≤ length m.pages
