-- A chain that was written, in the frames that it is read from.
use Rattle.std.specs.Prelude.{◌≡◌, ◌≢◌, ℕ, ◌+◌, ◌<◌, ◌≤◌, List, length, slice_index, slice_index_or, IsTrue}
use Rattle.std.specs.List.{All, AllPairs}
use Rattle.std.specs.FinSet as set
use Rattle.phys_frames.specs.Memory.{Memory}
use Rattle.folio_bitmaps.specs.Runs.{Run, Runs, IsRun}
use Rattle.ho_base.specs.BitmapCount.{chunk_frames}
use Rattle.folio_bitmaps.specs.Written.{IsWritten}
use Rattle.folio_bitmaps.specs.Chain.{page_of}

-- The frames with these numbers hold the chain that is written for a set of their machine's runs.
pub record HoldsChain (m : Memory) (runs : Runs) (chunks : List ℕ) : Type 0 where
  pub count : length chunks ≡ chunk_frames (length m.pages)
  pub numbers : All (λ p. (1 ≤ p) × (p < length m.pages)) chunks
  pub once : AllPairs (λ p q. p ≢ q) chunks
  pub pages : (i d : ℕ) → i < length chunks → IsWritten (length m.pages) runs i (slice_index chunks (i + 1)) (page_of m (slice_index_or chunks i d))
  pub members : (r : Run) → IsTrue (set.contains runs r) → IsRun (length m.pages) r
