-- The chain of chunk frames that is written for a set of runs, in frames.
use Rattle.std.specs.Prelude.{◌≡◌, ℕ, ◌+◌, ◌<◌, ◌≤◌, List, length, slice_index, slice_index_or, IsTrue}
use Rattle.std.specs.FinSet as set
use Rattle.std.specs.List.{list_all}
use Rattle.ho_base.specs.BitmapCount.{chunk_frames}
use Rattle.ho_base.specs.declared.limits.TheConstants.{MAX_ORDER}
use Rattle.folio_bitmaps.specs.Runs.{Run, Runs, IsRun}
use Rattle.folio_bitmaps.specs.Chunks.{Element}
use Rattle.folio_bitmaps.specs.Written.{IsWritten}
use Rattle.record_frames.specs.Ram.{Ram, is_frame}
use Rattle.record_frames.specs.Sheets.{Sheet, first_of, items_of, numbers_of}
use Rattle.record_frames.specs.Rules.{all_apart, is_marked}
use Rattle.record_frames.specs.Carries.{SpellChain}

-- The frames with these numbers hold what is written for a set of runs: as many frames as the machine needs, each one of its frames
-- from 1 on and none twice, frame i of them with the i-th part of the chain.
pub record HoldWritten (ram : Ram) (runs : Runs) (chunks : List ℕ) : Type 0 where
  pub count : length chunks ≡ chunk_frames ram.count
  pub frames : IsTrue (list_all (is_frame ram.count) chunks)
  pub once : IsTrue (all_apart chunks)
  pub pages : (i d : ℕ) → i < length chunks → IsWritten ram.count runs i (slice_index chunks (i + 1)) (ram.page (slice_index_or chunks i d))
  pub members : (r : Run) → IsTrue (set.contains runs r) → IsRun ram.count r

-- The frames with these numbers are a chain by the rules of records, and it marks just these runs.
pub record IsChainOf (ram : Ram) (runs : Runs) (chunks : List ℕ) : Type 0 where
  pub chain : List (Sheet Element)
  pub numbers : numbers_of chain ≡ chunks
  pub spelled : SpellChain ram (first_of chain) chain
  pub marks : (r : Run) → r.order ≤ MAX_ORDER → is_marked (items_of chain) r ≡ set.contains runs r

-- what the frames with these numbers hold are bytes
abbrev pub HoldBytes : Ram → List ℕ → Type 0
HoldBytes ram chunks = (i d : ℕ) → i < length chunks → (j : ℕ) → slice_index (ram.page (slice_index_or chunks i d)) j < 256

-- what is written for a set of runs is a chain that marks just these, on any machine that has frames
abbrev pub WrittenIsChain : Type 0
WrittenIsChain = (ram : Ram) (runs : Runs) (chunks : List ℕ) → 0 < ram.count → HoldBytes ram chunks → HoldWritten ram runs chunks → IsChainOf ram runs chunks
