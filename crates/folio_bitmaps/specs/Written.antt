-- A set of runs as a chain of chunk frames is written for it.
use Rattle.std.specs.Prelude.{◌≡◌, ℕ, ◌+◌, ◌-◌, ◌*◌, ◌%◌, ◌<◌, ◌≤◌, min, List, [], ◌∷◌, length, map, take, drop, replicate, slice_index}
use Rattle.std.specs.FinSet as set
use Rattle.ho_base.specs.declared.limits.TheConstants.{PAGE_BYTES}
use Rattle.ho_base.specs.declared.numbers.Pfn.{Pfn}
use Rattle.phys_frames.specs.Memory.{FolioValue as Folio}
use Rattle.folio_bitmaps.specs.Runs.{Runs}
use Rattle.ho_base.specs.BitmapCount.{cover, bitmap_count}
use Rattle.folio_bitmaps.specs.Bitmaps.{is_set}
use Rattle.folio_bitmaps.specs.Chunks.{Element, element_at, start_of, next_of, count_of, run_of, number_of}

-- the set with each of these frames as a run of order 0
unfoldable pub with_frames : Runs → List Pfn → Runs
with_frames runs [] = runs
with_frames runs (p ∷ frames) = with_frames (set.insert runs (record { first = p.0; order = 0 })) frames

-- bitmap number t of the n frames: a bit is set exactly where its run is in the set
pub record IsBitmap (n : ℕ) (runs : Runs) (t : ℕ) (e : Element) : Type 0 where
  pub small : e.order ≤ 9
  pub aligned : e.base % cover e.order ≡ 0
  pub below : e.base < n
  pub number : number_of n e ≡ t
  pub size : length e.bits ≡ 512
  pub bits : (b : ℕ) → b < 4096 → is_set e.bits b ≡ set.contains runs (run_of e b)

-- how many elements chunk frame i has: all but the last are full
abbrev pub full_count : ℕ → ℕ → ℕ
full_count n i = min 7 (bitmap_count n - 7 * i)

-- chunk frame i of the chain, with the number of the next one
pub record IsWritten (n : ℕ) (runs : Runs) (i next : ℕ) (page : List ℕ) : Type 0 where
  pub size : length page ≡ PAGE_BYTES
  pub next_is : next_of page ≡ next
  pub count : count_of page ≡ full_count n i
  pub zeros : take 16 (drop 16 page) ≡ replicate 16 0
  pub elements : (k : ℕ) → k < full_count n i → IsBitmap n runs (7 * i + k) (element_at page k)
  pub rest : drop (start_of (full_count n i)) page ≡ replicate (PAGE_BYTES - start_of (full_count n i)) 0

-- the number of the folio after folio i, 0 after the last one
abbrev pub next_first : List Folio → ℕ → ℕ
next_first folios i = slice_index (map (λ (f : Folio). f.first.0) folios) (i + 1)
