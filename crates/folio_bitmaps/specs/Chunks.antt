-- Chunk frames: the bitmaps that their bytes carry.
use Rattle.std.specs.Prelude.{◌≡◌, ◌⊎◌, ℕ, ◌+◌, ◌*◌, ◌/◌, ◌%◌, ◌^◌, ◌<◌, ◌≤◌, true, List, map, take, drop, replicate}
use Rattle.std.specs.List.{range_with_len}
use Rattle.ho_base.specs.Bytes.{u64_at}
use Rattle.folio_bitmaps.specs.Runs.{Run}
use Rattle.ho_base.specs.BitmapCount.{cover, bitmaps_below}
use Rattle.folio_bitmaps.specs.Bitmaps.{is_set}

-- an element of a chunk frame: the bitmap of an order from a base on
pub record Element : Type 0 where
  pub base : ℕ
  pub order : ℕ
  pub bits : List ℕ

-- the byte of a chunk frame at which element k begins
abbrev pub start_of : ℕ → ℕ
start_of k = 32 + 528 * k

-- element k: base, order and 512 bytes
abbrev pub element_at : List ℕ → ℕ → Element
element_at page k = record { base = u64_at page (start_of k); order = u64_at page (start_of k + 8); bits = take 512 (drop (start_of k + 16) page) }

-- the number of the next chunk frame, 0 where there is none
abbrev pub next_of : List ℕ → ℕ
next_of page = u64_at page 0

-- how many elements there are
abbrev pub count_of : List ℕ → ℕ
count_of page = u64_at page 8

-- the elements
unfoldable pub elements_of : List ℕ → List Element
elements_of page = map (element_at page) (range_with_len 0 (count_of page))

-- 1 to 7 elements, and zeros from byte 16 to 31
pub record IsChunk (page : List ℕ) : Type 0 where
  pub some : 1 ≤ count_of page
  pub few : count_of page ≤ 7
  pub zeros : take 16 (drop 16 page) ≡ replicate 16 0

-- bit b of an element stands for the run at base + b * 2^order
abbrev pub run_of : Element → ℕ → Run
run_of e b = record { first = e.base + b * 2 ^ e.order; order = e.order }

-- the order is at most 9, the base a multiple of what a bitmap covers and below n, and the runs of set bits end within n
pub record IsElement (n : ℕ) (e : Element) : Type 0 where
  pub small : e.order ≤ 9
  pub aligned : e.base % cover e.order ≡ 0
  pub below : e.base < n
  pub within : (b : ℕ) → b < 4096 → is_set e.bits b ≡ true → (run_of e b).first + 2 ^ e.order ≤ n

-- (order, base) rise strictly
abbrev pub Rises : Element → Element → Type 0
Rises e f = (e.order < f.order) ⊎ ((e.order ≡ f.order) × (e.base < f.base))

-- the number of a bitmap among those of n frames, in order of (order, base)
abbrev pub number_of : ℕ → Element → ℕ
number_of n e = bitmaps_below n e.order + e.base / cover e.order
