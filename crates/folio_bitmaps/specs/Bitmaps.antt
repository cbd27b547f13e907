-- Bitmaps: which runs of n frames the bits of a list of bytes stand for.
use Rattle.std.specs.Prelude.{◌≡◌, ℕ, ◌+◌, ◌*◌, ◌/◌, ◌%◌, ◌^◌, ◌<◌, ◌≤◌, Bool, true, ◌&&◌, ◌==◌, nat_le, List, map, length, slice_index}
use Rattle.std.specs.Int.{bit_at}
use Rattle.ho_base.specs.BitmapCount.{bitmaps_of, bitmaps_below, bitmap_count}
use Rattle.std.specs.List.{range_with_len, flat_map}
use Rattle.std.specs.FinSet as set
use Rattle.folio_bitmaps.specs.Runs.{Run, Runs}

-- bit k of a list of bytes: the bits of a byte count from the least significant one on
abbrev pub is_set : List ℕ → ℕ → Bool
is_set bytes k = bit_at (slice_index bytes (k / 8)) (k % 8) == 1

-- the number of the bit of a run, in bitmaps that stand in order of (order, base)
abbrev pub bit_index : ℕ → Run → ℕ
bit_index n r = 4096 * bitmaps_below n r.order + r.first / 2 ^ r.order

-- it is a run of n frames
abbrev pub is_run : ℕ → Run → Bool
is_run n r = nat_le r.order 9 && r.first % 2 ^ r.order == 0 && nat_le (r.first + 2 ^ r.order) n

-- it is a run of n frames, and its bit is set
unfoldable pub is_marked : ℕ → List ℕ → Run → Bool
is_marked n bytes r = is_run n r && is_set bytes (bit_index n r)

-- each first frame of n at each order
unfoldable pub all_runs : ℕ → List Run
all_runs n = flat_map (λ o. map (λ p. record { first = p; order = o }) (range_with_len 0 n)) (range_with_len 0 10)

-- the set of the runs whose bits are set
unfoldable pub runs_of : ℕ → List ℕ → Runs
runs_of n bytes = set.retain (set.from_list (all_runs n)) (is_marked n bytes)

-- the bitmaps of n frames: 512 bytes each, and no bit is set that has no run
pub record AreBitmaps (n : ℕ) (bytes : List ℕ) : Type 0 where
  pub size : length bytes ≡ 512 * bitmap_count n
  pub runs : (order i : ℕ) → order ≤ 9 → i < 4096 * bitmaps_of n order → is_set bytes (4096 * bitmaps_below n order + i) ≡ true → (i + 1) * 2 ^ order ≤ n
