-- How many bitmaps, and how many chunk frames, say which runs of n frames are preserved.
use Rattle.std.specs.Prelude.{ℕ, zero, suc, ◌+◌, ◌-◌, ◌*◌, ◌/◌, ◌^◌}

-- how many frames a bitmap of an order stands for: each of its 4096 bits stands for a run of 2^order frames
abbrev pub cover : ℕ → ℕ
cover order = 4096 * 2 ^ order

-- how many bitmaps of an order n frames have: one for each multiple of what a bitmap stands for that is below n
abbrev pub bitmaps_of : ℕ → ℕ → ℕ
bitmaps_of n order = (n + (cover order - 1)) / cover order

-- how many bitmaps of all orders below one n frames have
unfoldable pub bitmaps_below : ℕ → ℕ → ℕ
bitmaps_below n zero = 0
bitmaps_below n (suc order) = bitmaps_below n order + bitmaps_of n order

-- how many bitmaps n frames have, of the orders 0 to 9
unfoldable pub bitmap_count : ℕ → ℕ
bitmap_count n = bitmaps_below n 10

-- how many chunk frames n frames need, where each has up to seven bitmaps and all but the last have seven
abbrev pub chunk_frames : ℕ → ℕ
chunk_frames n = (bitmap_count n + 6) / 7
