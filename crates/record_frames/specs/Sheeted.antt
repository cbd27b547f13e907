-- Frames as contracts see them, and a list frame as the program reads it: only the number of runs before it counts.
use Rattle.std.specs.Prelude.{ℕ, zero, suc, ◌+◌, not, ◌&&◌, ◌||◌, ◌==◌, nat_lt, nat_le, nat_eq, Bool, if◌then◌else◌, List, [], ◌∷◌, length, drop, Option, Some, None, slice_index_or}
use Rattle.std.specs.List.{list_all, list_any}
use Rattle.ho_base.specs.Bytes.{u64_at}
use Rattle.phys_frames.specs.Memory.{Memory}
use Rattle.record_frames.specs.Ram.{Ram, is_frame}
use Rattle.record_frames.specs.Rules.{LISTED, is_run}
use Rattle.record_frames.specs.Reading.{Front}

-- the bytes of a frame that is home
abbrev pub page_bytes : Option (List ℕ) → List ℕ
page_bytes None = []
page_bytes (Some bytes) = bytes

abbrev pub page_of : Memory → ℕ → List ℕ
page_of m p = page_bytes (slice_index_or m.pages p None)

-- the frames as one who reads them sees them
abbrev pub ram_of : Memory → Ram
ram_of m = record { count = length m.pages; page = page_of m }

-- so many numbers of 8 bytes
unfoldable pub numbers_in : ℕ → List ℕ → List ℕ
numbers_in zero bytes = []
numbers_in (suc k) bytes = u64_at bytes 0 ∷ numbers_in k (drop 8 bytes)

-- so many numbers, where each is that of a run
unfoldable pub runs_kept : ℕ → ℕ → ℕ → List ℕ → Option (List ℕ)
runs_kept n order k bytes = if list_all (is_run n order) (numbers_in k bytes) then Some (numbers_in k bytes) else None

-- how many runs a list frame may have: only the last may have room left, and behind it there are as many as the file says
abbrev pub has_count : ℕ → ℕ → ℕ → ℕ → Bool
has_count count next before folios =
    nat_lt 0 count && nat_le count LISTED && (next == 0 || count == LISTED) && (nat_lt 0 next || before + count == folios)

abbrev pub front_with : ℕ → Option (List ℕ) → Option (Front ℕ)
front_with next None = None
front_with next (Some runs) = Some (record { next = next; items = runs })

-- a list frame behind record frames that were read and so many runs
unfoldable pub list_front_at : Ram → ℕ → ℕ → ℕ → List ℕ → ℕ → Option (Front ℕ)
list_front_at ram order folios before seen at =
    if is_frame ram.count at && not (list_any (nat_eq at) seen)
    && has_count (u64_at (ram.page at) 8) (u64_at (ram.page at) 0) before folios then
    front_with (u64_at (ram.page at) 0) (runs_kept ram.count order (u64_at (ram.page at) 8) (drop 16 (ram.page at)))
    else None
