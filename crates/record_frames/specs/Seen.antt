-- The record frames that were read.
use Rattle.std.specs.Prelude.{◌≡◌, ℕ, ◌<◌, ◌≤◌, false, nat_eq, List, length, get_or}
use Rattle.std.specs.List.{list_any}
use Rattle.ho_base.specs.declared.limits.TheConstants.{MAX_FRAMES}
use Rattle.ho_events.specs.Lists.{firsts}
use Rattle.record_frames.specs.declared.seen.Seen.TheInside.{Inside}

-- how many frames the machine has, and the numbers of the record frames that were read, in order
pub record SeenValue : Type 0 where
  pub count : ℕ
  pub numbers : List ℕ

abbrev pub seen_view : Inside → SeenValue
seen_view s = record { count = length s.flags.items; numbers = firsts s.numbers.items }

-- a flag is set exactly where its frame was read
pub record KeepsFlags (s : Inside) : Type 0 where
  pub size : length s.flags.items ≤ MAX_FRAMES
  pub flags : (p : ℕ) → p < length s.flags.items → get_or s.flags.items p false ≡ list_any (nat_eq p) (firsts s.numbers.items)
