-- Which frames and scratch areas are a machine's shape.
use Rattle.std.specs.Prelude.{ℕ, ◌+◌, ◌-◌, ◌/◌, Bool, true, false, ◌&&◌, ◌||◌, nat_lt, nat_le, List, [], ◌∷◌, length, IsTrue}
use Rattle.std.specs.List.{list_all, list_any}
use Rattle.ho_base.specs.declared.limits.TheConstants.{PAGE_BYTES, MIN_FRAMES, MAX_FRAMES, SCRATCH_AREAS}
use Rattle.ho_base.specs.declared.shape.Area.{Area}

-- the frames of a machine and its scratch areas
pub record Layout : Type 0 where
  pub frames : ℕ
  pub scratch : List Area

-- the frame behind an area's last one
abbrev pub area_end : Area → ℕ
area_end a = a.first.0 + a.count

-- an area isn't empty, doesn't hold frame 0, and ends within n frames
abbrev pub is_area : ℕ → Area → Bool
is_area n a = nat_lt 0 a.count && nat_lt 0 a.first.0 && nat_le (area_end a) n

-- two areas share no frame
abbrev pub apart : Area → Area → Bool
apart a b = nat_le (area_end a) b.first.0 || nat_le (area_end b) a.first.0

-- no two areas share a frame
abbrev pub all_apart : List Area → Bool
all_apart [] = true
all_apart (a ∷ areas) = list_all (apart a) areas && all_apart areas

-- area 0 has a frame for each page of a map with a byte per frame
abbrev pub map_fits : ℕ → List Area → Bool
map_fits n [] = false
map_fits n (a ∷ areas) = nat_le ((n + (PAGE_BYTES - 1)) / PAGE_BYTES) a.count

-- 32 to 16,384 frames; 1 to 4 areas, each within the frames and without frame 0, no two of which
-- overlap; area 0 is large enough
abbrev pub is_layout : ℕ → List Area → Bool
is_layout n areas =
    nat_le MIN_FRAMES n && nat_le n MAX_FRAMES && nat_lt 0 (length areas) && nat_le (length areas) SCRATCH_AREAS
    && list_all (is_area n) areas && all_apart areas && map_fits n areas

-- the frames and areas are a shape
pub record IsLayout (frames : ℕ) (areas : List Area) : Type 0 where
  pub fits : IsTrue (is_layout frames areas)

-- an area holds a frame
abbrev pub holds : ℕ → Area → Bool
holds p a = nat_le a.first.0 p && nat_lt p (area_end a)

-- a frame is a scratch frame: one of the areas holds it
abbrev pub in_scratch : List Area → ℕ → Bool
in_scratch areas p = list_any (holds p) areas
