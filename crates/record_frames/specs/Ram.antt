-- Frames as one who reads them sees them.
use Rattle.std.specs.Prelude.{◌≡◌, ℕ, ◌^◌, Bool, ◌&&◌, nat_lt, List, length, take}
use Rattle.std.specs.List.{flat_map, range_with_len}

-- how many frames there are, and the bytes of each
pub record Ram : Type 0 where
  pub count : ℕ
  pub page : ℕ → List ℕ

-- a number names a frame, and not frame 0
abbrev pub is_frame : ℕ → ℕ → Bool
is_frame n p = nat_lt 0 p && nat_lt p n

-- bytes begin with these
abbrev pub Begins : List ℕ → List ℕ → Type 0
Begins bytes front = take (length front) bytes ≡ front

-- the bytes of a run of 2^order frames
abbrev pub run_bytes : Ram → ℕ → ℕ → List ℕ
run_bytes ram order first = flat_map ram.page (range_with_len first (2 ^ order))

-- a frame with what is written into it
pub record Page : Type 0 where
  pub at : ℕ
  pub bytes : List ℕ
