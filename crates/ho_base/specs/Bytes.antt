-- Numbers of 8 bytes within a list of bytes, the lowest byte first.
use Rattle.std.specs.Prelude.{ℕ, ◌+◌, List, ◌++◌, take, drop}
use Rattle.std.specs.Int.{w64, from_le_bytes, to_le_bytes}

-- the number that the 8 bytes from a place on spell
abbrev pub u64_at : List ℕ → ℕ → ℕ
u64_at bytes at = from_le_bytes w64 (take 8 (drop at bytes))

-- the bytes with the 8 from a place on replaced by those of a number
abbrev pub with_u64_at : List ℕ → ℕ → ℕ → List ℕ
with_u64_at bytes at value = take at bytes ++ to_le_bytes w64 value ++ drop (at + 8) bytes
