-- What contracts see of a home.
use Rattle.std.specs.Prelude.{◌≡◌, ℕ, ◌+◌, ◌≤◌, ◌⊎◌}
use denote.RawPtr.{Ptr, block_ptr, null_ptr}

-- one machine's frames: where their region begins, how many they are, and a key that no other frames of that time have
pub record HomeId : Type 0 where
  pub mark : Ptr
  pub frames : ℕ
  pub key : ℕ

-- the n-th byte from a place on
abbrev pub byte_at : ℕ → Ptr → Ptr
byte_at n (block_ptr b o) = block_ptr b (n + o)
byte_at n null_ptr = null_ptr

-- the n bytes from p on and the m bytes from q on are places that have none in common
abbrev pub Apart : Ptr → ℕ → Ptr → ℕ → Type 0
Apart (block_ptr b o) n (block_ptr c u) m = b ≡ c → (o + n ≤ u) ⊎ (u + m ≤ o)
Apart (block_ptr b o) n null_ptr m = ⊥
Apart null_ptr n q m = ⊥
