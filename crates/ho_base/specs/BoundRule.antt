-- What the bytes of a bound record are, and how they are kept.
use Rattle.std.specs.Prelude.{◌≡◌, ℕ, ◌-◌, Bool, nat_le, List, ◌++◌, length, take, replicate, IsTrue}
use Rattle.ho_base.specs.declared.bound.Bound.TheInside.{Inside}

-- at most 64 bytes, of any value
abbrev pub is_bound : List ℕ → Bool
is_bound bytes = nat_le (length bytes) 64

-- what contracts see of a bound record: its bytes
abbrev pub bound_view : Inside → List ℕ
bound_view b = take b.len b.bytes

-- a bound record's fields: its bytes, and zeros behind them
abbrev pub bound_fields : List ℕ → Inside
bound_fields bytes = record { len = length bytes; bytes = bytes ++ replicate (64 - length bytes) 0 }

-- the fields are those of a bound record's bytes
pub record BoundFits (b : Inside) : Type 0 where
  pub same : bound_fields (bound_view b) ≡ b
  pub valid : IsTrue (is_bound (bound_view b))
