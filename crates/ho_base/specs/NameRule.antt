-- Which bytes are a name, and how a name is kept.
use Rattle.std.specs.Prelude.{◌≡◌, ℕ, ◌-◌, Bool, ◌&&◌, ◌||◌, ◌==◌, nat_le, List, ◌++◌, length, take, replicate, IsTrue}
use Rattle.std.specs.List.{list_all}
use Rattle.ho_base.specs.declared.name.Name.TheInside.{Inside}

-- a digit, a letter, a dot, a line or a dash
abbrev pub is_name_byte : ℕ → Bool
is_name_byte b = (nat_le 48 b && nat_le b 57) || (nat_le 65 b && nat_le b 90) || (nat_le 97 b && nat_le b 122) || b == 46 || b == 95 || b == 45

-- 1 to 63 bytes of the set of names
abbrev pub is_name : List ℕ → Bool
is_name bytes = nat_le 1 (length bytes) && nat_le (length bytes) 63 && list_all is_name_byte bytes

-- what contracts see of a name: its bytes
abbrev pub name_view : Inside → List ℕ
name_view n = take n.len n.bytes

-- a name's fields: its bytes, and zeros behind them
abbrev pub name_fields : List ℕ → Inside
name_fields bytes = record { len = length bytes; bytes = bytes ++ replicate (63 - length bytes) 0 }

-- the fields are those of a name's bytes
pub record NameFits (n : Inside) : Type 0 where
  pub same : name_fields (name_view n) ≡ n
  pub valid : IsTrue (is_name (name_view n))
