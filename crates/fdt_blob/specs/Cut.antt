-- A structure block that was read up to a place.
use Rattle.std.specs.Prelude.{◌≡◌, ℕ, List, ◌++◌}
use Rattle.std.specs.List.{flat_map, AllByRecursion}
use Rattle.fdt_blob.specs.Tokens.{Token, IsToken, token_bytes, Item, items_of}

-- The block is the bytes of tokens and a rest, and the tokens say these items.
pub record HasRead (strings block : List ℕ) (items : List Item) (rest : List ℕ) : Type 0 where
  pub tokens : List Token
  pub each : AllByRecursion (IsToken strings) tokens
  pub parts : block ≡ flat_map token_bytes tokens ++ rest
  pub say : items_of tokens ≡ items
