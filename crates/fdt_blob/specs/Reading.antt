-- Reading one token at the front of a structure block, field by field.
use Rattle.std.specs.Prelude.{◌≡◌, ℕ, ◌+◌, ◌==◌, nat_lt, nat_eq, List, [], ◌∷◌, length, take, drop, Option, Some, None, if◌then◌else◌}
use Rattle.std.specs.Int.{w32, from_be_bytes}
use Rattle.std.specs.List.{list_all}
use Rattle.fdt_blob.specs.Tokens.{Token, begin_node, property, end_node, nop, padding, Item, item_of}

infixl 10 ◌>>=◌
abbrev pub ◌>>=◌ : {A B : Type 0} → Option A → (A → Option B) → Option B
None >>= f = None
(Some x) >>= f = f x

-- What a function returned, seen by view, is what reading gives.
abbrev pub Gives : {X Y : Type 0} → (X → Y) → Option X → Option Y → Type 0
Gives view None read = read ≡ None
Gives view (Some x) read = read ≡ Some (view x)

-- a number of four bytes, and the bytes behind it
abbrev pub number_at : List ℕ → Option (ℕ × List ℕ)
number_at bytes = if nat_lt (length bytes) 4 then None else Some (from_be_bytes w32 (take 4 bytes), drop 4 bytes)

-- this many bytes, and those behind them
abbrev pub part_at : ℕ → List ℕ → Option (List ℕ × List ℕ)
part_at n bytes = if nat_lt (length bytes) n then None else Some (take n bytes, drop n bytes)

-- the bytes behind this many zeros
unfoldable pub behind_zeros : ℕ → List ℕ → Option (List ℕ)
behind_zeros n bytes = do
  zeros ← part_at n bytes
  if list_all (nat_eq 0) zeros.0 then Some zeros.1 else None

-- the bytes before the first zero
abbrev pub before_zero : List ℕ → Option (List ℕ)
before_zero [] = None
before_zero (b ∷ bytes) = if b == 0 then Some [] else (before_zero bytes >>= λ text. Some (b ∷ text))

-- a name with a zero behind it, among the next 32 bytes
unfoldable pub text_at : List ℕ → Option (List ℕ)
text_at bytes = before_zero (take 32 bytes)

-- what belongs to BEGIN_NODE, and the bytes behind it
unfoldable pub begun_at : List ℕ → Option (Token × List ℕ)
begun_at bytes = do
  name ← text_at bytes
  rest ← behind_zeros (padding (length name + 1)) (drop (length name + 1) bytes)
  Some (begin_node name, rest)

-- what belongs to PROP, and the bytes behind it
unfoldable pub property_at : List ℕ → List ℕ → Option (Token × List ℕ)
property_at strings bytes = do
  size ← number_at bytes
  place ← number_at size.1
  name ← text_at (drop place.0 strings)
  value ← part_at size.0 place.1
  rest ← behind_zeros (padding size.0) value.1
  Some (property name place.0 value.0, rest)

-- what belongs to a token of this kind, and the bytes behind it
unfoldable pub of_kind : List ℕ → ℕ → List ℕ → Option (Token × List ℕ)
of_kind strings kind bytes =
    if kind == 1 then begun_at bytes
    else if kind == 2 then Some (end_node, bytes)
    else if kind == 3 then property_at strings bytes
    else if kind == 4 then Some (nop, bytes)
    else None

-- the token at the front, and the bytes behind it
unfoldable pub token_at : List ℕ → List ℕ → Option (Token × List ℕ)
token_at strings bytes = do
  kind ← number_at bytes
  of_kind strings kind.0 kind.1

-- the token's item instead of the token
abbrev pub as_item : Option (Token × List ℕ) → Option (Option Item × List ℕ)
as_item None = None
as_item (Some x) = Some (item_of x.0, x.1)
