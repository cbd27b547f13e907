-- What an object of the outside tells of its bytes, and when a count of faults rose.
-- `Some` bytes are what it tells; `None` says that it doesn't tell.
use Rattle.std.specs.Prelude.{◌≡◌, ℕ, ◌+◌, ◌≤◌, ◌⊎◌, min, List, [], ◌∷◌, ◌++◌, Option, Some, None, ⊤}

-- the greatest count of faults; a count stands still there
abbrev pub count_end : ℕ
count_end = 18446744073709551615

-- a count after one more fault
abbrev pub raised : ℕ → ℕ
raised n = min (n + 1) count_end

-- a count rose from one moment to another; one that stands at its end is read as one that rose
abbrev pub Rose : ℕ → ℕ → Type 0
Rose before now = raised before ≤ now

-- what is told, if anything is, is exactly these bytes
abbrev pub Tells : Option (List ℕ) → List ℕ → Type 0
Tells None bytes = ⊤
Tells (Some told) bytes = told ≡ bytes

-- what is told, with these bytes behind it
unfoldable pub behind : Option (List ℕ) → List ℕ → Option (List ℕ)
behind None bytes = None
behind (Some told) bytes = Some (told ++ bytes)

-- what is told, with these bytes in front of it
unfoldable pub in_front : List ℕ → Option (List ℕ) → Option (List ℕ)
in_front bytes None = None
in_front bytes (Some told) = Some (bytes ++ told)

-- these bytes, told by what tells where this does
unfoldable pub told_with : {A : Type 0} → Option A → List ℕ → Option (List ℕ)
told_with None bytes = None
told_with (Some told) bytes = Some bytes

-- the list that is told, with one more item at its end
unfoldable pub with_item : {A : Type 0} → Option (List A) → A → Option (List A)
with_item None item = None
with_item (Some items) item = Some (items ++ item ∷ [])

-- what is told is one of two; a call that failed may not have had the memory to keep what it was asked
abbrev pub IsOneOf : {A : Type 0} → A → A → A → Type 0
IsOneOf before after now = (now ≡ before) ⊎ (now ≡ after)

-- the pairs of a name and bytes that are told, with a sink's pair at their end; a sink that doesn't tell adds none
unfoldable pub with_sink : Option (List (List ℕ × List ℕ)) → Option (List ℕ) → Option (List ℕ) → Option (List (List ℕ × List ℕ))
with_sink (Some made) (Some name) (Some bytes) = Some (made ++ (name, bytes) ∷ [])
with_sink made name bytes = made
