-- What a call that failed has written.
use Rattle.std.specs.Prelude.{◌≡◌, ℕ, ◌<◌, List, length, take, Option}
use Rattle.ho_io.specs.Told.{behind}

-- of these bytes some from the front were written, and not all of them
abbrev pub WrotePart : Option (List ℕ) → Option (List ℕ) → List ℕ → Type 0
WrotePart before after bytes = (n : ℕ) × ((n < length bytes) × (after ≡ behind before (take n bytes)))
