-- Lists of pairs that are found by a name.
use Rattle.std.specs.Prelude.{ℕ, if◌then◌else◌, List, [], ◌∷◌}
use Rattle.std.specs.Prelude.{Option, None, Some}
use Rattle.ho_events.specs.Lists.{same_bytes}

-- what stands first under a name
unfoldable pub among : {V : Type 0} → List ℕ → List (List ℕ × V) → Option V
among name [] = None
among name (e ∷ es) = if same_bytes e.0 name then Some e.1 else among name es
